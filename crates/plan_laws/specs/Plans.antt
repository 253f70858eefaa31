-- Plans: changes of things in order, that lead from old things to new ones. Own, the order of a hitless plan as well.
use Rattle.std.specs.Prelude.{◌≡◌, ◌⊎◌, ℕ, ◌+◌, ◌-◌, ◌≤◌, List, [], ◌∷◌, Option, Some, None}
use Rattle.sai_types.specs.declared.thing.Thing.{Thing}
use Rattle.sai_types.specs.Alike.{IsIn}
use Rattle.sai_types.specs.Names.{ThingName, Route, name_kind, name_of}
use Rattle.sai_types.specs.Objects.{level}

-- a new thing is made, or takes the place of the old one of its name, or what has this name is removed
pub data PlanChange : Type 0 where
  Make : Thing → PlanChange
  Set : Thing → PlanChange
  Remove : ThingName → PlanChange

-- the name that a change is about
abbrev pub subject : PlanChange → ThingName
subject (Make t) = name_of t
subject (Set t) = name_of t
subject (Remove k) = k

-- what has this name afterwards
abbrev pub outcome : PlanChange → Option Thing
outcome (Make t) = Some t
outcome (Set t) = Some t
outcome (Remove k) = None

-- what stands after a change
abbrev pub stands_after : PlanChange → (Thing → Type 0) → Thing → Type 0
stands_after c now t = (now t × (name_of t ≡ subject c → ⊥)) ⊎ (outcome c ≡ Some t)

-- what stands after changes, made in order
abbrev pub stands_after_all : List PlanChange → (Thing → Type 0) → Thing → Type 0
stands_after_all [] now = now
stands_after_all (c ∷ cs) now = stands_after_all cs (stands_after c now)

-- the changes rise by their ranks, and no two are about one name
abbrev pub AreRanked : (PlanChange → ℕ) → List PlanChange → Type 0
AreRanked rank [] = Unit {0}
AreRanked rank (c ∷ cs) = ((d : PlanChange) → IsIn d cs → (rank c ≤ rank d) × (subject c ≡ subject d → ⊥)) × AreRanked rank cs

-- the changes that make the new things of the old ones: what the old ones lack is made, what differs is set, and what the new ones lack is removed
pub record IsViewPlan (rank : PlanChange → ℕ) (old new : List Thing) (plan : List PlanChange) : Type 0 where
  pub makes : (t : Thing) → IsIn (Make t) plan → IsIn t new × ((u : Thing) → IsIn u old → name_of u ≡ name_of t → ⊥)
  pub sets : (t : Thing) → IsIn (Set t) plan → IsIn t new × (u : Thing) × IsIn u old × (name_of u ≡ name_of t)
  pub removes : (k : ThingName) → IsIn (Remove k) plan → (u : Thing) × IsIn u old × (name_of u ≡ k) × ((t : Thing) → IsIn t new → name_of t ≡ k → ⊥)
  pub whole : (t : Thing) → IsIn t new → IsIn t old ⊎ (IsIn (Make t) plan ⊎ IsIn (Set t) plan)
  pub gone : (u : Thing) → IsIn u old → ((t : Thing) × IsIn t new × (name_of t ≡ name_of u)) ⊎ IsIn (Remove (name_of u)) plan
  pub in_order : AreRanked rank plan

-- ---- the two orders

abbrev pub make_place : ThingName → ℕ
make_place (Route v p) = 728 - p.len
make_place k = level (name_kind k)

abbrev pub set_place : ThingName → ℕ
set_place (Route v p) = 800
set_place k = 400 + level (name_kind k)

abbrev pub remove_place : ThingName → ℕ
remove_place (Route v p) = 1000 + p.len
remove_place k = 1400 - level (name_kind k)

-- a hitless plan makes all but routes, kinds rising, and sets all but routes; it makes routes, the longest prefix first, sets routes, and removes routes, the shortest first; and it removes the others, kinds falling
abbrev pub hitless_rank : PlanChange → ℕ
hitless_rank (Make t) = make_place (name_of t)
hitless_rank (Set t) = set_place (name_of t)
hitless_rank (Remove k) = remove_place k

-- a cold plan is two: one from the old things to none, kinds falling, and one from none to the new things, kinds rising
abbrev pub cold_rank : PlanChange → ℕ
cold_rank (Make t) = level (name_kind (name_of t))
cold_rank (Set t) = 400
cold_rank (Remove k) = 1400 - level (name_kind k)

-- The calls of a plan before they are made: an object that stands is named by its identifier, and one that the plan makes by that of the new view. Own.
use Rattle.std.specs.Prelude.{◌≡◌, ℕ, ◌+◌, ◌≤◌, true, ◌++◌, List, [], ◌∷◌, map, option_map}
use Rattle.sai_types.specs.declared.ids.Rid.{Rid}
use Rattle.sai_types.specs.declared.ids.Vid.{Vid}
use Rattle.sai_types.specs.declared.body.Attr.{Attr}
use Rattle.sai_types.specs.declared.body.Body.{Body}
use Rattle.sai_types.specs.declared.body.Call.{Call}
use Rattle.sai_types.specs.declared.body.Call.TheVariants as call
use Rattle.sai_types.specs.declared.body.Entry.{Entry}
use Rattle.sai_types.specs.declared.body.Entry.TheVariants as entry
use Rattle.sai_types.specs.declared.plan.PlanId.{PlanId}
use Rattle.sai_types.specs.declared.plan.PlanId.TheVariants as plan_id
use Rattle.sai_types.specs.declared.thing.Thing.{Thing}
use Rattle.sai_types.specs.After.{entry_of}
use Rattle.sai_types.specs.Alike.{IsIn}
use Rattle.sai_types.specs.Made.{made_after_all}
use Rattle.sai_types.specs.Names.{ThingName, name_of}
use Rattle.chip_layout.specs.Bodies.{IsBody, IsChange}
use Rattle.chip_layout.specs.Layout.{Has, Layout, has_number, next_rid}
use Rattle.chip_layout.specs.Renamed.{call_renamed}
use Rattle.plan_laws.specs.Moments.{attr_place}
use Rattle.plan_laws.specs.Plans.{PlanChange, Make, Remove, Set}

-- a layout that a list of new objects gives
abbrev pub viewed : List (Vid × Thing) → Layout Vid
viewed things v t = IsIn (v, t) things

-- the new things, each by the identifier that a plan names it by: the old one where its name has one, else its own
abbrev pub plan_layout : Layout Rid → Layout Vid → Layout PlanId
plan_layout start view (plan_id.Old i) t = ((v : Vid) × view v t) × Has start (name_of t) i
plan_layout start view (plan_id.New v) t = view v t × ((i : Rid) → Has start (name_of t) i → ⊥)

-- the identifier on the chip that a plan's identifier comes to
abbrev pub resolve : (Vid → Rid) → PlanId → Rid
resolve ids (plan_id.Old i) = i
resolve ids (plan_id.New v) = ids v

-- what stands has the identifier that it had at the start, and what was made the one that was made for it
pub record Resolves (start : Layout Rid) (view : Layout Vid) (ids : Vid → Rid) (now : Layout Rid) : Type 0 where
  pub old : (k : ThingName) (i : Rid) → Has start k i → (j : Rid) → Has now k j → Has now k i
  pub new : (v : Vid) (t : Thing) → view v t → has_number t ≡ true → ((i : Rid) → Has start (name_of t) i → ⊥) → (j : Rid) → Has now (name_of t) j → Has now (name_of t) (ids v)

-- the entry of an old object, as a plan names it
abbrev pub old_entry : Entry Rid → Entry PlanId
old_entry (entry.Oid r) = entry.Oid (plan_id.Old r)
old_entry (entry.Own vr ip) = entry.Own (option_map plan_id.Old vr) ip
old_entry (entry.Neigh r ip) = entry.Neigh (plan_id.Old r) ip
old_entry (entry.Route vr p) = entry.Route (option_map plan_id.Old vr) p

-- sets of an old object, in the order of attributes from this place on and each at most once, by which its thing becomes another
abbrev pub PlansSets : Layout PlanId → Entry PlanId → ℕ → List (Call PlanId) → Thing → Thing → Type 0
PlansSets by e place [] u t = u ≡ t
PlansSets by e place (c ∷ cs) u t = (a : Attr PlanId) × (v : Thing) × IsChange (Has by) u a v × (c ≡ call.Set e a) × (place ≤ attr_place a) × PlansSets by e (attr_place a + 1) cs v t

-- the calls of a change
abbrev pub PlansChange : Layout Rid → Layout Vid → PlanChange → List (Call PlanId) → Type 0
PlansChange start view (Make t) calls = (b : Body PlanId) × IsBody (Has (plan_layout start view)) t b × (calls ≡ call.Create b ∷ [])
PlansChange start view (Set t) calls = (i : Rid) × (u : Thing) × (b : Body Rid) × start i u × (name_of u ≡ name_of t) × IsBody (Has start) u b × PlansSets (plan_layout start view) (old_entry (entry_of i.0 b)) 0 calls u t
PlansChange start view (Remove k) calls = (i : Rid) × (u : Thing) × (b : Body Rid) × start i u × (name_of u ≡ k) × IsBody (Has start) u b × (calls ≡ call.Remove (old_entry (entry_of i.0 b)) ∷ [])

-- the calls of changes, one after another; a new thing's identifier comes to the one that is made for it
abbrev pub PlansChanges : Layout Rid → Layout Vid → (Vid → Rid) → ℕ → List PlanChange → List (Call PlanId) → Type 0
PlansChanges start view ids made [] calls = calls ≡ []
PlansChanges start view ids made (c ∷ cs) calls = (front : List (Call PlanId)) × (rest : List (Call PlanId)) × (calls ≡ front ++ rest) × PlansChange start view c front × ((t : Thing) → c ≡ Make t → (v : Vid) (u : Thing) → view v u → name_of u ≡ name_of t → has_number u ≡ true → ids v ≡ next_rid made) × PlansChanges start view ids (made_after_all made (map (call_renamed (resolve ids)) front)) cs rest

-- A chip at a moment of a plan, and the calls of the plan's changes. Own.
use Rattle.std.specs.Prelude.{◌≡◌, ◌⊎◌, ℕ, ◌+◌, ◌≤◌, ◌++◌, List, [], ◌∷◌}
use Rattle.sai_types.specs.declared.ids.Rid.{Rid}
use Rattle.sai_types.specs.declared.body.Attr.{Attr}
use Rattle.sai_types.specs.declared.body.Attr.TheVariants as attr
use Rattle.sai_types.specs.declared.body.Body.{Body}
use Rattle.sai_types.specs.declared.body.Call.{Call}
use Rattle.sai_types.specs.declared.body.Call.TheVariants as call
use Rattle.sai_types.specs.declared.thing.Thing.{Thing}
use Rattle.sai_types.specs.After.{entry_of}
use Rattle.sai_types.specs.Alike.{IsIn}
use Rattle.sai_types.specs.Made.{IsWhole, made_after_all}
use Rattle.sai_types.specs.Names.{name_of}
use Rattle.sai_types.specs.Objects.{Objects}
use Rattle.chip_layout.specs.Bodies.{IsBody, IsChange}
use Rattle.chip_layout.specs.Layout.{Has, IsLaidOut, Layout, next_rid, with_changed, with_thing, without}
use Rattle.plan_laws.specs.Plans.{PlanChange, Make, Remove, Set, stands_after_all}

-- the chip is laid out, and what stands on it is what stands after these changes of the old things
pub record IsMoment (old : List Thing) (done : List PlanChange) (layout : Layout Rid) (made : ℕ) (objects : Objects) : Type 0 where
  pub whole : IsWhole made objects
  pub laid : IsLaidOut layout objects
  pub sound : (i : Rid) (t : Thing) → layout i t → stands_after_all done (λ u. IsIn u old) t
  pub all : (t : Thing) → stands_after_all done (λ u. IsIn u old) t → (i : Rid) × layout i t

-- the order in which a port's attributes are set; the other kinds have one that can be set, or none
abbrev pub attr_place : {I : Type 0} → Attr I → ℕ
attr_place (attr.Mtu mtu) = 1
attr_place (attr.Up up) = 2
attr_place _ = 0

-- calls that set attributes of a thing, in their order from this place on and each at most once, so that it becomes another thing
abbrev pub SetsThing : Rid → ℕ → List (Call Rid) → Layout Rid → Thing → Thing → Type 0
SetsThing i place [] layout u t = u ≡ t
SetsThing i place (c ∷ cs) layout u t = (b : Body Rid) × (a : Attr Rid) × (v : Thing) × IsBody (Has layout) u b × IsChange (Has layout) u a v × (c ≡ call.Set (entry_of i.0 b) a) × (place ≤ attr_place a) × SetsThing i (attr_place a + 1) cs (with_changed layout i v) v t

-- the calls of a change
abbrev pub MakesChange : Layout Rid → PlanChange → List (Call Rid) → Type 0
MakesChange layout (Make t) calls = (b : Body Rid) × IsBody (Has layout) t b × (calls ≡ call.Create b ∷ [])
MakesChange layout (Set t) calls = (i : Rid) × (u : Thing) × layout i u × (name_of u ≡ name_of t) × SetsThing i 0 calls layout u t
MakesChange layout (Remove k) calls = (i : Rid) × (u : Thing) × (b : Body Rid) × layout i u × (name_of u ≡ k) × IsBody (Has layout) u b × (calls ≡ call.Remove (entry_of i.0 b) ∷ [])

-- the layout after a change, where so many identifiers were made before
abbrev pub layout_after : ℕ → Layout Rid → PlanChange → Layout Rid
layout_after made layout (Make t) = with_thing layout (next_rid made) t
layout_after made layout (Set t) = λ j u. without layout (name_of t) j u ⊎ (Has layout (name_of t) j × (u ≡ t))
layout_after made layout (Remove k) = without layout k

-- calls that make changes one after another, each by the identifiers that stand then
abbrev pub MakesChanges : ℕ → Layout Rid → List PlanChange → List (Call Rid) → Type 0
MakesChanges made layout [] calls = calls ≡ []
MakesChanges made layout (c ∷ cs) calls = (front : List (Call Rid)) × (rest : List (Call Rid)) × (calls ≡ front ++ rest) × MakesChange layout c front × MakesChanges (made_after_all made front) (layout_after made layout c) cs rest

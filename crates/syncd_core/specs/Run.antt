-- The calls of a plan as they come to the chip, each by the ties of its moment. Own.
use Rattle.std.specs.Prelude.{◌≡◌, ℕ, ◌+◌, List, [], ◌∷◌, Option, Some, None, if◌then◌else◌}
use Rattle.sai_types.specs.declared.body.Call.{Call}
use Rattle.sai_types.specs.declared.ids.Rid.{Rid}
use Rattle.sai_types.specs.declared.ids.Vid.{Vid}
use Rattle.sai_types.specs.declared.plan.PlanCall.{PlanCall}
use Rattle.sai_types.specs.declared.plan.PlanId.{PlanId}
use Rattle.sai_types.specs.declared.plan.PlanId.TheVariants as plan_id
use Rattle.sai_types.specs.After.{makes_id}
use Rattle.chip_layout.specs.Renamed.{call_renamed}
use Rattle.asic_view.specs.View.{ViewObjects, rid_at}
use Rattle.syncd_core.specs.Synced.{tied_by}
use Rattle.syncd_core.specs.Tied.{plan_tie}

-- how many identifiers the chip has made after a call
abbrev pub made_by : ℕ → PlanCall → ℕ
made_by made c = if makes_id c.call then made + 1 else made

-- the view after it, where what it makes gets the chip's next number
abbrev pub view_by : ℕ → ViewObjects → PlanCall → ViewObjects
view_by made view c = if makes_id c.call then tied_by view c.makes (record { 0 = made + 1 }) else view

-- the calls on the chip, and the view after them
abbrev pub tied_calls : ℕ → ViewObjects → List PlanCall → List (Call Rid)
tied_calls made view [] = []
tied_calls made view (c ∷ cs) = call_renamed (plan_tie view) c.call ∷ tied_calls (made_by made c) (view_by made view c) cs

abbrev pub tied_after : ℕ → ViewObjects → List PlanCall → ViewObjects
tied_after made view [] = view
tied_after made view (c ∷ cs) = tied_after (made_by made c) (view_by made view c) cs

-- an identifier of a plan has come to one of the chip
abbrev pub HasComeToChip : ViewObjects → PlanId → Type 0
HasComeToChip view (plan_id.Old r) = Unit {0}
HasComeToChip view (plan_id.New v) = (r : Rid) × (rid_at view v ≡ Some r)

-- a call names such identifiers alone: what others come to has no part in it
abbrev pub NamesTied : ViewObjects → Call PlanId → Type 0
NamesTied view c = (f : PlanId → Rid) → ((i : PlanId) → HasComeToChip view i → f i ≡ plan_tie view i) → call_renamed f c ≡ call_renamed (plan_tie view) c

-- what a call makes is tied to nothing yet
abbrev pub IsUntied : ViewObjects → Option Vid → Type 0
IsUntied view None = Unit {0}
IsUntied view (Some v) = rid_at view v ≡ None

-- each call names what is tied by then, and makes what is not
abbrev pub AreInTime : ℕ → ViewObjects → List PlanCall → Type 0
AreInTime made view [] = Unit {0}
AreInTime made view (c ∷ cs) = NamesTied view c.call × IsUntied view c.makes × AreInTime (made_by made c) (view_by made view c) cs

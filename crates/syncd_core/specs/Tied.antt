-- The chip's identifiers of a view's objects. Own.
use Rattle.std.specs.Prelude.{Option, Some, None}
use Rattle.sai_types.specs.declared.ids.Rid.{Rid}
use Rattle.sai_types.specs.declared.ids.Vid.{Vid}
use Rattle.sai_types.specs.declared.plan.PlanId.{PlanId}
use Rattle.plan_laws.specs.Calls.{resolve}
use Rattle.asic_view.specs.View.{ViewObjects, rid_at}

-- no object of a chip has the number 0
abbrev pub rid_or_none : Option Rid → Rid
rid_or_none None = record { 0 = 0 }
rid_or_none (Some r) = r

-- the chip's identifier to which an object is tied
abbrev pub tie_of : ViewObjects → Vid → Rid
tie_of view v = rid_or_none (rid_at view v)

-- the same of an object that a plan names
abbrev pub plan_tie : ViewObjects → PlanId → Rid
plan_tie view = resolve (tie_of view)

-- The call that comes next of a plan. Own.
use Rattle.std.specs.Prelude.{List, [], ◌∷◌, Option, Some, None}
use Rattle.sai_types.specs.declared.ids.Rid.{Rid}
use Rattle.sai_types.specs.declared.body.Call.{Call}
use Rattle.sai_types.specs.declared.plan.PlanCall.{PlanCall}
use Rattle.chip_layout.specs.Renamed.{call_renamed}
use Rattle.asic_view.specs.View.{ViewObjects}
use Rattle.syncd_core.specs.Tied.{plan_tie}

-- the first of these calls as it comes to the chip, by the ties so far
abbrev pub next_call : List PlanCall → ViewObjects → Option (Call Rid)
next_call [] view = None
next_call (c ∷ cs) view = Some (call_renamed (plan_tie view) c.call)

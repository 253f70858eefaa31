-- A round that has ended, as its lines tell of it. Own.
use Rattle.std.specs.Prelude.{ℕ, List}
use Rattle.table_schema.specs.Plan.{Ports}
use Rattle.table_schema.specs.Rows.{Rows}
use Rattle.sai_types.specs.Objects.{Objects}
use Rattle.sai_types.specs.declared.body.Call.{Call}
use Rattle.sai_types.specs.declared.ids.Rid.{Rid}
use Rattle.switch_model.specs.declared.mark.Mark.{Mark}
use Rattle.swss_report.specs.declared.round.RoundEnd.{RoundEnd}

-- the port plan, the number of the round from 1, its marks, how many writes were taken so far, their rows, how many objects of each kind the chip has room for, what stands on it, and the calls that took effect so far
pub record Ended : Type 0 where
  pub plan : Ports
  pub number : ℕ
  pub marks : List Mark
  pub taken : ℕ
  pub rows : Rows
  pub capacities : List ℕ
  pub objects : Objects
  pub effects : List (Call Rid)

-- what the value says from which its lines are made
abbrev pub ended_round : RoundEnd → Ended
ended_round end = record {
  plan = end.plan.now;
  number = end.number;
  marks = end.marks.now;
  taken = end.taken;
  rows = end.rows.now;
  capacities = end.chip.now.capacities;
  objects = end.chip.now.objects;
  effects = end.chip.now.effects;
}

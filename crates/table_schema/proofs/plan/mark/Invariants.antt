use Rattle.std.proofs.Common.{◌≡◌, drop, length}
use Rattle.table_schema.specs.PlanIndex.{marked}
use Rattle.table_schema.proofs.plan.mark.Given as goal

-- the table so far, with the lanes that are left, is that of all lanes
abbrev pub invariant-loop-lane : goal.invariant-loop-lane
invariant-loop-lane l = (length l.taken.items ≡ 512) × (marked l.taken.items (drop l.lane-index l.lanes) ≡ marked l.fn.taken.items l.lanes)

use Rattle.std.proofs.Common.{◌≡◌, ◌-◌, drop}
use Rattle.sai_chip.specs.declared.mark.TakenMark.{TakenMark}
use Rattle.sai_chip.specs.Marks.{lane_marks}
use Rattle.sai_chip.specs.Tally.{count_at, claims}
use Rattle.sai_chip.proofs.counts.Counts.free_lanes.Given as goal

-- the counts so far, less the lanes that are left, are those without all lanes
abbrev pub invariant-loop-lane : goal.invariant-loop-lane
invariant-loop-lane l = (m : TakenMark) → count_at l.self m - claims m (lane_marks (drop l.lane-index l.lanes)) ≡ count_at l.fn.self m - claims m (lane_marks l.lanes)

use Rattle.std.proofs.Common.{length}
use Rattle.sai_chip.proofs.counts.Counts.+take_lanes.Given as goal

abbrev pub decreases-take_lanes : goal.decreases-take_lanes
decreases-take_lanes l = length l.lanes.now

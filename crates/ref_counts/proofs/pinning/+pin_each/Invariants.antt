use Rattle.std.proofs.Common.{length}
use Rattle.ref_counts.proofs.pinning.+pin_each.Given as goal

abbrev pub decreases-pin_each : goal.decreases-pin_each
decreases-pin_each l = length l.rows.now

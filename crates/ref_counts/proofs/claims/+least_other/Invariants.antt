use Rattle.std.proofs.Common.{length}
use Rattle.ref_counts.proofs.claims.+least_other.Given as goal

abbrev pub decreases-least_other : goal.decreases-least_other
decreases-least_other l = length l.pins.now

use Rattle.std.proofs.Common.{length}
use Rattle.ref_counts.proofs.placing.+end_places.Given as goal

abbrev pub decreases-end_places : goal.decreases-end_places
decreases-end_places l = length l.pins.now

use Rattle.std.proofs.Common.{length}
use Rattle.ref_counts.proofs.placing.+use_places.Given as goal

abbrev pub decreases-use_places : goal.decreases-use_places
decreases-use_places l = length l.pins.now

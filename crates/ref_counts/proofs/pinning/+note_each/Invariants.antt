use Rattle.std.proofs.Common.{length}
use Rattle.ref_counts.proofs.pinning.+note_each.Given as goal

abbrev pub decreases-note_each : goal.decreases-note_each
decreases-note_each l = length l.keys.now

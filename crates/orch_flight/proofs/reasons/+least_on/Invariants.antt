use Rattle.std.proofs.Common.{length}
use Rattle.orch_flight.proofs.reasons.+least_on.Given as goal

abbrev pub decreases-least_on : goal.decreases-least_on
decreases-least_on l = length l.keys.now

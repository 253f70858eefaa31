use Rattle.std.proofs.Common.{◌≡◌}
use Rattle.swss_tests.proofs.tests.queue.empty.Given as goal

abbrev pub invariant-loop-number : goal.invariant-loop-number
invariant-loop-number g l = l.taker.intake ≡ l.intake

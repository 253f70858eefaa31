use Rattle.std.proofs.Common.{◌<◌, ◌≤◌, ℕ, length, get_or}
use Rattle.intake_queue.specs.Values.{Sender, AreAllPasses}
use Rattle.swss_tests.proofs.tests.queue.fill.Given as goal

abbrev pub invariant-loop-number : goal.invariant-loop-number
invariant-loop-number g l = AreAllPasses l.intake l.passes.items × ((i : ℕ) (d : Sender) → i < length l.passes.items → length (get_or l.passes.items i d).sent ≤ l.number)

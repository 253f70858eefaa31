use Rattle.std.proofs.Common.{◌<◌, ◌≤◌, ◌+◌, ℕ, length, get_or}
use Rattle.intake_queue.specs.Values.{Sender, AreAllPasses}
use Rattle.swss_tests.proofs.tests.queue.find_full.Given as goal

abbrev pub invariant-loop-at : goal.invariant-loop-at
invariant-loop-at g l = AreAllPasses l.intake l.passes.items × ((i : ℕ) (d : Sender) → i < length l.passes.items → length (get_or l.passes.items i d).sent ≤ 1024 + l.at)

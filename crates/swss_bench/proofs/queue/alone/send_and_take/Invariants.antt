use Rattle.std.proofs.Common.{◌≡◌, ◌≤◌, ◌+◌, ◌*◌, length}
use Rattle.swss_bench.proofs.queue.alone.send_and_take.Given as goal

abbrev pub invariant-loop-number : goal.invariant-loop-number
invariant-loop-number g l = (l.taker.intake ≡ l.intake) × (l.pass.queue ≡ l.intake.queue) × (length l.pass.sent ≤ l.tenth * 4294967296 + l.number)

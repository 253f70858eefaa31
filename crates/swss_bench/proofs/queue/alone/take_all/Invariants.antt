use Rattle.std.proofs.Common.{◌≡◌}
use Rattle.swss_bench.proofs.queue.alone.take_all.Given as goal

abbrev pub invariant-loop-taken : goal.invariant-loop-taken
invariant-loop-taken g l = l.taker.intake ≡ l.intake

use Rattle.std.proofs.Common.{◌≡◌}
use Rattle.swss_bench.specs.Ready.{IsQueueReady}
use Rattle.swss_bench.proofs.queue.alone.send_tenths.Given as goal

abbrev pub invariant-loop-tenth : goal.invariant-loop-tenth
invariant-loop-tenth g l = (l.taker.intake ≡ l.intake) × IsQueueReady l.intake l.tenth l.pass

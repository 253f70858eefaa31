use Rattle.std.proofs.Common.{All}
use Rattle.swss_bench.specs.Ready.{IsQueueReady}
use Rattle.swss_bench.proofs.queue.together.send_tenths.Given as goal

abbrev pub invariant-loop-tenth : goal.invariant-loop-tenth
invariant-loop-tenth g l = All (λ s. IsQueueReady l.intake l.tenth s) l.passes

use Rattle.std.proofs.Common.{arith}
use Rattle.swss_run.proofs.Tables.{told-next}
use Rattle.swss_run.proofs.told.Told.go_on.Goals as goal

pub loop-sent-preserved : goal.loop-sent-preserved
loop-sent-preserved c = (
  omega (arith, c.loop-sent.invariant.0),
  told-next c.loop-sent.self c.args.self.now.count c.loop-sent.sent-index c.args.taken.now c.sent-item.result c.apply.new.self c.loop-sent.invariant.0 c.loop-sent.invariant.1 c.loop-sent-test.true c.sent-item.is c.in_ok-apply.ensures.ok,
)

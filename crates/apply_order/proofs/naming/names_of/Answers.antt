use Rattle.apply_order.proofs.Steps.{names-step}
use Rattle.apply_order.proofs.naming.names_of.Goals as goal

pub loop-pair-preserved : goal.loop-pair-preserved
loop-pair-preserved c = names-step c.loop-pair.names c.put_pair.new.names c.args.old.now c.args.new.now c.args.pairs.now c.loop-pair.pair-index (0, 0) _ c.loop-pair-test.true c.in_ok-put_pair.ensures c.loop-pair.invariant

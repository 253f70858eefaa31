use Rattle.producer_table.specs.Pending.{writes_of_op}
use Rattle.producer_table.proofs.Placed.{kept}
use Rattle.consumer_table.specs.Ops.{HaveOpNames, ops_with}
use Rattle.consumer_table.proofs.OpWrites.{HaveOpNames-after_all}
use Rattle.consumer_table.proofs.to_sync.ToSync.put.Goals as goal

pub invariant_of-self : goal.invariant_of-self
invariant_of-self c =
    let ops = c.self.inside.ops in
    kept HaveOpNames c.add.result ops (ops_with ops c.args.op) c.add.new.ops c.add.ensures.ok c.add.ensures.err c.self.invariant (HaveOpNames-after_all ops (writes_of_op c.args.op) c.self.invariant)

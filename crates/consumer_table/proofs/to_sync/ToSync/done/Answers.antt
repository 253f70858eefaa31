use Rattle.std.proofs.Common.{sym, subst}
use Rattle.consumer_table.specs.Ops.{HaveOpNames}
use Rattle.consumer_table.proofs.OpWrites.{HaveOpNames-without}
use Rattle.consumer_table.proofs.to_sync.ToSync.done.Goals as goal

pub invariant_of-self : goal.invariant_of-self
invariant_of-self c = subst HaveOpNames (sym c.remove.ensures.entries) (HaveOpNames-without c.self.inside.ops c.args.key.now c.self.invariant)

use Rattle.table_schema.specs.declared.write.Write.TheVariants.{Del}
use Rattle.producer_table.specs.Pending.{HaveRisingNames, pending_after}
use Rattle.producer_table.proofs.PendingWrites.{HaveRisingNames-after}
use Rattle.producer_table.proofs.Placed.{kept}
use Rattle.producer_table.proofs.waiting.Waiting.del.Goals as goal

pub invariant_of-self-2 : goal.invariant_of-self-2
invariant_of-self-2 c =
    let pending = c.self.inside.keys in
    kept HaveRisingNames c.insert.result pending (pending_after pending (Del c.args.key)) c.insert.new.self c.insert.ensures.entries c.insert.ensures.err c.self.invariant (HaveRisingNames-after pending (Del c.args.key) c.self.invariant)

use Rattle.table_schema.specs.declared.write.Write.TheVariants.{Set}
use Rattle.producer_table.specs.Pending.{HaveRisingNames, pending_after}
use Rattle.producer_table.proofs.PendingWrites.{HaveRisingNames-after}
use Rattle.producer_table.proofs.Placed.{kept}
use Rattle.producer_table.proofs.waiting.Waiting.set.Goals as goal

pub invariant_of-self : goal.invariant_of-self
invariant_of-self c =
    let pending = c.self.inside.keys in
    let write = Set c.args.key c.args.fields in
    kept HaveRisingNames c.lay.result pending (pending_after pending write) c.lay.new.keys c.lay.ensures.ok c.lay.ensures.err c.self.invariant (HaveRisingNames-after pending write c.self.invariant)

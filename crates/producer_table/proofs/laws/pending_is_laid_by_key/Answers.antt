use Rattle.producer_table.proofs.PendingWrites.{fields_at-with_pending}
use Rattle.producer_table.proofs.laws.pending_is_laid_by_key.Goals as goal

pub returns : goal.returns
returns c = λ rows pending key rising order. fields_at-with_pending rows pending key rising order.keys

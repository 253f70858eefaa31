use Rattle.producer_table.proofs.PendingWrites.{with_pending-after, with_pending-pending_of}
use Rattle.producer_table.proofs.laws.pending_is_laid.Goals as goal

pub returns-clause-all : goal.returns-clause-all
returns-clause-all c = with_pending-pending_of

pub returns-clause-more : goal.returns-clause-more
returns-clause-more c = with_pending-after

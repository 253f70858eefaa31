use Rattle.producer_table.proofs.PendingWrites.{AreInOrder-after, AreInOrder-pending_of, found-pending_of}
use Rattle.producer_table.proofs.laws.written_keys_wait.Goals as goal

pub returns-clause-keys : goal.returns-clause-keys
returns-clause-keys c = found-pending_of

pub returns-clause-order : goal.returns-clause-order
returns-clause-order c = AreInOrder-pending_of

pub returns-clause-more : goal.returns-clause-more
returns-clause-more c = AreInOrder-after

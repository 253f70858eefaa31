use Rattle.consumer_table.proofs.OpWrites.{AreOpsInOrder-without}
use Rattle.sync_tables.proofs.KeysLeave.{has_left}
use Rattle.sync_tables.proofs.laws.keys_leave.Goals as goal

pub returns-clause-left : goal.returns-clause-left
returns-clause-left c = has_left

pub returns-clause-order : goal.returns-clause-order
returns-clause-order c = AreOpsInOrder-without

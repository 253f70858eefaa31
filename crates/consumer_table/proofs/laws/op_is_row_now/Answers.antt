use Rattle.consumer_table.proofs.SyncedRows.{AreRowsNow-after_steps}
use Rattle.consumer_table.proofs.laws.op_is_row_now.Goals as goal

pub returns : goal.returns
returns c = AreRowsNow-after_steps

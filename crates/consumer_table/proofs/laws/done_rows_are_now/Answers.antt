use Rattle.consumer_table.proofs.SyncedRows.{AreRowsNow-finished}
use Rattle.consumer_table.proofs.laws.done_rows_are_now.Goals as goal

pub returns : goal.returns
returns c = AreRowsNow-finished

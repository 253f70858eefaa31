use Rattle.consumer_table.proofs.SyncedRows.{AreRowsNow-added}
use Rattle.consumer_table.proofs.laws.added_rows_are_now.Goals as goal

pub returns : goal.returns
returns c = AreRowsNow-added

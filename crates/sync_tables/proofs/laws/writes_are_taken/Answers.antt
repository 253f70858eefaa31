use Rattle.sync_tables.proofs.Waits.{takes_write}
use Rattle.sync_tables.proofs.laws.writes_are_taken.Goals as goal

pub returns : goal.returns
returns c = takes_write

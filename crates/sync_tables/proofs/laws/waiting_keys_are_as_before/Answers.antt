use Rattle.sync_tables.proofs.LeftWaiting.{as_before}
use Rattle.sync_tables.proofs.laws.waiting_keys_are_as_before.Goals as goal

pub returns : goal.returns
returns c = as_before

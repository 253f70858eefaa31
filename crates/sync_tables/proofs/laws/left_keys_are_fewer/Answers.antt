use Rattle.sync_tables.proofs.KeysLeave.{fewer-keys}
use Rattle.sync_tables.proofs.laws.left_keys_are_fewer.Goals as goal

pub returns : goal.returns
returns c = fewer-keys

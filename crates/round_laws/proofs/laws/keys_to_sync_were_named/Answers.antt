use Rattle.round_laws.proofs.Awaited.{awaited-few, ops-few}
use Rattle.round_laws.proofs.ToSync.{keys-named}
use Rattle.round_laws.proofs.laws.keys_to_sync_were_named.Goals as goal

pub returns-clause-named : goal.returns-clause-named
returns-clause-named c = λ workers core chip k x known at. keys-named core chip x known k at

pub returns-clause-few : goal.returns-clause-few
returns-clause-few c = λ workers. ops-few {workers = workers}

pub returns-clause-listed : goal.returns-clause-listed
returns-clause-listed c = λ workers. awaited-few {workers = workers}

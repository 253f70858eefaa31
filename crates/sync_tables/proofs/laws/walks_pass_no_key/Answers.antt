use Rattle.sync_tables.proofs.Walks.{next-key, no-key}
use Rattle.sync_tables.proofs.laws.walks_pass_no_key.Goals as goal

pub returns-clause-next : goal.returns-clause-next
returns-clause-next c = λ ops after q order is. next-key after ops q order.keys is

pub returns-clause-last : goal.returns-clause-last
returns-clause-last c = λ keys after q none i behind. no-key after keys q none i behind

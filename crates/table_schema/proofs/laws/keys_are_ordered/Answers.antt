use Rattle.table_schema.proofs.Keys.{key_total, key_exact}
use Rattle.table_schema.proofs.laws.keys_are_ordered.Goals as goal

pub returns-clause-order : goal.returns-clause-order
returns-clause-order c = key_total

pub returns-clause-exact : goal.returns-clause-exact
returns-clause-exact c = key_exact

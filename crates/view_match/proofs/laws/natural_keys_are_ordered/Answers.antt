use Rattle.view_match.proofs.Exact.{natural_key_exact}
use Rattle.view_match.proofs.Orders.{keys-by_parts}
use Rattle.view_match.proofs.laws.natural_keys_are_ordered.Goals as goal

pub returns-clause-order : goal.returns-clause-order
returns-clause-order c = keys-by_parts

pub returns-clause-exact : goal.returns-clause-exact
returns-clause-exact c = natural_key_exact

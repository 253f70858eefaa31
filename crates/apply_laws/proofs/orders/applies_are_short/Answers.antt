use Rattle.apply_laws.proofs.Order.Ends.{all-short}
use Rattle.apply_laws.proofs.orders.applies_are_short.Goals as goal

pub returns : goal.returns
returns c = λ capacities made old new things plan ids x. all-short x

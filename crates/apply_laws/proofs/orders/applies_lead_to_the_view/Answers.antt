use Rattle.apply_laws.proofs.Order.Ends.{all-alike}
use Rattle.apply_laws.proofs.orders.applies_lead_to_the_view.Goals as goal

pub returns : goal.returns
returns c = λ capacities made old new things plan ids x. all-alike x

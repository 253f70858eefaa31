use Rattle.apply_laws.proofs.Order.Ends.{all-origin}
use Rattle.apply_laws.proofs.orders.applies_show_old_or_new.Goals as goal

pub returns : goal.returns
returns c = λ capacities made old new things plan ids front rest t x cut fw i. all-origin x front rest t cut fw i

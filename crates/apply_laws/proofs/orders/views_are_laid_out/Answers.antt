use Rattle.apply_laws.proofs.Order.Viewing.{laid_things, shown-of, view-of}
use Rattle.apply_laws.proofs.orders.views_are_laid_out.Goals as goal

pub returns : goal.returns
returns c = λ made objects new m. (laid_things m, view-of m, shown-of m)

use Rattle.apply_laws.proofs.Order.Ends.{steady-decided, steady-forwarded, steady-stays}
use Rattle.apply_laws.proofs.orders.hitless_applies_are_steady.Goals as goal

pub returns-clause-decided : goal.returns-clause-decided
returns-clause-decided c = λ capacities made old new things plan ids front rest x e cut. steady-decided x front rest e cut

pub returns-clause-stays : goal.returns-clause-stays
returns-clause-stays c = λ capacities made old new things plan ids front more rest x e cut. steady-stays x front more rest e cut

pub returns-clause-forwarded : goal.returns-clause-forwarded
returns-clause-forwarded c = λ capacities made old new things plan ids front rest x e cut. steady-forwarded x front rest e cut

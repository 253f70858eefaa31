use Rattle.apply_laws.proofs.Order.Applying.{cold-making, cold-removing, cold-split, cold_makes, cold_removes, hitless-calls, hitless_changes, is-cold, is-hitless}
use Rattle.apply_laws.proofs.orders.plans_are_of_the_views.Goals as goal

pub returns-clause-hitless : goal.returns-clause-hitless
returns-clause-hitless c = λ capacities made old new things plan ids x e. (hitless_changes x.of e, is-hitless x.of e, hitless-calls x.of e ids x.numbered)

pub returns-clause-cold : goal.returns-clause-cold
returns-clause-cold c = λ capacities made old new things plan ids x e. (cold_removes x.of e, cold_makes x.of e, _, _, cold-split x.of e, is-cold x.of e, cold-removing x.of e ids x.numbered, cold-making x.of e ids x.numbered)

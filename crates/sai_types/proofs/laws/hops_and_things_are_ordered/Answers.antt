use Rattle.sai_types.proofs.Orders.{hops-by_parts, things-by_parts, whops-by_parts}
use Rattle.sai_types.proofs.laws.hops_and_things_are_ordered.Goals as goal

pub returns-clause-hops : goal.returns-clause-hops
returns-clause-hops c = hops-by_parts

pub returns-clause-weighed : goal.returns-clause-weighed
returns-clause-weighed c = whops-by_parts

pub returns-clause-things : goal.returns-clause-things
returns-clause-things c = things-by_parts

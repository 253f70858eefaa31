use Rattle.plan_laws.proofs.Cold.{cold-alike, cold-legal}
use Rattle.plan_laws.proofs.laws.cold_applies.Goals as goal

pub returns-clause-legal : goal.returns-clause-legal
returns-clause-legal c = λ capacities made objects new removes makes front rest x. cold-legal x

pub returns-clause-alike : goal.returns-clause-alike
returns-clause-alike c = λ capacities made objects new removes makes front rest x. cold-alike x

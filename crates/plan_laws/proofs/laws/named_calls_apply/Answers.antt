use Rattle.std.proofs.Common.{refl}
use Rattle.plan_laws.proofs.Applied.{plan-comes}
use Rattle.plan_laws.proofs.Cold.{cold-comes}
use Rattle.plan_laws.proofs.laws.named_calls_apply.Goals as goal

pub returns-clause-hitless : goal.returns-clause-hitless
returns-clause-hitless c = λ capacities made objects new todo due view ids calls x run. record { planned = x; run = (plan-comes x todo due refl view ids calls run).run }

pub returns-clause-cold : goal.returns-clause-cold
returns-clause-cold c = λ capacities made objects new removes makes view ids front rest x first second. cold-comes x view ids front rest first second

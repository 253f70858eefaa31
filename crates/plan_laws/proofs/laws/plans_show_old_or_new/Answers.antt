use Rattle.std.proofs.Common.{refl}
use Rattle.plan_laws.proofs.Applied.{hitless-origin}
use Rattle.plan_laws.proofs.Routes.{cold-origin}
use Rattle.plan_laws.proofs.laws.plans_show_old_or_new.Goals as goal

pub returns-clause-hitless : goal.returns-clause-hitless
returns-clause-hitless c = λ capacities made objects new todo due front rest t x fw i. hitless-origin x front rest refl t fw i

pub returns-clause-cold : goal.returns-clause-cold
returns-clause-cold c = λ capacities made objects new removes makes front rest some more t x part fw i. cold-origin x some more part t fw i

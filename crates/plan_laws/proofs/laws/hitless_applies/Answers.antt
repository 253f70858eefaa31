use Rattle.std.proofs.Common.{refl}
use Rattle.plan_laws.proofs.Applied.{hitless-alike, hitless-end, hitless-kept, hitless-steady}
use Rattle.plan_laws.proofs.laws.hitless_applies.Goals as goal

pub returns-clause-legal : goal.returns-clause-legal
returns-clause-legal c = λ capacities made objects new todo due calls x. (hitless-end x).legal

pub returns-clause-alike : goal.returns-clause-alike
returns-clause-alike c = λ capacities made objects new plan calls x. hitless-alike x refl

pub returns-clause-decided : goal.returns-clause-decided
returns-clause-decided c = λ capacities made objects new todo due front rest x. (hitless-steady x front rest refl).0

pub returns-clause-stays : goal.returns-clause-stays
returns-clause-stays c = λ capacities made objects new todo due front more rest x. hitless-kept x front more rest refl

pub returns-clause-forwarded : goal.returns-clause-forwarded
returns-clause-forwarded c = λ capacities made objects new todo due front rest x. (hitless-steady x front rest refl).1

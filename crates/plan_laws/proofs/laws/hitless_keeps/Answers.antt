use Rattle.std.proofs.Common.{refl}
use Rattle.plan_laws.specs.Old.{old_layout}
use Rattle.plan_laws.specs.Views.{made_names}
use Rattle.plan_laws.proofs.Counts.{run-makes}
use Rattle.plan_laws.proofs.Doubles.{lacking-shown}
use Rattle.plan_laws.proofs.Keeping.{hitless-removes}
use Rattle.plan_laws.proofs.Rooms.{made-lacking}
use Rattle.plan_laws.proofs.laws.hitless_keeps.Goals as goal

pub returns-clause-made : goal.returns-clause-made
returns-clause-made c = λ capacities made objects new todo due calls kind x. (
  made_names kind todo,
  lacking-shown x.planned.chip new x.planned.view kind (made_names kind todo) (made-lacking x.planned.is_plan todo due refl kind),
  run-makes kind made (old_layout objects new) todo calls x.run,
)

pub returns-clause-kept : goal.returns-clause-kept
returns-clause-kept c = λ capacities made objects new todo due calls e x i. hitless-removes x e i

use Rattle.switch_machine.proofs.Idle.{idle-none, next-event}
use Rattle.switch_machine.proofs.Reasoned.{reason-first, reason-true}
use Rattle.switch_machine.proofs.laws.idle_is_true.Goals as goal

pub returns-clause-next : goal.returns-clause-next
returns-clause-next c = λ plan workers capacities w s t call x. next-event plan workers capacities w s call t x

pub returns-clause-none : goal.returns-clause-none
returns-clause-none c = λ plan workers capacities w s t call is kept idle x. idle-none plan is workers capacities w s kept idle call t x

pub returns-clause-reasons : goal.returns-clause-reasons
returns-clause-reasons c = λ plan workers capacities w s k is kept idle quiet h. let x = idle.hindered k h in (x.0, reason-true plan is workers capacities s kept quiet k x.0 x.1, reason-first plan is workers capacities s kept quiet k x.0 x.1)

use Rattle.switch_machine.proofs.Steering.{decides-once, forwards-once, outside}
use Rattle.switch_machine.proofs.laws.routes_are_steady.Goals as goal

pub returns-clause-outside : goal.returns-clause-outside
returns-clause-outside c = λ plan workers capacities s t call x v prefix a is kept route out. outside plan is workers capacities s t call x v prefix a kept route out

pub returns-clause-decided : goal.returns-clause-decided
returns-clause-decided c = λ plan workers capacities s t x es run used v prefix a is kept route quiet end by. decides-once plan is workers capacities s t x es run used v prefix a kept route quiet end by

pub returns-clause-forwarded : goal.returns-clause-forwarded
returns-clause-forwarded c = λ plan workers capacities s t x es run used v prefix a is kept route quiet end by. forwards-once plan is workers capacities s t x es run used v prefix a kept route quiet end by

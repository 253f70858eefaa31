use Rattle.switch_machine.proofs.Reasoned.{reason-first, reason-true}
use Rattle.switch_machine.proofs.laws.reasons_are_true.Goals as goal

pub returns-clause-is_true : goal.returns-clause-is_true
returns-clause-is_true c = λ plan workers capacities s k wait is kept quiet x. reason-true plan is workers capacities s kept quiet k wait x

pub returns-clause-is_first : goal.returns-clause-is_first
returns-clause-is_first c = λ plan workers capacities s k wait is kept quiet x. reason-first plan is workers capacities s kept quiet k wait x

use Rattle.switch_machine.proofs.Runs.{alike-quiet, good-quiet}
use Rattle.switch_machine.proofs.Reasoned.{closed}
use Rattle.switch_machine.proofs.laws.rest_is_alike.Goals as goal

pub returns-clause-alike : goal.returns-clause-alike
returns-clause-alike c = λ plan workers capacities s is kept quiet. alike-quiet plan is workers capacities s kept quiet

pub returns-clause-good : goal.returns-clause-good
returns-clause-good c = λ plan workers capacities s k is kept quiet none. good-quiet plan is workers capacities s kept quiet k none

pub returns-clause-closed : goal.returns-clause-closed
returns-clause-closed c = λ plan workers capacities s is kept. closed plan is workers capacities s kept

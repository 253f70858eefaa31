use Rattle.switch_machine.proofs.Kept.{legal-call}
use Rattle.switch_machine.proofs.Runs.{legal-run}
use Rattle.switch_machine.proofs.Reasoned.{has-call}
use Rattle.switch_machine.proofs.laws.calls_are_legal.Goals as goal

pub returns-clause-legal : goal.returns-clause-legal
returns-clause-legal c = λ plan workers capacities s es is kept run. legal-run plan is workers capacities s es kept run

pub returns-clause-due : goal.returns-clause-due
returns-clause-due c = λ plan workers capacities s call is kept x. legal-call plan is workers capacities s kept call x

pub returns-clause-there : goal.returns-clause-there
returns-clause-there c = λ plan workers capacities s w f x xs is kept below flying due. has-call plan is workers capacities s kept w f x xs below flying due

use Rattle.switch_machine.proofs.Runs.{kept-empty, kept-run, safe-fresh}
use Rattle.switch_machine.proofs.laws.runs_are_safe.Goals as goal

pub returns-clause-begins : goal.returns-clause-begins
returns-clause-begins c = λ plan workers capacities is. kept-empty plan is workers capacities

pub returns-clause-fresh : goal.returns-clause-fresh
returns-clause-fresh c = λ plan workers capacities written keys is told dated all. safe-fresh plan is workers capacities written keys told dated all

pub returns-clause-kept : goal.returns-clause-kept
returns-clause-kept c = λ plan workers capacities s es is kept run. kept-run plan is workers capacities s es kept run

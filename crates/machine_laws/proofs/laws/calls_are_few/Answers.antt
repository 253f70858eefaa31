use Rattle.machine_laws.proofs.Paying.{operation-alone-few, run-few}
use Rattle.machine_laws.proofs.laws.calls_are_few.Goals as goal

pub returns-clause-operation : goal.returns-clause-operation
returns-clause-operation c = λ plan workers capacities s t x es kept quiet run. operation-alone-few plan workers capacities s t x es kept quiet run

pub returns-clause-run : goal.returns-clause-run
returns-clause-run c = λ plan workers capacities es is run. run-few plan is workers capacities es run

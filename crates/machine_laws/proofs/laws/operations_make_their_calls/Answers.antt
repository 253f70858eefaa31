use Rattle.machine_laws.proofs.Completing.{runs-to-end}
use Rattle.machine_laws.proofs.Settling.{alone}
use Rattle.machine_laws.proofs.laws.operations_make_their_calls.Goals as goal

pub returns-clause-ends : goal.returns-clause-ends
returns-clause-ends c = λ plan workers capacities s t x is kept quiet. runs-to-end plan is workers capacities s t kept quiet x

pub returns-clause-calls : goal.returns-clause-calls
returns-clause-calls c = λ plan workers capacities k s t calls is kept quiet x. alone plan is workers capacities k s t calls kept quiet x

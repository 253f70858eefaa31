use Rattle.registry_laws.proofs.Core.Empty.{stands_dropped, stands_popped, stands_taken}
use Rattle.registry_laws.proofs.machine.rows_stand_for.Goals as goal

pub returns-clause-taken : goal.returns-clause-taken
returns-clause-taken c = λ plan capacities names room flown rid s t is stands x. stands_taken plan is capacities names room flown rid s t stands x

pub returns-clause-popped : goal.returns-clause-popped
returns-clause-popped c = λ plan capacities names room flown rid s t is stands x. stands_popped plan is capacities names room flown rid s t stands x

pub returns-clause-dropped : goal.returns-clause-dropped
returns-clause-dropped c = λ plan capacities names room flown rid s t is stands x. stands_dropped plan is capacities names room flown rid s t stands x

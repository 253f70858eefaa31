use Rattle.registry_laws.proofs.Core.Resting.{none_flies}
use Rattle.registry_laws.proofs.machine.workers_rest.Goals as goal

pub returns-clause-idle : goal.returns-clause-idle
returns-clause-idle c = λ plan capacities names room flown rid s w stands none. stands.board.idle w none

pub returns-clause-quiet : goal.returns-clause-quiet
returns-clause-quiet c = λ plan capacities names room flown rid s stands none. none_flies plan capacities names room flown s stands.board none

pub returns-clause-flown : goal.returns-clause-flown
returns-clause-flown c = λ plan capacities names room flown rid s w x stands at. let y = stands.board.flying w x at in (stands.board.registers.below w _ y.flying, y.worker, y.flying, y.due)

use Rattle.std.proofs.Common.{refl}
use Rattle.switch_machine.specs.Events.{placed_good}
use Rattle.registry_laws.proofs.Allowed.{may_start}
use Rattle.registry_laws.proofs.Waiting.{reason_by}
use Rattle.registry_laws.proofs.Core.Resting.{differing_reads, flown_busy, free_rests}
use Rattle.registry_laws.proofs.machine.keys_wait_or_begin.Goals as goal

pub returns-clause-may : goal.returns-clause-may
returns-clause-may c = λ plan capacities names room flown rid s w k is stands less none free differs fits. may_start plan is capacities s stands.safe names room flown stands.board w none k (free_rests plan capacities names room flown s stands.board k free) less (differing_reads plan s stands.safe.sound k differs) differs fits

pub returns-clause-waits : goal.returns-clause-waits
returns-clause-waits c = λ plan capacities names room numbers flown rid s w k wait is stands are none free differs fits h. reason_by plan is 4 capacities s stands.safe names room stands.board.registers stands.board.busy numbers are w (stands.board.idle w none) k (free_rests plan capacities names room flown s stands.board k free) fits (placed_good plan s.machine.board s.written k) refl differs wait h

pub returns-clause-busy : goal.returns-clause-busy
returns-clause-busy c = λ plan capacities names room flown rid s v x stands at. flown_busy plan capacities names room flown s stands.board v x at

pub returns-clause-rests : goal.returns-clause-rests
returns-clause-rests c = λ plan capacities names room flown rid s k stands free. free_rests plan capacities names room flown s stands.board k free

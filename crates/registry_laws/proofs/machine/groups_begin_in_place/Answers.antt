use Rattle.registry_laws.proofs.Core.Begun.{begun_once, stands_begun}
use Rattle.registry_laws.proofs.machine.groups_begin_in_place.Goals as goal

pub returns-clause-stands : goal.returns-clause-stands
returns-clause-stands c = λ plan capacities names room flown rid s w x stands at. stands_begun plan capacities names room flown rid s stands w x at

pub returns-clause-begun : goal.returns-clause-begun
returns-clause-begun c = begun_once

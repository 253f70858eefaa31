use Rattle.registry_laws.proofs.Grouped.{builds_begun, takes_begun}
use Rattle.registry_laws.proofs.flying.groups_begin.Goals as goal

pub returns-clause-builds : goal.returns-clause-builds
returns-clause-builds c = λ plan capacities names room flown m w x hops board at none builds. builds_begun plan capacities names room flown m board w x at hops none builds

pub returns-clause-takes : goal.returns-clause-takes
returns-clause-takes c = λ plan capacities names room flown m w x hops board at none builds takes. takes_begun plan capacities names room flown m board w x at hops none builds takes

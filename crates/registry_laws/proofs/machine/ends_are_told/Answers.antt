use Rattle.registry_laws.proofs.Core.Told.{built_on, goes_as}
use Rattle.registry_laws.proofs.machine.ends_are_told.Goals as goal

pub returns-clause-built : goal.returns-clause-built
returns-clause-built c = λ plan capacities names names' room flown rid s w x g g' made is stands at has took b none. built_on plan is capacities names room flown rid s stands w x at g has made g' names' took b none

pub returns-clause-taken : goal.returns-clause-taken
returns-clause-taken c = λ plan capacities names names' room flown rid s w x g g' made is stands at has took goes. goes_as plan is capacities names room flown rid s stands w x at g has made g' names' took goes

use Rattle.registry_laws.proofs.Core.Ends.{started-ends, took-ends}
use Rattle.registry_laws.proofs.machine.ends_may_come.Goals as goal

pub returns-clause-started : goal.returns-clause-started
returns-clause-started c = λ plan capacities names names' room room' numbers flown rid s w k f is stands free un may starts empty. started-ends plan is capacities names room flown rid s stands w names' room' numbers k f free un may starts empty

pub returns-clause-took : goal.returns-clause-took
returns-clause-took c = λ plan capacities names names' room flown rid s w x x' made is stands there begun took empty. took-ends plan is capacities names room flown rid s stands w names' x x' made there begun took empty

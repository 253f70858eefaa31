use Rattle.registry_laws.proofs.Core.Renamed.{stands_over_chip}
use Rattle.registry_laws.proofs.machine.views_go_over.Goals as goal

pub returns : goal.returns
returns c = λ plan capacities names room flown rid rid' s later made objects is stands ties whole laid. stands_over_chip plan is capacities names room flown rid rid' s stands later ties made objects whole laid

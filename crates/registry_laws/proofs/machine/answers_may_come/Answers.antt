use Rattle.registry_laws.proofs.Core.Taken.{may_take_next}
use Rattle.registry_laws.proofs.machine.answers_may_come.Goals as goal

pub returns : goal.returns
returns c = λ plan capacities names room flown rid s w x d made is stands at begun told number. may_take_next plan is capacities names room flown rid s stands w x at d made number begun told

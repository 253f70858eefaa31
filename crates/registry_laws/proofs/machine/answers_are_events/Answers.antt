use Rattle.registry_laws.proofs.Core.Answered.{answered}
use Rattle.registry_laws.proofs.machine.answers_are_events.Goals as goal

pub returns-clause-goes_on : goal.returns-clause-goes_on
returns-clause-goes_on c = λ plan capacities names names' room flown rid rid' s w x x' d made is stands at begun told number ties took some. (answered plan is capacities names room flown rid s stands w x at d made rid' number ties begun told x' names' took).0 some

pub returns-clause-ends : goal.returns-clause-ends
returns-clause-ends c = λ plan capacities names names' room flown rid rid' s w x x' d made is stands at begun told number ties took given may_end empty gives. (answered plan is capacities names room flown rid s stands w x at d made rid' number ties begun told x' names' took).1 given may_end empty gives

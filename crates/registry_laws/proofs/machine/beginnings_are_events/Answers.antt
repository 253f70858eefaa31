use Rattle.registry_laws.proofs.Core.Opened as opened
use Rattle.registry_laws.proofs.Core.Resting.{free_rests}
use Rattle.registry_laws.proofs.machine.beginnings_are_events.Goals as goal

pub returns-clause-goes_on : goal.returns-clause-goes_on
returns-clause-goes_on c = λ plan capacities names names' room room' numbers flown rid s w k later f is stands are less none free differs fits left starts some. opened.goes_on plan is capacities names room flown rid s stands room' numbers are w less none k (free_rests plan capacities names room flown s stands.board k free) differs fits later left f names' starts some

pub returns-clause-ends : goal.returns-clause-ends
returns-clause-ends c = λ plan capacities names names' room room' given numbers flown rid s w k later f is stands are less none free differs fits left starts may_end empty gives. opened.ends plan is capacities names room flown rid s stands room' numbers are w less none k (free_rests plan capacities names room flown s stands.board k free) differs fits later left f names' starts given may_end empty gives

use Rattle.registry_laws.proofs.Opened as opened
use Rattle.registry_laws.proofs.flying.begins_are_known.Goals as goal

pub returns-clause-goes_on : goal.returns-clause-goes_on
returns-clause-goes_on c = λ plan capacities s names room room' numbers flown w k later f names' is kept board are less free rests differs fits left starts some. opened.goes_on plan is capacities s kept names room room' numbers flown board are w less free k rests differs fits later left f names' starts some

pub returns-clause-ends : goal.returns-clause-ends
returns-clause-ends c = λ plan capacities s names room room' numbers flown w k later f names' given is kept board are less free rests differs fits left starts none gives. opened.ends plan is capacities s kept names room room' numbers flown board are w less free k rests differs fits later left f names' starts given none gives

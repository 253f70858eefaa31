use Rattle.registry_laws.proofs.Replies.{group_goes_on, group_is_built, group_is_gone, row_ends, row_goes_on}
use Rattle.registry_laws.proofs.flying.answers_are_known.Goals as goal

pub returns-clause-row_goes_on : goal.returns-clause-row_goes_on
returns-clause-row_goes_on c = λ plan capacities names room flown m w x d ds stands made f names' is sound board at none builds takes moves took some. row_goes_on plan is capacities m sound names room flown board w x at d ds stands moves made none builds takes f names' took some

pub returns-clause-row_ends : goal.returns-clause-row_ends
returns-clause-row_ends c = λ plan capacities names room flown m w x d ds stands made f names' given is sound board at none builds takes moves took empty gives. row_ends plan is capacities m sound names room flown board w x at d ds stands moves made none builds takes f names' took given empty gives

pub returns-clause-group_goes_on : goal.returns-clause-group_goes_on
returns-clause-group_goes_on c = λ plan capacities names room flown m w x g d ds stands made g' names' is sound board at has moves number took some. group_goes_on plan is capacities m sound names room flown board w x at d ds stands moves made g has g' names' took number some

pub returns-clause-group_is_built : goal.returns-clause-group_is_built
returns-clause-group_is_built c = λ plan capacities names room flown m w x g d ds stands made g' names' is sound board at has moves took builds empty. group_is_built plan is capacities m sound names room flown board w x at d ds stands moves made g has g' names' took builds empty

pub returns-clause-group_is_gone : goal.returns-clause-group_is_gone
returns-clause-group_is_gone c = λ plan capacities names room flown m w x g d ds stands made g' names' given is sound board at has moves took goes empty gives. group_is_gone plan is capacities m sound names room flown board w x at d ds stands moves made g has g' names' took goes empty given gives

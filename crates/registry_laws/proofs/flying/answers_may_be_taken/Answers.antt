use Rattle.registry_laws.proofs.Taking.{group_stands, held_stands, may_take, may_take_group}
use Rattle.registry_laws.proofs.flying.answers_may_be_taken.Goals as goal

pub returns-clause-row : goal.returns-clause-row
returns-clause-row c = λ plan capacities names room flown m w x made is sound board at interfaces none builds takes numbered. may_take plan is capacities names room flown m sound board w x at interfaces none builds takes made numbered

pub returns-clause-group : goal.returns-clause-group
returns-clause-group c = λ plan capacities names room flown m w x g made is sound board at has number. may_take_group plan is capacities names room flown m sound board w x at g has made number

pub returns-clause-row_stands : goal.returns-clause-row_stands
returns-clause-row_stands c = λ plan capacities names room flown m w x d rest t is sound board at none builds takes due i h. held_stands plan is capacities names room flown m sound board w x at d rest none builds takes due t i h

pub returns-clause-group_stands : goal.returns-clause-group_stands
returns-clause-group_stands c = λ plan capacities names room flown m w x g d rest t is sound board at has due i h. group_stands plan is capacities names room flown m sound board w x at g has d rest due t i h

use Rattle.registry_laws.proofs.Core.Nexts.{knows_next, row_some}
use Rattle.registry_laws.proofs.machine.next_calls_are_known.Goals as goal

pub returns-clause-knows : goal.returns-clause-knows
returns-clause-knows c = λ plan capacities names room flown rid s w x is stands at begun. knows_next plan is capacities names room flown rid s stands w x at begun

pub returns-clause-row : goal.returns-clause-row
returns-clause-row c = λ plan capacities names room flown rid s w x is stands at. ((stands.board.flying w x at).over, λ begun none. row_some plan is capacities names room flown rid s stands w x at begun none)

pub returns-clause-group : goal.returns-clause-group
returns-clause-group c = λ plan capacities names room flown rid s w x g stands at has. let z = (stands.board.flying w x at).group g has in (z.over, z.some)

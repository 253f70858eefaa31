use Rattle.switch_machine.proofs.Reasoned.{route-row, route-whole}
use Rattle.switch_machine.proofs.laws.routes_are_whole.Goals as goal

pub returns-clause-rows : goal.returns-clause-rows
returns-clause-rows c = λ plan workers capacities s v prefix g is kept h. route-row plan is workers capacities s kept v prefix g h

pub returns-clause-written : goal.returns-clause-written
returns-clause-written c = λ plan workers capacities s v prefix g is kept h. let x = route-row plan is workers capacities s kept v prefix g h in (x.0, kept.good _ x.0 x.1, x.2)

pub returns-clause-members : goal.returns-clause-members
returns-clause-members c = λ plan workers capacities s v prefix hops hop is kept h in_it. route-whole plan is workers capacities s kept v prefix hops hop h in_it

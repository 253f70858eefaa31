use Rattle.machine_laws.proofs.AtRest.{at-rest, good_interfaces}
use Rattle.machine_laws.proofs.Draining.{drains, nothing-waits}
use Rattle.machine_laws.proofs.laws.settlings_drain.Goals as goal

pub returns-clause-rests : goal.returns-clause-rests
returns-clause-rests c = λ plan workers capacities s is kept quiet. at-rest plan is workers capacities s kept quiet

pub returns-clause-interfaces : goal.returns-clause-interfaces
returns-clause-interfaces c = λ plan written. good_interfaces plan written

pub returns-clause-drains : goal.returns-clause-drains
returns-clause-drains c = λ plan workers capacities n s t keys left calls is kept quiet closed still room all rising h. drains plan is workers capacities n s t keys left calls kept quiet closed still room all rising h

pub returns-clause-nothing_waits : goal.returns-clause-nothing_waits
returns-clause-nothing_waits c = λ plan workers capacities n s t keys left calls waits is kept quiet closed still room all rising h listed. nothing-waits plan is workers capacities n s t keys left calls kept quiet closed still room all rising h waits listed

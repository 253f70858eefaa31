use Rattle.chip_layout.specs.Renamed.{call_renamed}
use Rattle.switch_machine.proofs.Kept.{legal-call}
use Rattle.registry_laws.specs.Identified.{tie_by}
use Rattle.registry_laws.proofs.Core.Due.{names_tied, next_due}
use Rattle.registry_laws.proofs.machine.tied_calls_are_due.Goals as goal

pub returns-clause-due : goal.returns-clause-due
returns-clause-due c = λ plan capacities names room flown rid s w x d is stands at begun told. next_due plan is capacities names room flown rid s stands w x at d begun told

pub returns-clause-legal : goal.returns-clause-legal
returns-clause-legal c = λ plan capacities names room flown rid s w x d is stands at begun told. legal-call plan is 4 capacities s stands.safe (call_renamed (tie_by rid) d) (next_due plan is capacities names room flown rid s stands w x at d begun told).0

pub returns-clause-tied : goal.returns-clause-tied
returns-clause-tied c = λ plan capacities names room flown rid s w x d v is stands at begun told h. names_tied plan is capacities names room flown rid s stands w x at d begun told v h

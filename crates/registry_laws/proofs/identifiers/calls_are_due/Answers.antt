use Rattle.row_layout.specs.Rows as owner
use Rattle.row_layout.specs.Shared.{shared_things}
use Rattle.orch_flight.specs.Calling.{HasVid, things_held}
use Rattle.orch_flight.specs.Grouping.{HasGroupVid}
use Rattle.registry_laws.specs.Flown.{flight_of}
use Rattle.registry_laws.proofs.Identifier.Due.{group_ports, is_due}
use Rattle.registry_laws.proofs.Identifier.Known.{group_vid_one, vid_one}
use Rattle.registry_laws.proofs.identifiers.calls_are_due.Goals as goal

pub returns-clause-row : goal.returns-clause-row
returns-clause-row c = λ plan workers capacities s names rid flown w f change rest call is kept known builds less flying due ports told. is_due plan is workers capacities s kept names rid flown known w (flight_of f) flying change rest due (HasVid plan names) (vid_one plan names flown builds) (things_held plan f) ports call less told

pub returns-clause-group : goal.returns-clause-group
returns-clause-group c = λ plan workers capacities s names rid flown w f g change rest call is kept known builds at less flying due told. is_due plan is workers capacities s kept names rid flown known w f flying change rest due (HasGroupVid plan names g) (group_vid_one plan names flown builds w g at) (shared_things (owner.Group g.hops)) (group_ports s.machine g.hops change) call less told

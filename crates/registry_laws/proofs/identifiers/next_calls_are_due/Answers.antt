use Rattle.std.proofs.Common.{◌∷◌, ◌++◌, ◌∙◌, sym, ap, subst}
use Rattle.row_layout.specs.Rows as owner
use Rattle.row_layout.specs.Shared.{shared_things}
use Rattle.switch_machine.specs.Flights.{Runs, StandsIn}
use Rattle.orch_flight.specs.Calling.{HasVid, things_held}
use Rattle.orch_flight.specs.Grouping.{HasGroupVid}
use Rattle.registry_laws.specs.Flown.{flight_of}
use Rattle.registry_laws.proofs.Identifier.Due.{group_ports, is_due}
use Rattle.registry_laws.proofs.Identifier.Known.{group_vid_one, vid_one}
use Rattle.registry_laws.proofs.Identifier.Ports.{holds_stand}
use Rattle.registry_laws.proofs.identifiers.next_calls_are_due.Goals as goal

pub returns-clause-row : goal.returns-clause-row
returns-clause-row c = λ plan workers capacities s names rid flown w f call is kept known builds less flying all holds told.
    let due = all ∙ told.2 in
    let able = (subst (Runs plan (flight_of f) (StandsIn s.machine)) due (kept.sound.runs w (flight_of f) flying)).0 in
    let x = is_due plan is workers capacities s kept names rid flown known w (flight_of f) flying told.0 told.1 due (HasVid plan names) (vid_one plan names flown builds) (things_held plan f) (holds_stand plan s.machine f told.0 able holds) call less told.3 in
    (x.0, x.1, sym all ∙ ap s.machine.due (sym x.1) ∙ x.0.due)

pub returns-clause-group : goal.returns-clause-group
returns-clause-group c = λ plan workers capacities s names rid flown w f g behind call is kept known builds at less flying all told.
    let due = all ∙ ap (λ l. l ++ behind) told.2 in
    let x = is_due plan is workers capacities s kept names rid flown known w f flying told.0 (told.1 ++ behind) due (HasGroupVid plan names g) (group_vid_one plan names flown builds w g at) (shared_things (owner.Group g.hops)) (group_ports s.machine g.hops told.0) call less told.3 in
    (x.0, x.1, (told.1, told.2 ∙ ap (λ d. d ∷ told.1) (sym x.2)))

use Rattle.std.proofs.Common.{subst}
use Rattle.switch_machine.specs.Flights.{Runs, StandsIn}
use Rattle.registry_laws.specs.Flown.{flight_of}
use Rattle.registry_laws.proofs.Identifier.Ports.{grouped_holds, holds_stand, others_hold, started_holds, took_holds}
use Rattle.registry_laws.proofs.identifiers.ports_are_held.Goals as goal

pub returns-clause-started : goal.returns-clause-started
returns-clause-started c = λ plan m names w k new is sound rests. started_holds plan is m sound k rests names w new

pub returns-clause-took : goal.returns-clause-took
returns-clause-took c = λ plan workers capacities s t call x names names' f f' made rest is kept flying due took holds. took_holds plan is workers capacities s t call x kept f flying holds names names' f' made rest due took

pub returns-clause-grouped : goal.returns-clause-grouped
returns-clause-grouped c = λ plan workers capacities s t call x f is kept of holds. grouped_holds plan is workers capacities s t call x kept f of holds

pub returns-clause-others : goal.returns-clause-others
returns-clause-others c = λ plan workers capacities s t call x v f is kept apart flies over holds. others_hold plan is workers capacities s t call x kept v f apart flies over holds

pub returns-clause-stand : goal.returns-clause-stand
returns-clause-stand c = λ plan workers capacities s w f change rest kept flying due holds. holds_stand plan s.machine f change (subst (Runs plan (flight_of f) (StandsIn s.machine)) due (kept.sound.runs w (flight_of f) flying)).0 holds

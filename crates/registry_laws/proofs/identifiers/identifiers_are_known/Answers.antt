use Rattle.std.proofs.Common.{subst, sym}
use Rattle.orch_flight.specs.Calling.{knows_for}
use Rattle.registry_laws.specs.Flown.{flight_of}
use Rattle.registry_laws.proofs.Identifier.Knowing.{row_known}
use Rattle.registry_laws.proofs.Identifier.Neighbours.{building_known, going_known}
use Rattle.registry_laws.proofs.identifiers.identifiers_are_known.Goals as goal

pub returns-clause-row : goal.returns-clause-row
returns-clause-row c = λ plan workers capacities s names rid flown w f change rest is kept known builds stages flying due ahead alone none. subst (knows_for names f.key f.new) (sym due) (row_known plan is s.machine kept.sound names rid flown known s.objects kept.laid stages builds w (flight_of f) flying none change rest ahead alone)

pub returns-clause-built : goal.returns-clause-built
returns-clause-built c = λ plan workers capacities s names rid flown w f g is kept known flying builds over used. building_known plan is s.machine kept.sound names rid flown known w f flying g builds over used

pub returns-clause-taken : goal.returns-clause-taken
returns-clause-taken c = λ plan workers capacities s names rid flown w f g n rest is kept known builds whole flying goes retiring due of. going_known plan is s.machine kept.sound names rid flown known w f flying g goes builds retiring whole n rest due of

use Rattle.machine_laws.proofs.Fitting.{fits-good}
use Rattle.machine_laws.proofs.Places.{room-gone, room-or}
use Rattle.machine_laws.proofs.Possible.{begin-free}
use Rattle.machine_laws.proofs.Progress.{waits-or-begins}
use Rattle.machine_laws.proofs.Switched.{switched-key_of}
use Rattle.machine_laws.proofs.laws.keys_may_begin.Goals as goal

pub returns-clause-reads : goal.returns-clause-reads
returns-clause-reads c = λ text. switched-key_of text

pub returns-clause-fits : goal.returns-clause-fits
returns-clause-fits c = λ plan applied k fields r fit closed on h names u. fits-good plan applied fit closed k fields r u on h names

pub returns-clause-begins : goal.returns-clause-begins
returns-clause-begins c = λ plan workers capacities s w k is kept quiet on ready free. begin-free plan is workers capacities s w k kept quiet on ready free

pub returns-clause-room : goal.returns-clause-room
returns-clause-room c = λ plan workers capacities s w f due row begins new good. room-or plan workers capacities s w f due begins row new good

pub returns-clause-room_gone : goal.returns-clause-room_gone
returns-clause-room_gone c = λ plan workers capacities s w f due begins none. room-gone plan workers capacities s w f due begins none

pub returns-clause-waits_or_begins : goal.returns-clause-waits_or_begins
returns-clause-waits_or_begins c = λ plan workers capacities s w k is kept quiet below there on. waits-or-begins plan is workers capacities s kept quiet w below k there on

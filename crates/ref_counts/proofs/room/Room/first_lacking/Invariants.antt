use Rattle.std.proofs.Common.{◌≡◌, drop}
use Rattle.ref_counts.specs.Room.{first_lacking}
use Rattle.ref_counts.proofs.room.Room.first_lacking.Given as goal

-- of no kind so far room is lacking
abbrev pub invariant-loop-kind : goal.invariant-loop-kind
invariant-loop-kind l = first_lacking l.self l.need l.used (drop l.kind-index l.kinds) ≡ first_lacking l.self l.need l.used l.kinds

use Rattle.std.proofs.Common.{◌≡◌, map, take}
use Rattle.packet_walk.specs.Tables.{answer}
use Rattle.packet_walk.proofs.walking.walk_part.Given as goal

-- each packet so far has its answer
abbrev pub invariant-loop-step : goal.invariant-loop-step
invariant-loop-step g l = l.answers.items ≡ map (answer l.fib) (take l.step l.packet-items)

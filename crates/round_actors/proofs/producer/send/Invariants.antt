use Rattle.std.proofs.Common.{◌≡◌}
use Rattle.round_actors.proofs.producer.send.Given as goal

abbrev pub invariant-loop : goal.invariant-loop
invariant-loop g l = (goal.iterator-loop g).can_next l.iterator' × (goal.iterator-loop g).is_finite l.iterator' × (l.pass ≡ l.fn.pass) × (l.write ≡ l.fn.write) × (l.stops.parts ≡ l.fn.stops.parts)

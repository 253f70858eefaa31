use Rattle.std.proofs.Common.{◌≡◌}
use Rattle.std.specs.Vec.Iter.{into_iter_items}
use Rattle.registry_laws.specs.Ending.{users_dropped}
use Rattle.flight_board.proofs.ending.drop_users.Given as goal

-- what those that are left drop after those so far is what all drop
abbrev pub invariant-loop-other : goal.invariant-loop-other
invariant-loop-other l = users_dropped l.reg l.key (into_iter_items l.other-iterator) ≡ users_dropped l.fn.reg l.fn.key l.fn.named.items

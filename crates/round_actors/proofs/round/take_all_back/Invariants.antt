use Rattle.std.proofs.Common.{◌≡◌, ◌+◌, ◌≤◌, ◌++◌, length}
use Rattle.std.specs.Prelude.{vec_capacity}
use Rattle.std.specs.Vec.Iter.{into_iter_items}
use Rattle.round_actors.specs.Actors.{passes_of, parts_in, restarts_by_all, stops_by_all}
use Rattle.round_actors.proofs.round.take_all_back.Given as goal

abbrev pub invariant-loop-actor : goal.invariant-loop-actor
invariant-loop-actor g l = (l.passes.items ++ passes_of (into_iter_items l.actor-iterator) ≡ passes_of l.fn.actors.items)
    × (l.restarts.parts + parts_in (into_iter_items l.actor-iterator) ≡ l.fn.restarts.parts + parts_in l.fn.actors.items)
    × (l.restarts.amount + restarts_by_all (into_iter_items l.actor-iterator) ≡ l.fn.restarts.amount + restarts_by_all l.fn.actors.items)
    × (l.stops.amount + stops_by_all (into_iter_items l.actor-iterator) ≡ l.fn.stops.amount + stops_by_all l.fn.actors.items)
    × (length l.passes.items + length (passes_of (into_iter_items l.actor-iterator)) ≤ vec_capacity l.passes)

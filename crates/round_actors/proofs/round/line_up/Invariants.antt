use Rattle.std.proofs.Common.{◌≡◌, ◌+◌, ◌≤◌, length, All}
use Rattle.std.specs.Prelude.{vec_capacity}
use Rattle.std.specs.Vec.Iter.{into_iter_items}
use Rattle.round_actors.specs.Actors.{MayRun, passes_of, parts_in}
use Rattle.round_actors.proofs.Lines.{LinesUp}
use Rattle.round_actors.proofs.round.line_up.Given as goal

abbrev pub invariant-loop-pass : goal.invariant-loop-pass
invariant-loop-pass g l = LinesUp l._intake l._sections l.fn.passes.items l.fn.restarts.parts l.workers l.actors.items (into_iter_items l.pass-iterator) l.number l.restarts.parts l.restarts.amount (vec_capacity l.actors)
    × (l.stops.parts + l.number ≡ l.fn.stops.parts) × (l.stops.amount ≡ 0)

abbrev pub invariant-loop-worker : goal.invariant-loop-worker
invariant-loop-worker g l = (passes_of l.actors.items ≡ l.fn.passes.items) × All (λ a. MayRun l._intake l._sections l.workers a) l.actors.items
    × (l.restarts.parts + parts_in l.actors.items ≡ l.fn.restarts.parts) × (l.restarts.amount ≡ 0) × (l.stops.amount ≡ 0) × (length l.actors.items + l.workers ≤ vec_capacity l.actors + l.worker)

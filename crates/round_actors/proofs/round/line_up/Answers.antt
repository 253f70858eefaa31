use Rattle.std.proofs.Common.{rules, ◌≡◌, ◌+◌, ◌++◌, ◌∷◌, [], ap, length, arith, length-append}
use Rattle.std.specs.Prelude.{vec_capacity}
use Rattle.std.specs.Vec.Iter.{into_iter_items}
use Rattle.round_actors.specs.declared.actor.Actor.TheVariants as actor
use Rattle.round_actors.proofs.Lines.{lines-more, workers-more}
use Rattle.round_actors.proofs.round.line_up.Goals as goal

pub loop-pass-preserved : goal.loop-pass-preserved
loop-pass-preserved g c =
    let next : into_iter_items c.loop-pass.pass-iterator ≡ c.in-Some.pass ∷ into_iter_items c.next.new.self = search rules in
    let left = c.split_off-own_restarts.ensures.parts_left in
    let amount = c.split_off-own_restarts.ensures.amount_left in
    let stops = c.split_off-own_stops.ensures.parts_left in
    let stopped = c.split_off-own_stops.ensures.amount_left in
    let v = c.loop-pass.invariant in
    let held = v.1 in
    let none = v.2 in (
      lines-more c.args._intake.now c.args._sections.now c.args.passes.items c.args.restarts.now.parts c.args.workers c.loop-pass.actors.items c.push_reserved.new.self.items
          (record { number = c.loop-pass.number + 1; pass = c.in-Some.pass; restarts = c.split_off-own_restarts.result; stops = c.split_off-own_stops.result })
          (into_iter_items c.loop-pass.pass-iterator) (into_iter_items c.next.new.self) c.loop-pass.number c.loop-pass.restarts.parts c.split_off-own_restarts.new.self.parts c.loop-pass.restarts.amount c.split_off-own_restarts.new.self.amount
          (vec_capacity c.loop-pass.actors) (vec_capacity c.push_reserved.new.self)
          c.requires.passes c.requires.few.0 c.requires.sections c.loop-pass.invariant.0 next c.push_reserved.ensures.items c.push_reserved.ensures.capacity
          (search rules) c.split_off-own_restarts.ensures.parts c.split_off-own_restarts.ensures.amount c.split_off-own_stops.ensures.parts left (omega arith),
      omega arith,
      omega arith,
    )

pub loop-worker-preserved : goal.loop-worker-preserved
loop-worker-preserved g c =
    let v = c.loop-worker.invariant in
    let w = c.loop-worker.worker in
    let test = c.loop-worker-test.true in
    let items = c.push_reserved-in-loop-worker.ensures.items in
    let long = ap length {x = c.push_reserved-in-loop-worker.new.self.items} {y = c.loop-worker.actors.items ++ actor.Worker w ∷ []} items in
    let both = length-append c.loop-worker.actors.items (actor.Worker w ∷ []) in
    let room = c.push_reserved-in-loop-worker.ensures.capacity in
    let more = workers-more c.args._intake.now c.args._sections.now c.args.workers c.args.passes.items c.loop-worker.actors.items c.push_reserved-in-loop-worker.new.self.items w (omega arith) v.0 v.1 items in
    let parts = more.2 in
    let held = v.2 in
    let before = v.5 in (more.0, more.1, omega arith, v.3, v.4, omega arith)

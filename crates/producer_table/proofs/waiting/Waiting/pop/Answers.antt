use Rattle.std.proofs.Common.{◌≡◌, ◌-◌, ◌+◌, ◌∷◌, ◌++◌, [], drop, length, length-drop, rules, arith, sym, ◌∙◌, ap}
use Rattle.std.proofs.lemmas.List.{length_push}
use Rattle.producer_table.specs.Pending.{op_of}
use Rattle.producer_table.proofs.Taken.{taken-more}
use Rattle.producer_table.proofs.waiting.Waiting.pop.Goals.{in-Some+in_ok-push, in_default}
use Rattle.producer_table.proofs.waiting.Waiting.pop.Goals as goal

pub loop-preserved : goal.loop-preserved
loop-preserved c =
    let old = c.args.self.now in
    elim c.match-pop_first.branch [
      | in-Some+in_ok-push w ↦
          let first : drop c.loop.counter old ≡ (w.in-Some.key, w.in-Some.pending) ∷ c.pop_first.new.self = sym c.loop.invariant.left ∙ w.in-Some.ensures.some in
          let items : c.match-pop_first.ops.items ≡ c.loop.ops.items ++ op_of (w.in-Some.key, w.in-Some.pending) ∷ [] = search rules in
          let more = taken-more old c.pop_first.new.self c.loop.counter (w.in-Some.key, w.in-Some.pending) c.loop.ops.items c.loop.invariant.taken first in
          record {
            taken = items ∙ more.0;
            left = more.1;
            within = c.loop.invariant.within;
            held = ap length items ∙ length_push c.loop.ops.items (op_of (w.in-Some.key, w.in-Some.pending)) ∙ ap (λ n. n + 1) c.loop.invariant.held;
            room = search rules;
          }
      | in_default w ↦
          let left : length c.loop.self-inside.keys ≡ length old - c.loop.counter = ap length c.loop.invariant.left ∙ length-drop c.loop.counter old in
          let empty = ap length w.in_default.ensures.none.0 in
          absurd (omega (arith, left, empty, c.loop-test.true, c.loop.invariant.within))
    ]

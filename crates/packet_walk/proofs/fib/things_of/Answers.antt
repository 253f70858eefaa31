use Rattle.std.proofs.Common.{rules, ◌≡◌, ◌+◌, [], ◌∷◌, ◌++◌, drop, sym, ap, ◌∙◌}
use Rattle.std.proofs.lemmas.List.{drop_more}
use Rattle.sai_types.specs.Named.{named, thing_of, those}
use Rattle.chip_names.specs.Naming.{entries_of}
use Rattle.packet_walk.proofs.Listed.{past-thing}
use Rattle.packet_walk.proofs.fib.things_of.Goals as goal
use Rattle.packet_walk.proofs.fib.things_of.Goals.{in-Some+in_ok-push, in_default}

pub loop-object-preserved : goal.loop-object-preserved
loop-object-preserved c =
    let objects = c.args.objects.now in
    let is : c.in_ok-thing.field-0 ≡ thing_of (entries_of objects) (c.object-item.result.entry, c.object-item.result.body) = c.in_ok-thing.ensures (entries_of objects) c.in_ok-names.ensures in
    let next : drop c.loop-object.object-index objects ≡ c.object-item.result ∷ drop (c.loop-object.object-index + 1) objects =
    drop_more objects c.loop-object.object-index c.object-item.result c.loop-object-test.true ∙ ap (λ x. x ∷ drop (c.loop-object.object-index + 1) objects) (sym c.object-item.is) in
    let more : c.match-branch-3.things.items ≡ c.loop-object.things.items ++ those (c.in_ok-thing.field-0 ∷ []) =
    elim c.match-branch-3.branch [
      | in-Some+in_ok-push w ↦ search rules
      | in_default w ↦ search rules
    ] in
    past-thing (entries_of objects) (drop c.loop-object.object-index objects) c.object-item.result (drop (c.loop-object.object-index + 1) objects) c.loop-object.things.items c.match-branch-3.things.items (those (named (entries_of objects))) c.in_ok-thing.field-0 next is more c.loop-object.invariant

use Rattle.std.proofs.Common.{◌≡◌, ◌++◌}
use Rattle.std.specs.List.{AllByRecursion}
use Rattle.std.specs.Vec.Iter.{into_iter_items}
use Rattle.packet_walk.specs.Walk.{HasAnswers, joined_parts}
use Rattle.packet_walk.proofs.walking.joined_parts.Given as goal

-- what is there, with what stands in the parts that are left, is what stands in all
abbrev pub invariant-loop-part : goal.invariant-loop-part
invariant-loop-part l =
    (l.all.items ++ joined_parts (into_iter_items l.part-iterator) ≡ joined_parts l.fn.parts.items)
    × (AllByRecursion HasAnswers (into_iter_items l.part-iterator) → AllByRecursion HasAnswers l.fn.parts.items)

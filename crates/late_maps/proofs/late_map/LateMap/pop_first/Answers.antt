use Rattle.std.proofs.Common.{length, subst, ap, arith}
use Rattle.std.specs.List.Sorted.{IsStrictlySortedBy}
use Rattle.std.specs.Map.{keys_of}
use Rattle.std.proofs.lemmas.Map.Keys.{sorted_tail}
use Rattle.late_maps.specs.Chunks.{entries_of_chunks}
use Rattle.late_maps.proofs.Kept.{first-filled, first-out}
use Rattle.late_maps.proofs.late_map.LateMap.pop_first.Goals as goal

pub take-requires-clause-at : goal.take-requires-clause-at
take-requires-clause-at g c = first-filled c.self.inside.chunks.items c.self.invariant.0.1 (omega (arith, c.if-self-eq0.false, c.self.invariant.1))

pub invariant_of-self : goal.invariant_of-self
invariant_of-self g c =
    let filled = first-filled c.self.inside.chunks.items c.self.invariant.0.1 (omega (arith, c.if-self-eq0.false, c.self.invariant.1)) in
    let split = first-out c.self.inside.chunks.items c.take.result (entries_of_chunks c.take.new.chunks.items) filled (c.take.ensures.entry c.take.result) c.take.ensures.rest in
    ((sorted_tail g.K.Ord.cmp c.take.result.0 (keys_of (entries_of_chunks c.take.new.chunks.items)) (subst (λ es. IsStrictlySortedBy g.K.Ord.cmp (keys_of es)) split c.self.invariant.0.0), c.take.ensures.filled), omega (arith, ap length split, c.self.invariant.1), omega (arith, c.self.invariant.2))

pub returns-clause-some : goal.returns-clause-some
returns-clause-some g c =
    let filled = first-filled c.self.inside.chunks.items c.self.invariant.0.1 (omega (arith, c.if-self-eq0.false, c.self.invariant.1)) in
    rw (← c.self.view_is) (first-out c.self.inside.chunks.items c.take.result (entries_of_chunks c.take.new.chunks.items) filled (c.take.ensures.entry c.take.result) c.take.ensures.rest)

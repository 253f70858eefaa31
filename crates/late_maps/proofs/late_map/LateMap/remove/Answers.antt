use Rattle.std.proofs.Common.{Some, sym, ap, subst, ◌∙◌, arith}
use Rattle.std.specs.BTreeMap.{is_at}
use Rattle.late_maps.specs.Chunks.{IsSpot, entries_of_chunks}
use Rattle.late_maps.proofs.Kept.{out-kept, removed-absent}
use Rattle.late_maps.proofs.Spots.{gap_absent, spot_found, spot_removed}
use Rattle.late_maps.proofs.late_map.LateMap.remove.Goals as goal

pub invariant_of-self : goal.invariant_of-self
invariant_of-self g c =
    let spot = subst (λ l. IsSpot g.K.Ord.cmp l c.args.key.now c.spot_of-spot.result) c.as_slice.ensures.value c.spot_of-spot.ensures in
    let kept = out-kept g.met.K.Ord.total c.args.key.now c.self.inside.chunks.items _ spot c.self.invariant.0.0 c.in-Ok.at (entries_of_chunks c.take-value.new.chunks.items) c.in-Ok.is c.take-value.ensures.rest in
    ((kept.0, c.take-value.ensures.filled), omega (arith, kept.1, c.self.invariant.1), omega (arith, c.self.invariant.2))

pub returns-in-Ok-clause-value : goal.returns-in-Ok-clause-value
returns-in-Ok-clause-value g c =
    let spot = subst (λ l. IsSpot g.K.Ord.cmp l c.args.key.now c.spot_of-spot.result) c.as_slice.ensures.value c.spot_of-spot.ensures in
    rw (← c.self.view_is) (ap (λ e. Some e.1) (c.take-value.ensures.entry c.take-value.result) ∙ sym (spot_found g.K.Ord.cmp c.args.key.now c.self.inside.chunks.items _ spot c.in-Ok.at c.in-Ok.is c.take-value.result))

pub returns-in-Ok-clause-entries : goal.returns-in-Ok-clause-entries
returns-in-Ok-clause-entries g c =
    let spot = subst (λ l. IsSpot g.K.Ord.cmp l c.args.key.now c.spot_of-spot.result) c.as_slice.ensures.value c.spot_of-spot.ensures in
    rw (← c.self.view_is) (spot_removed g.K.Ord.cmp c.args.key.now c.self.inside.chunks.items _ spot c.in-Ok.at c.in-Ok.is (entries_of_chunks c.take-value.new.chunks.items) c.take-value.ensures.rest)

pub returns-in-Ok-clause-ordered : goal.returns-in-Ok-clause-ordered
returns-in-Ok-clause-ordered g c =
    let spot = subst (λ l. IsSpot g.K.Ord.cmp l c.args.key.now c.spot_of-spot.result) c.as_slice.ensures.value c.spot_of-spot.ensures in
    (out-kept g.met.K.Ord.total c.args.key.now c.self.inside.chunks.items _ spot c.self.invariant.0.0 c.in-Ok.at (entries_of_chunks c.take-value.new.chunks.items) c.in-Ok.is c.take-value.ensures.rest).0

pub returns-in-Ok-clause-len : goal.returns-in-Ok-clause-len
returns-in-Ok-clause-len g c =
    let spot = subst (λ l. IsSpot g.K.Ord.cmp l c.args.key.now c.spot_of-spot.result) c.as_slice.ensures.value c.spot_of-spot.ensures in
    rw (← c.self.view_is) (out-kept g.met.K.Ord.total c.args.key.now c.self.inside.chunks.items _ spot c.self.invariant.0.0 c.in-Ok.at (entries_of_chunks c.take-value.new.chunks.items) c.in-Ok.is c.take-value.ensures.rest).1

pub returns-in-Err-clause-value : goal.returns-in-Err-clause-value
returns-in-Err-clause-value g c =
    let spot = subst (λ l. IsSpot g.K.Ord.cmp l c.args.key.now c.spot_of-spot.result) c.as_slice.ensures.value c.spot_of-spot.ensures in
    rw (← c.self.view_is) (sym (gap_absent g.K.Ord.cmp c.args.key.now c.self.inside.chunks.items _ spot c.in-Err.field-0 c.in-Err.is))

pub returns-in-Err-clause-entries : goal.returns-in-Err-clause-entries
returns-in-Err-clause-entries g c =
    let spot = subst (λ l. IsSpot g.K.Ord.cmp l c.args.key.now c.spot_of-spot.result) c.as_slice.ensures.value c.spot_of-spot.ensures in
    rw (← c.self.view_is) (sym (removed-absent (is_at (g.K.Ord.cmp c.args.key.now)) (entries_of_chunks c.self.inside.chunks.items) (gap_absent g.K.Ord.cmp c.args.key.now c.self.inside.chunks.items _ spot c.in-Err.field-0 c.in-Err.is)))

use Rattle.std.proofs.Common.{Some, sym, ap, subst, ◌∙◌, arith}
use Rattle.late_maps.specs.Chunks.{IsSpot, entries_of_chunks}
use Rattle.late_maps.proofs.Kept.{put-kept, set-kept}
use Rattle.late_maps.proofs.Spots.{gap_absent, gap_put, spot_found, spot_set}
use Rattle.late_maps.proofs.late_map.LateMap.insert.Goals as goal

pub invariant_of-self : goal.invariant_of-self
invariant_of-self g c =
    let spot = subst (λ l. IsSpot g.K.Ord.cmp l c.args.key c.spot_of-spot.result) c.as_slice.ensures.value c.spot_of-spot.ensures in
    let kept = set-kept g.met.K.Ord.total c.args.key c.self.inside.chunks.items _ spot c.self.invariant.0.0 c.in-Ok.at (entries_of_chunks c.set.new.chunks.items) c.in-Ok.is c.args.value c.set.ensures.new in
    ((kept.0, c.set.ensures.filled), c.self.invariant.1 ∙ kept.1, c.self.invariant.2)

pub invariant_of-self-in-Ok-put : goal.invariant_of-self-in-Ok-put
invariant_of-self-in-Ok-put g c =
    let spot = subst (λ l. IsSpot g.K.Ord.cmp l c.args.key c.spot_of-spot.result) c.as_slice.ensures.value c.spot_of-spot.ensures in
    let kept = put-kept g.met.K.Ord.total c.args.key c.self.inside.chunks.items _ spot c.self.invariant.0.0 c.in-Err.at (entries_of_chunks c.put.new.chunks.items) c.in-Err.is c.args.value c.in-Ok-put.ensures.ok in
    ((kept.0, c.in-Ok-put.ensures.filled), omega (arith, kept.1, c.self.invariant.1), omega (arith, c.self.invariant.2, c.if-self-eq-MOST.false))

pub returns-then-self-eq-MOST-clause-absent : goal.returns-then-self-eq-MOST-clause-absent
returns-then-self-eq-MOST-clause-absent g c =
    let spot = subst (λ l. IsSpot g.K.Ord.cmp l c.args.key c.spot_of-spot.result) c.as_slice.ensures.value c.spot_of-spot.ensures in
    rw (← c.self.view_is) (gap_absent g.K.Ord.cmp c.args.key c.self.inside.chunks.items _ spot c.in-Err.at c.in-Err.is)

pub returns-in-Ok-clause-old : goal.returns-in-Ok-clause-old
returns-in-Ok-clause-old g c =
    let spot = subst (λ l. IsSpot g.K.Ord.cmp l c.args.key c.spot_of-spot.result) c.as_slice.ensures.value c.spot_of-spot.ensures in
    let e : g.row.K.Denot × g.row.V.Denot = (c.args.key, c.args.value) in
    rw (← c.self.view_is) (ap Some (c.set.ensures.old e) ∙ sym (spot_found g.K.Ord.cmp c.args.key c.self.inside.chunks.items _ spot c.in-Ok.at c.in-Ok.is e))

pub returns-in-Ok-clause-entries : goal.returns-in-Ok-clause-entries
returns-in-Ok-clause-entries g c =
    let spot = subst (λ l. IsSpot g.K.Ord.cmp l c.args.key c.spot_of-spot.result) c.as_slice.ensures.value c.spot_of-spot.ensures in
    let e : g.row.K.Denot × g.row.V.Denot = (c.args.key, c.args.value) in
    rw (← c.self.view_is) (spot_set g.K.Ord.cmp c.args.key c.self.inside.chunks.items _ spot c.in-Ok.at c.in-Ok.is (entries_of_chunks c.set.new.chunks.items) c.args.value e (c.set.ensures.new e))

pub returns-in-Ok-clause-len : goal.returns-in-Ok-clause-len
returns-in-Ok-clause-len g c =
    let spot = subst (λ l. IsSpot g.K.Ord.cmp l c.args.key c.spot_of-spot.result) c.as_slice.ensures.value c.spot_of-spot.ensures in
    let kept = set-kept g.met.K.Ord.total c.args.key c.self.inside.chunks.items _ spot c.self.invariant.0.0 c.in-Ok.at (entries_of_chunks c.set.new.chunks.items) c.in-Ok.is c.args.value c.set.ensures.new in
    rw (← c.self.view_is) (omega (arith, kept.1))

pub returns-in-Ok-clause-ordered : goal.returns-in-Ok-clause-ordered
returns-in-Ok-clause-ordered g c =
    let spot = subst (λ l. IsSpot g.K.Ord.cmp l c.args.key c.spot_of-spot.result) c.as_slice.ensures.value c.spot_of-spot.ensures in
    (set-kept g.met.K.Ord.total c.args.key c.self.inside.chunks.items _ spot c.self.invariant.0.0 c.in-Ok.at (entries_of_chunks c.set.new.chunks.items) c.in-Ok.is c.args.value c.set.ensures.new).0

pub returns-in-Ok-put-clause-old : goal.returns-in-Ok-put-clause-old
returns-in-Ok-put-clause-old g c =
    let spot = subst (λ l. IsSpot g.K.Ord.cmp l c.args.key c.spot_of-spot.result) c.as_slice.ensures.value c.spot_of-spot.ensures in
    rw (← c.self.view_is) (sym (gap_absent g.K.Ord.cmp c.args.key c.self.inside.chunks.items _ spot c.in-Err.at c.in-Err.is))

pub returns-in-Ok-put-clause-entries : goal.returns-in-Ok-put-clause-entries
returns-in-Ok-put-clause-entries g c =
    let spot = subst (λ l. IsSpot g.K.Ord.cmp l c.args.key c.spot_of-spot.result) c.as_slice.ensures.value c.spot_of-spot.ensures in
    rw (← c.self.view_is) (gap_put g.K.Ord.cmp c.args.key c.self.inside.chunks.items _ spot c.in-Err.at c.in-Err.is (entries_of_chunks c.put.new.chunks.items) c.args.value c.in-Ok-put.ensures.ok)

pub returns-in-Ok-put-clause-len : goal.returns-in-Ok-put-clause-len
returns-in-Ok-put-clause-len g c =
    let spot = subst (λ l. IsSpot g.K.Ord.cmp l c.args.key c.spot_of-spot.result) c.as_slice.ensures.value c.spot_of-spot.ensures in
    rw (← c.self.view_is) (put-kept g.met.K.Ord.total c.args.key c.self.inside.chunks.items _ spot c.self.invariant.0.0 c.in-Err.at (entries_of_chunks c.put.new.chunks.items) c.in-Err.is c.args.value c.in-Ok-put.ensures.ok).1

pub returns-in-Ok-put-clause-ordered : goal.returns-in-Ok-put-clause-ordered
returns-in-Ok-put-clause-ordered g c =
    let spot = subst (λ l. IsSpot g.K.Ord.cmp l c.args.key c.spot_of-spot.result) c.as_slice.ensures.value c.spot_of-spot.ensures in
    (put-kept g.met.K.Ord.total c.args.key c.self.inside.chunks.items _ spot c.self.invariant.0.0 c.in-Err.at (entries_of_chunks c.put.new.chunks.items) c.in-Err.is c.args.value c.in-Ok-put.ensures.ok).0

pub returns-in-Err-put-clause-absent : goal.returns-in-Err-put-clause-absent
returns-in-Err-put-clause-absent g c =
    let spot = subst (λ l. IsSpot g.K.Ord.cmp l c.args.key c.spot_of-spot.result) c.as_slice.ensures.value c.spot_of-spot.ensures in
    rw (← c.self.view_is) (gap_absent g.K.Ord.cmp c.args.key c.self.inside.chunks.items _ spot c.in-Err.at c.in-Err.is)

use Rattle.std.proofs.Common.{Some, sym, ap, subst, ◌∙◌}
use Rattle.late_maps.specs.Chunks.{IsSpot}
use Rattle.late_maps.proofs.Edits.{at_within, entry_read}
use Rattle.late_maps.proofs.Spots.{gap_absent, spot_found, spot_within}
use Rattle.late_maps.proofs.late_map.LateMap.get.Goals as goal

pub index-requires-in-Ok : goal.index-requires-in-Ok
index-requires-in-Ok g c =
    let spot = subst (λ l. IsSpot g.K.Ord.cmp l c.args.key.now c.spot_of-spot.result) c.as_slice.ensures.value c.spot_of-spot.ensures in
    at_within c.self.inside.chunks.items c.spot_of-spot.result.chunk c.in-Ok.at c.index.result.now c.index.ensures (spot_within g.K.Ord.cmp c.args.key.now c.self.inside.chunks.items _ spot c.in-Ok.at c.in-Ok.is)

pub returns-in-Ok : goal.returns-in-Ok
returns-in-Ok g c =
    let spot = subst (λ l. IsSpot g.K.Ord.cmp l c.args.key.now c.spot_of-spot.result) c.as_slice.ensures.value c.spot_of-spot.ensures in
    let within = spot_within g.K.Ord.cmp c.args.key.now c.self.inside.chunks.items _ spot c.in-Ok.at c.in-Ok.is in
    let e = c.index-in-Ok.result.now in
    rw (← c.self.view_is) (ap (λ x. Some x.1) (entry_read c.self.inside.chunks.items c.spot_of-spot.result.chunk c.in-Ok.at c.index.result.now e e c.index.ensures within c.index-in-Ok.ensures) ∙ sym (spot_found g.K.Ord.cmp c.args.key.now c.self.inside.chunks.items _ spot c.in-Ok.at c.in-Ok.is e))

pub returns-in-Err : goal.returns-in-Err
returns-in-Err g c =
    let spot = subst (λ l. IsSpot g.K.Ord.cmp l c.args.key.now c.spot_of-spot.result) c.as_slice.ensures.value c.spot_of-spot.ensures in
    rw (← c.self.view_is) (sym (gap_absent g.K.Ord.cmp c.args.key.now c.self.inside.chunks.items _ spot c.in-Err.field-0 c.in-Err.is))

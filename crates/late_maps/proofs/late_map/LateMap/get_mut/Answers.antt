use Rattle.std.proofs.Common.{◌≡◌, true, false, refl, sym, subst}
use Rattle.std.specs.BTreeMap.{is_at}
use Rattle.late_maps.specs.Chunks.{IsSpot, entries_of_chunks}
use Rattle.late_maps.proofs.Lents.{lent-found, lent-rising, lent-set, lent-within, set-absent}
use Rattle.late_maps.proofs.Spots.{gap_absent}
use Rattle.late_maps.proofs.late_map.LateMap.get_mut.Goals as goal

pub invariant_of-self-lent : goal.invariant_of-self-lent
invariant_of-self-lent g c = λ w.
    let lent = lent-rising g.K.Ord.cmp c.args.key.now c.self.inside.chunks.items _ c.as_slice.ensures.value _ c.spot_of-spot.ensures c.in-Ok.at c.in-Ok.is c.in-Some.chunk.now c.in-Some.ensures.value c.in-Some-get_mut.entry.now c.in-Some-get_mut.ensures.value w c.self.inside.count c.self.invariant.0 c.self.invariant.1 in
    (lent.0, lent.1, c.self.invariant.2)

pub returns-in-Some-get_mut : goal.returns-in-Some-get_mut
returns-in-Some-get_mut g c =
    let set = lent-set g.K.Ord.cmp c.args.key.now c.self.inside.chunks.items _ c.as_slice.ensures.value _ c.spot_of-spot.ensures c.in-Ok.at c.in-Ok.is c.in-Some.chunk.now c.in-Some.ensures.value c.in-Some-get_mut.entry.now c.in-Some-get_mut.ensures.value in
    let found = lent-found g.K.Ord.cmp c.args.key.now c.self.inside.chunks.items _ c.as_slice.ensures.value _ c.spot_of-spot.ensures c.in-Ok.at c.in-Ok.is c.in-Some.chunk.now c.in-Some.ensures.value c.in-Some-get_mut.entry.now c.in-Some-get_mut.ensures.value in
    rw (← c.self.view_is) ((refl, set, refl), record { writes_back = tt; value = found; ordered = c.self.invariant.0.0 })

pub returns-in-None-get_mut : goal.returns-in-None-get_mut
returns-in-None-get_mut g c =
    let no : false ≡ true = c.in-None-get_mut.ensures.variant.1 (lent-within g.K.Ord.cmp c.args.key.now c.self.inside.chunks.items _ c.as_slice.ensures.value _ c.spot_of-spot.ensures c.in-Ok.at c.in-Ok.is c.in-Some.chunk.now c.in-Some.ensures.value) in
    absurd cc

pub returns-in-Err : goal.returns-in-Err
returns-in-Err g c =
    let es = entries_of_chunks c.self.inside.chunks.items in
    let spot = subst (λ l. IsSpot g.K.Ord.cmp l c.args.key.now c.spot_of-spot.result) c.as_slice.ensures.value c.spot_of-spot.ensures in
    let none = gap_absent g.K.Ord.cmp c.args.key.now c.self.inside.chunks.items _ spot c.in-Err.field-0 c.in-Err.is in
    rw (← c.self.view_is) ((refl, (λ w. sym (set-absent (is_at (g.K.Ord.cmp c.args.key.now)) es w none)), refl), record { writes_back = tt; value = sym none; ordered = c.self.invariant.0.0 })

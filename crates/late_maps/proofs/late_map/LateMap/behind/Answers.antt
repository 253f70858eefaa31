use Rattle.std.proofs.Common.{◌≡◌, sym, ap, ◌∙◌, subst, arith}
use Rattle.std.proofs.lemmas.Bool.{ltb-false, ltb-true}
use Rattle.late_maps.specs.Chunks.{AreFilled, IsRisingPlace, chunk_at}
use Rattle.late_maps.proofs.Behind.{chunk_fits, first-here, first-next, first-none, past}
use Rattle.late_maps.proofs.late_map.LateMap.behind.Goals as goal
use Rattle.late_maps.proofs.late_map.LateMap.behind.Goals.{in-Ok, in-Err}

pub overflow_add-at : goal.overflow_add-at
overflow_add-at g c =
    let es = chunk_at c.as_slice-chunks.result.now c.spot_of-spot.result.chunk in
    let place = subst (λ p. IsRisingPlace g.K.Ord.cmp es c.args.key.now p) c.in-Ok.is c.spot_of-spot.ensures.2 in
    let fits = chunk_fits c.as_slice-chunks.result.now c.spot_of-spot.result.chunk in
    omega (arith, place.0, fits)

pub returns-in-Some-get : goal.returns-in-Some-get
returns-in-Some-get g c =
    let at : c.match-spot.at ≡ past c.spot_of-spot.result.at = elim c.match-spot.branch [ in-Ok w ↦ w.at-is ∙ ap past (sym w.in-Ok.is) | in-Err w ↦ w.at-is ∙ ap past (sym w.in-Err.is) ] in
    let here = first-here g.K.Ord.cmp c.args.key.now c.as_slice-chunks.result.now c.spot_of-spot.result c.spot_of-spot.ensures c.in-Some.chunk.now (ltb-true _ _ (sym c.in-Some.ensures.lookup.0)) c.in-Some.ensures.lookup.1 c.deref.result.now c.deref.ensures.value c.match-spot.at at c.in-Some-get.entry.now (ltb-true _ _ (sym c.in-Some-get.ensures.lookup.0)) c.in-Some-get.ensures.lookup.1 in
    rw (← c.self.view_is) rw (← c.as_slice-chunks.ensures.value) here

pub returns-in-Some-get-2 : goal.returns-in-Some-get-2
returns-in-Some-get-2 g c =
    let at : c.match-spot.at ≡ past c.spot_of-spot.result.at = elim c.match-spot.branch [ in-Ok w ↦ w.at-is ∙ ap past (sym w.in-Ok.is) | in-Err w ↦ w.at-is ∙ ap past (sym w.in-Err.is) ] in
    let filled = subst AreFilled (sym c.as_slice-chunks.ensures.value) c.self.invariant.0.1 in
    let next = first-next g.K.Ord.cmp c.args.key.now c.as_slice-chunks.result.now c.spot_of-spot.result c.spot_of-spot.ensures c.in-Some.chunk.now (ltb-true _ _ (sym c.in-Some.ensures.lookup.0)) c.in-Some.ensures.lookup.1 c.deref.result.now c.deref.ensures.value c.match-spot.at at (ltb-false _ _ (sym c.in-None-get.ensures.lookup.0)) filled c.in-Some-get-2.next.now c.index.result.now (ltb-true _ _ (sym c.in-Some-get-2.ensures.lookup.0)) c.in-Some-get-2.ensures.lookup.1 c.index.ensures in
    rw (← c.self.view_is) rw (← c.as_slice-chunks.ensures.value) next

pub returns-in-None-get-2 : goal.returns-in-None-get-2
returns-in-None-get-2 g c =
    let at : c.match-spot.at ≡ past c.spot_of-spot.result.at = elim c.match-spot.branch [ in-Ok w ↦ w.at-is ∙ ap past (sym w.in-Ok.is) | in-Err w ↦ w.at-is ∙ ap past (sym w.in-Err.is) ] in
    let none = first-none g.K.Ord.cmp c.args.key.now c.as_slice-chunks.result.now c.spot_of-spot.result c.spot_of-spot.ensures c.in-Some.chunk.now (ltb-true _ _ (sym c.in-Some.ensures.lookup.0)) c.in-Some.ensures.lookup.1 c.deref.result.now c.deref.ensures.value c.match-spot.at at (ltb-false _ _ (sym c.in-None-get.ensures.lookup.0)) (ltb-false _ _ (sym c.in-None-get-2.ensures.lookup.0)) in
    rw (← c.self.view_is) rw (← c.as_slice-chunks.ensures.value) none

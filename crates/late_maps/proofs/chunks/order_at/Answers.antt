use Rattle.std.proofs.Common.{IfNone, length, ◌<◌, ◌≤◌, slice_index_or, sym, ap, subst, ◌∙◌}
use Rattle.std.proofs.lemmas.Bool.{ltb-false, ltb-true}
use Rattle.late_maps.specs.Chunks.{chunk_at}
use Rattle.late_maps.proofs.Edits.{chunk_read, entry_read}
use Rattle.late_maps.proofs.Nears.{none-past, none-without}
use Rattle.late_maps.proofs.chunks.order_at.Goals as goal

pub returns-in_err-get-clause-none : goal.returns-in_err-get-clause-none
returns-in_err-get-clause-none g c = subst (λ r. IfNone r (length (chunk_at c.args.chunks.now c.args.place.chunk) ≤ c.args.place.at)) (sym c.from_residual.ensures) (none-without c.args.chunks.now _ _ (ltb-false _ _ (sym c.in_err-get.ensures.lookup.0)))

pub returns-in_err-entry-clause-none : goal.returns-in_err-entry-clause-none
returns-in_err-entry-clause-none g c = subst (λ r. IfNone r (length (chunk_at c.args.chunks.now c.args.place.chunk) ≤ c.args.place.at)) (sym c.from_residual-in_err-entry.ensures) (none-past c.args.chunks.now _ _ c.in_ok-get.field-0.now (ltb-true _ _ (sym c.in_ok-get.ensures.lookup.0)) c.in_ok-get.ensures.lookup.1 c.deref.result.now c.deref.ensures.value (ltb-false _ _ (sym c.in_err-entry.ensures.lookup.0)))

pub returns-clause-some : goal.returns-clause-some
returns-clause-some g c =
    let cs = c.args.chunks.now in
    let chunk = c.in_ok-get.field-0.now in
    let within = ltb-true _ _ (sym c.in_ok-get.ensures.lookup.0) in
    let here = c.deref.ensures.value ∙ chunk_read cs c.args.place.chunk chunk within c.in_ok-get.ensures.lookup.1 in
    let at = subst (λ l. c.args.place.at < length l) here (ltb-true _ _ (sym c.in_ok-entry.ensures.lookup.0)) in
    let e = c.in_ok-entry.entry.now in
    let read = c.in_ok-entry.ensures.lookup.1 ∙ ap (λ l. slice_index_or l c.args.place.at e) c.deref.ensures.value in
    (within, at, λ d. c.cmp.ensures ∙ ap (λ x. g.K.Ord.cmp c.args.key.now x.0) (entry_read cs c.args.place.chunk c.args.place.at chunk e d c.in_ok-get.ensures.lookup.1 at read))

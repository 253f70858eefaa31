use Rattle.std.proofs.Common.{get_or, refl, subst, sym, ◌∙◌, []}
use Rattle.std.specs.BTreeMap.{insert_entry}
use Rattle.std.specs.Ordering.{nat_cmp}
use Rattle.std.proofs.lemmas.List.{at_drop_all}
use Rattle.apply_order.specs.Places.{IsTable, with_old}
use Rattle.apply_order.proofs.Steps.{with_old-step}
use Rattle.apply_order.proofs.places.by_old.Goals as goal

pub loop-pair-init : goal.loop-pair-init
loop-pair-init c = ([], c.in_ok-places.ensures.each, refl, c.in_ok-places.ensures.count)

pub loop-pair-preserved : goal.loop-pair-preserved
loop-pair-preserved c =
    let before = c.loop-pair.invariant in
    let pair = get_or c.args.pairs.now c.loop-pair.pair-index (0, 0) in
    let after = insert_entry nat_cmp before.0 pair.0 pair.1 in (
      after,
      c.put.ensures.each before.0 before.1,
      with_old-step before.0 after c.args.pairs.now c.loop-pair.pair-index (0, 0) _ c.loop-pair-test.true refl before.2,
      c.put.ensures.count ∙ before.3,
    )

pub returns-clause-each : goal.returns-clause-each
returns-clause-each c =
    let last = c.loop-pair.invariant in
    subst (λ known. IsTable known c.loop-pair.places.items) (sym (at_drop_all (with_old last.0) c.args.pairs.now c.loop-pair.pair-index c.loop-pair-test.false) ∙ last.2) last.1

pub returns-clause-count : goal.returns-clause-count
returns-clause-count c = c.loop-pair.invariant.3

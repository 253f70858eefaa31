use Rattle.std.proofs.Common.{◌∷◌, ◌++◌, [], count_by, take, take_all, refl, sym, ap, ◌∙◌, subst}
use Rattle.std.proofs.lemmas.List.{take_more}
use Rattle.sai_types.specs.After.{makes_id}
use Rattle.sai_record.specs.Replayed.{IsCallMade, StandsBuilt}
use Rattle.sai_record.proofs.Replays.{IsFollowed, begins, goes-on, stands-built, stops-at}
use Rattle.sai_record.proofs.replaying.replay_calls.Goals as goal

pub loop-before-init : goal.loop-before-init
loop-before-init g c =
    let old = g.C.Chip.state c.args.chip.now in
    let calls = c.args.calls.now in (
      subst (λ numbers. IsFollowed (count_by makes_id old.effects) old.capacities calls 0 numbers old) (sym c.new-numbers.ensures) (begins old.capacities calls old c.requires),
      refl,
      refl,
      refl,
    )

pub returns-in-Err-clause-replayed : goal.returns-in-Err-clause-replayed
returns-in-Err-clause-replayed g c =
    let old = g.C.Chip.state c.args.chip.now in
    let l = c.loop-before in
    let r = c.index-calls-before.result in
    stops-at (count_by makes_id old.effects) old.capacities c.args.calls.now l.before l.numbers (g.C.Chip.state l.chip) l.invariant.0 r
    (take_more c.args.calls.now l.before r c.loop-before-test.true ∙ ap (λ x. take l.before c.args.calls.now ++ x ∷ []) (sym c.index-calls-before.is))
    old (g.C.Chip.state c.make.new.chip) c.make.new.numbers refl l.invariant.2 l.invariant.1 c.loop-before-test.true c.in-Err.why
    (subst (λ a. IsCallMade l.numbers (g.C.Chip.state l.chip) r a c.make.new.numbers (g.C.Chip.state c.make.new.chip)) c.in-Err.is c.in_ok-why.ensures.made)

pub loop-before-preserved : goal.loop-before-preserved
loop-before-preserved g c =
    let old = g.C.Chip.state c.args.chip.now in
    let l = c.loop-before in
    let r = c.index-calls-before.result in
    let y = goes-on (count_by makes_id old.effects) old.capacities c.args.calls.now l.before l.numbers (g.C.Chip.state l.chip) l.invariant.0 r
    (take_more c.args.calls.now l.before r c.loop-before-test.true ∙ ap (λ x. take l.before c.args.calls.now ++ x ∷ []) (sym c.index-calls-before.is))
    c.in_ok-why.field-0 c.make.new.numbers (g.C.Chip.state c.make.new.chip) c.in_default.not-Err l.invariant.2 c.in_ok-why.ensures.made in
    (y.0, y.1 ∙ l.invariant.1, c.in_ok-why.ensures.room ∙ l.invariant.2, c.in_ok-why.ensures.fails ∙ l.invariant.3)

pub returns-clause-replayed : goal.returns-clause-replayed
returns-clause-replayed g c =
    let old = g.C.Chip.state c.args.chip.now in
    let l = c.loop-before in
    let new = g.C.Chip.state l.chip in (
      subst (λ calls. StandsBuilt old.capacities calls new.objects) (take_all l.before c.args.calls.now c.loop-before-test.false) (stands-built (count_by makes_id old.effects) old.capacities c.args.calls.now l.before l.numbers new l.invariant.0),
      l.invariant.1,
    )

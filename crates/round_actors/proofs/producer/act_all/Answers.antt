use Rattle.std.proofs.Common.{rules, ◌≡◌, ◌+◌, true, false, [], ◌∷◌, drop, subst}
use Rattle.round_actors.specs.Acts.{HasActed, IsOnWay}
use Rattle.round_actors.proofs.Acting.{drop-next, way-can, way-goes, when-true, when-false}
use Rattle.round_actors.proofs.producer.act_all.Goals as goal

pub act-made-requires-clause-may : goal.act-made-requires-clause-may
act-made-requires-clause-may g c =
    let acts = c.args.acts.now in
    let i = c.loop-one.one-index in
    let one = c.one-item.result in
    let way = subst (λ l. IsOnWay acts l c.args.me.now c.loop-one.me) (drop-next acts i one c.loop-one-test.true c.one-item.is) c.loop-one.invariant in
    way-can c.args.intake.now acts (one ∷ []) (drop (i + 1) acts) c.args.me.now c.loop-one.me c.requires.may way

pub loop-one-preserved : goal.loop-one-preserved
loop-one-preserved g c =
    let acts = c.args.acts.now in
    let i = c.loop-one.one-index in
    let one = c.one-item.result in
    let way = subst (λ l. IsOnWay acts l c.args.me.now c.loop-one.me) (drop-next acts i one c.loop-one-test.true c.one-item.is) c.loop-one.invariant in
    let made : c.act-made.result ≡ true = search rules in
    way-goes acts (one ∷ []) (drop (i + 1) acts) c.args.me.now c.loop-one.me c.act-made.new.me way
    (when-true (HasActed (one ∷ []) c.loop-one.me c.act-made.new.me) (HasActed [] c.loop-one.me c.act-made.new.me) c.act-made.result made c.act-made.ensures.made)

pub returns-then-not-made : goal.returns-then-not-made
returns-then-not-made g c =
    let acts = c.args.acts.now in
    let i = c.loop-one.one-index in
    let one = c.one-item.result in
    let made : c.act-made.result ≡ false = search rules in (
      (
        drop i acts,
        way-goes acts [] (drop i acts) c.args.me.now c.loop-one.me c.act-made.new.me c.loop-one.invariant
            (when-false (HasActed (one ∷ []) c.loop-one.me c.act-made.new.me) (HasActed [] c.loop-one.me c.act-made.new.me) c.act-made.result made c.act-made.ensures.made),
      ),
      c.act-made.ensures.stops made,
    )

use Rattle.std.proofs.Common.{◌<◌, ap, ◌∙◌, option_copied, subst, sym}
use Rattle.sai_record.proofs.Effects.{effect-recorded, effect-there}
use Rattle.sai_record.proofs.session.push_effects.Goals as goal
use Rattle.sai_record.proofs.session.push_effects.Goals.{in-Some+in_ok-made, in_default}

pub loop-before-preserved : goal.loop-before-preserved
loop-before-preserved c =
    let effects = c.args.chip.now.effects in
    let k = c.loop-before.before in
    elim c.match-effect.branch [
      | in-Some+in_ok-made w ↦ effect-recorded effects k c.loop-before.made c.match-effect.made c.loop-before.calls c.match-effect.calls w.in-Some.call.now (ap option_copied (sym w.in-Some.is) ∙ c.effect.ensures) c.loop-before.invariant (w.calls-is ∙ w.in_ok-made.ensures.put) (w.made-is ∙ w.in_ok-made.ensures.made)
      | in_default w ↦ absurd (effect-there effects k (subst (λ n. k < n) c.effects-before-end.ensures c.loop-before-test.true) (ap option_copied (sym w.in_default.is) ∙ c.effect.ensures))
    ]

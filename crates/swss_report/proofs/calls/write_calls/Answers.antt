use Rattle.std.proofs.Common.{◌∙◌, ◌+◌, ◌<◌, length, ap, arith}
use Rattle.sai_chip.specs.Replay.{effect_thing}
use Rattle.swss_report.proofs.CallLines.{call_lines-more}
use Rattle.swss_report.proofs.calls.write_calls.Goals as goal

pub loop-before-preserved : goal.loop-before-preserved
loop-before-preserved c = λ is.
    let inv = c.loop-before.invariant is in
    let within : c.loop-before.before < length c.args.chip.now.effects = omega (arith, c.loop-before-test.true, c.effects-before-end.ensures) in
    let less : c.loop-before.replay.at < length c.args.chip.now.effects = omega (arith, inv.1, within) in
    let step = c.in_ok-thing.ensures.further inv.0 less in
    let about = step.0 ∙ ap (λ k. effect_thing c.args.chip.now.effects (k + 1)) inv.1 in
    (step.2, omega (arith, step.1, inv.1), call_lines-more c.args.plan.now c.args.chip.now.effects c.loop-before.before (length c.args.chip.now.effects) _ _ _ _ _ within c.effect.ensures about c.in_ok-write_call.ensures inv.2)

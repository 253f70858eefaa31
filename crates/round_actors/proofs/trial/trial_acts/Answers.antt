use Rattle.std.proofs.Common.{◌≡◌, ◌%◌, arith, subst}
use Rattle.round_actors.proofs.Trials.{AreTrialActs, deletion-more, restart-more}
use Rattle.round_actors.proofs.trial.trial_acts.Goals as goal

pub loop-number-preserved : goal.loop-number-preserved
loop-number-preserved c = deletion-more c.loop-number.number (c.loop-number.number % 1000) c.loop-number.acts c.push.new.self (omega arith) c.in_ok-push.ensures.ok c.loop-number.invariant

pub returns : goal.returns
returns c =
    let here = c.loop-number-test.false in
    let last = c.loop-number.auto.number-end in
    let all : c.loop-number.number ≡ c.args.deletions = omega arith in
    restart-more c.args.deletions c.loop-number.acts c.push-2.new.self c.in_ok-push-2.ensures.ok (subst (λ n. AreTrialActs n 0 c.loop-number.acts) all c.loop-number.invariant)

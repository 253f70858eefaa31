use Rattle.std.proofs.Common.{rules, ◌%◌, ◌+◌, arith}
use Rattle.round_actors.proofs.Trials.{section-more}
use Rattle.round_actors.proofs.trial.trial_sections.Goals as goal

pub loop-before-preserved : goal.loop-before-preserved
loop-before-preserved c =
    let few = c.ranges.deletions.fits in
    section-more c.args.producers c.loop-before.before (c.args.deletions + 1) c.loop-before.sections c.push.new.self
    (record { producer = c.loop-before.before % c.args.producers + 1; acts = c.in_ok-acts.acts })
    (search rules) (omega arith) c.in_ok-acts.ensures c.in_ok-push.ensures.ok c.loop-before.invariant

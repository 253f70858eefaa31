use Rattle.round_actors.proofs.Trials.{AreTrials}
use Rattle.round_actors.proofs.trial.trial_sections.Given as goal

abbrev pub invariant-loop-before : goal.invariant-loop-before
invariant-loop-before l = AreTrials l.producers l.before l.sections

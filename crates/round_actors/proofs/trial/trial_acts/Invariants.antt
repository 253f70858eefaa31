use Rattle.round_actors.proofs.Trials.{AreTrialActs}
use Rattle.round_actors.proofs.trial.trial_acts.Given as goal

abbrev pub invariant-loop-number : goal.invariant-loop-number
invariant-loop-number l = AreTrialActs l.number 0 l.acts

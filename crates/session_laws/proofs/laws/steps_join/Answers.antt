use Rattle.session_laws.proofs.Joining.{more_steps, no_step, one_step}
use Rattle.session_laws.proofs.laws.steps_join.Goals as goal

pub returns-clause-none : goal.returns-clause-none
returns-clause-none c = no_step

pub returns-clause-one : goal.returns-clause-one
returns-clause-one c = one_step

pub returns-clause-more : goal.returns-clause-more
returns-clause-more c = more_steps

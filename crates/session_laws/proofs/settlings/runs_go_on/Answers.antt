use Rattle.session_laws.proofs.Settling.Running.{runs_both, runs_more, runs_none}
use Rattle.session_laws.proofs.settlings.runs_go_on.Goals as goal

pub returns-clause-none : goal.returns-clause-none
returns-clause-none c = runs_none

pub returns-clause-more : goal.returns-clause-more
returns-clause-more c = runs_more

pub returns-clause-both : goal.returns-clause-both
returns-clause-both c = runs_both

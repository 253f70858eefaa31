use Rattle.session_laws.proofs.ByFirst.{both_stay, none_stay}
use Rattle.session_laws.proofs.workers.workers_stay_on.Goals as goal

pub returns-clause-none : goal.returns-clause-none
returns-clause-none c = none_stay

pub returns-clause-both : goal.returns-clause-both
returns-clause-both c = both_stay

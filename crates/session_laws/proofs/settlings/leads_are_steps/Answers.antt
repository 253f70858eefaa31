use Rattle.session_laws.proofs.Settling.Leading.{leads_more, leads_none, leads_one, leads_some}
use Rattle.session_laws.proofs.settlings.leads_are_steps.Goals as goal

pub returns-clause-none : goal.returns-clause-none
returns-clause-none c = leads_none

pub returns-clause-one : goal.returns-clause-one
returns-clause-one c = leads_one

pub returns-clause-more : goal.returns-clause-more
returns-clause-more c = leads_more

pub returns-clause-some : goal.returns-clause-some
returns-clause-some c = leads_some

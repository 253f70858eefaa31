use Rattle.session_laws.proofs.Settling.Popping.{pops_more, pops_none}
use Rattle.session_laws.proofs.settlings.pops_go_on.Goals as goal

pub returns-clause-none : goal.returns-clause-none
returns-clause-none c = pops_none

pub returns-clause-more : goal.returns-clause-more
returns-clause-more c = pops_more

use Rattle.session_laws.proofs.Settling.Walking.{first_last, first_next, walk_goes, walk_stays}
use Rattle.session_laws.proofs.settlings.walks_go_on.Goals as goal

pub returns-clause-next : goal.returns-clause-next
returns-clause-next c = first_next

pub returns-clause-last : goal.returns-clause-last
returns-clause-last c = first_last

pub returns-clause-stays : goal.returns-clause-stays
returns-clause-stays c = walk_stays

pub returns-clause-goes : goal.returns-clause-goes
returns-clause-goes c = walk_goes

use Rattle.session_laws.proofs.Service.ByFirst.{board-stays, core-away}
use Rattle.session_laws.proofs.workers.boards_stay.Goals as goal

pub returns-clause-stay : goal.returns-clause-stay
returns-clause-stay c = board-stays

pub returns-clause-away : goal.returns-clause-away
returns-clause-away c = core-away

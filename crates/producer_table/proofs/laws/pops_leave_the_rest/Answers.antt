use Rattle.producer_table.proofs.PendingWrites.{AreInOrder-drop, with_pending-drop}
use Rattle.producer_table.proofs.laws.pops_leave_the_rest.Goals as goal

pub returns-clause-rest : goal.returns-clause-rest
returns-clause-rest c = with_pending-drop

pub returns-clause-order : goal.returns-clause-order
returns-clause-order c = λ pending m order. AreInOrder-drop m pending order

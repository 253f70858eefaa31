use Rattle.producer_table.specs.Pending.{writes_of_op}
use Rattle.consumer_table.proofs.OpWrites.{AreOpsInOrder-after_all, AreOpsInOrder-without}
use Rattle.consumer_table.proofs.laws.ops_stay_in_order.Goals as goal

pub returns-clause-added : goal.returns-clause-added
returns-clause-added c = λ ops popped order. AreOpsInOrder-after_all ops (writes_of_op popped) order

pub returns-clause-done : goal.returns-clause-done
returns-clause-done c = AreOpsInOrder-without

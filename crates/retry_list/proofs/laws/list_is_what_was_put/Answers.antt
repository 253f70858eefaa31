use Rattle.retry_list.proofs.Woken.{reason_at-last, reasons_after-rise}
use Rattle.retry_list.proofs.laws.list_is_what_was_put.Goals as goal

pub returns-clause-reason : goal.returns-clause-reason
returns-clause-reason c = reason_at-last

pub returns-clause-order : goal.returns-clause-order
returns-clause-order c = reasons_after-rise

use Rattle.round_laws.proofs.Awaited.{apply-awaited, awaited-legal, awaited-true, call-awaited, keys-awaited, mark-awaited, session-recorded}
use Rattle.round_laws.proofs.laws.what_is_due_is_awaited.Goals as goal

pub returns-clause-recorded : goal.returns-clause-recorded
returns-clause-recorded c = λ workers. session-recorded {workers = workers}

pub returns-clause-call : goal.returns-clause-call
returns-clause-call c = λ workers core chip w x at below some. call-awaited core chip x at w below some

pub returns-clause-apply : goal.returns-clause-apply
returns-clause-apply c = λ workers core chip next rest x at left. apply-awaited core chip x at next rest left

pub returns-clause-legal : goal.returns-clause-legal
returns-clause-legal c = λ workers. awaited-legal {workers = workers}

pub returns-clause-mark : goal.returns-clause-mark
returns-clause-mark c = λ workers core chip waits x at none rest reasons all only order. mark-awaited core chip x at none rest waits reasons all only order

pub returns-clause-keys : goal.returns-clause-keys
returns-clause-keys c = λ workers. keys-awaited {workers = workers}

pub returns-clause-is_true : goal.returns-clause-is_true
returns-clause-is_true c = λ workers. awaited-true {workers = workers}

use Rattle.session_laws.proofs.Marking.{popped}
use Rattle.session_laws.proofs.Seeing.{free_worker_rests, is_idle, keys_same, same_keys}
use Rattle.session_laws.proofs.laws.free_workers_see.Goals as goal

pub returns-clause-none : goal.returns-clause-none
returns-clause-none c = λ core chip s w is at none. free_worker_rests core chip s is at w none

pub returns-clause-popped : goal.returns-clause-popped
returns-clause-popped c = λ core chip s is at empty. popped core chip s is at empty

pub returns-clause-keys : goal.returns-clause-keys
returns-clause-keys c = λ core chip s k is. (same_keys core chip s is k, keys_same core chip s is k)

pub returns-clause-idle : goal.returns-clause-idle
returns-clause-idle c = λ core chip s w is at none empty waits. is_idle core chip s is at w none empty waits

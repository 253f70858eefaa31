use Rattle.retry_list.proofs.Woken.{woken_keys-rise}
use Rattle.retry_list.proofs.laws.woken_keys_rise.Goals as goal

pub returns : goal.returns
returns c = woken_keys-rise

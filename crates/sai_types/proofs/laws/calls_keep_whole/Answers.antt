use Rattle.sai_types.proofs.Whole.{whole-after_calls}
use Rattle.sai_types.proofs.laws.calls_keep_whole.Goals as goal

pub returns : goal.returns
returns c = whole-after_calls

use Rattle.sai_types.proofs.Whole.{whole-after_call}
use Rattle.sai_types.proofs.laws.stays_whole.Goals as goal

pub returns : goal.returns
returns c = whole-after_call

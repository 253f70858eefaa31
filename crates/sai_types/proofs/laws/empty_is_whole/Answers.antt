use Rattle.sai_types.proofs.Whole.{whole-empty}
use Rattle.sai_types.proofs.laws.empty_is_whole.Goals as goal

pub returns : goal.returns
returns c = whole-empty

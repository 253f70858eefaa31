use Rattle.sai_types.proofs.Found.{found-removed}
use Rattle.sai_types.proofs.laws.removed_is_gone.Goals as goal

pub returns : goal.returns
returns c = found-removed

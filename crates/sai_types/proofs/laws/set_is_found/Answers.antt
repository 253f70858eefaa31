use Rattle.sai_types.proofs.Found.{found-set}
use Rattle.sai_types.proofs.laws.set_is_found.Goals as goal

pub returns : goal.returns
returns c = found-set

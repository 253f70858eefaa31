use Rattle.sai_types.proofs.Found.{found-created}
use Rattle.sai_types.proofs.laws.made_is_found.Goals as goal

pub returns : goal.returns
returns c = found-created

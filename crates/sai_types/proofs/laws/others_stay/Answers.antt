use Rattle.sai_types.proofs.Found.{found-other}
use Rattle.sai_types.proofs.laws.others_stay.Goals as goal

pub returns : goal.returns
returns c = found-other

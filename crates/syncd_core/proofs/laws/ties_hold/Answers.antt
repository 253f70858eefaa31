use Rattle.syncd_core.proofs.Ties.{ties-hold}
use Rattle.syncd_core.proofs.laws.ties_hold.Goals as goal

pub returns : goal.returns
returns c = λ made view calls times. ties-hold made view calls times

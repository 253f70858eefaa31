use Rattle.session_laws.proofs.Sizing.{sized}
use Rattle.session_laws.proofs.laws.logs_are_sized.Goals as goal

pub returns : goal.returns
returns c = sized

use Rattle.session_laws.proofs.Settling.Settling.{settling_ends}
use Rattle.session_laws.proofs.settlings.settlings_end.Goals as goal

pub returns : goal.returns
returns c = settling_ends

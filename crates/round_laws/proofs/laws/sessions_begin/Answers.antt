use Rattle.round_laws.proofs.Sessions.{begins-session}
use Rattle.round_laws.proofs.laws.sessions_begin.Goals as goal

pub returns : goal.returns
returns c = begins-session

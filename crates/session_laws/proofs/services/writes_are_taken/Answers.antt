use Rattle.session_laws.proofs.Service.Taking.{taken-next}
use Rattle.session_laws.proofs.services.writes_are_taken.Goals as goal

pub returns : goal.returns
returns c = taken-next

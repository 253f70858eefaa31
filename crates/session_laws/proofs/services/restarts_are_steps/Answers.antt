use Rattle.session_laws.proofs.Service.Restarting.{restart-next}
use Rattle.session_laws.proofs.services.restarts_are_steps.Goals as goal

pub returns : goal.returns
returns c = restart-next

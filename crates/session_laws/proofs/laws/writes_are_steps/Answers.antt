use Rattle.session_laws.proofs.Writing.{write_step}
use Rattle.session_laws.proofs.laws.writes_are_steps.Goals as goal

pub returns : goal.returns
returns c = write_step

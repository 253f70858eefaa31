use Rattle.session_laws.proofs.Beginnings.{drops}
use Rattle.session_laws.proofs.laws.drops_are_steps.Goals as goal

pub returns : goal.returns
returns c = λ core chip s k is at order i un same. drops core chip s is at k i order un same

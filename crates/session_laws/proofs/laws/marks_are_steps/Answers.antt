use Rattle.session_laws.proofs.Marking.{marks_told}
use Rattle.session_laws.proofs.laws.marks_are_steps.Goals as goal

pub returns : goal.returns
returns c = λ core chip s waits turns is at none rest reasons all order. marks_told core chip s is at waits turns none rest reasons all order

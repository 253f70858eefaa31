use Rattle.session_laws.proofs.Answering.{answers_step, ends_then, may_take}
use Rattle.session_laws.proofs.laws.answers_are_steps.Goals as goal

pub returns-clause-may : goal.returns-clause-may
returns-clause-may c = λ core chip s w x call a sync chip' is at there begun told went calls. may_take core chip s is at w x there begun call told a went sync chip' calls

pub returns-clause-ends : goal.returns-clause-ends
returns-clause-ends c = λ core chip s w x call a sync chip' is at there begun told went calls. ends_then core chip s is at w x there begun call told a went sync chip' calls

pub returns-clause-makes : goal.returns-clause-makes
returns-clause-makes c = λ core chip s w x call a sync chip' b is at there begun told went calls taken. answers_step core chip s is at w x there begun call told a went sync chip' calls b taken

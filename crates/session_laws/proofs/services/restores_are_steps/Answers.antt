use Rattle.session_laws.proofs.Service.Restoring.{can-begin, listed-waits, restored-step}
use Rattle.session_laws.proofs.services.restores_are_steps.Goals as goal

pub returns-clause-can : goal.returns-clause-can
returns-clause-can c = λ first core chip s is at popped x. can-begin first chip s is at popped core x

pub returns-clause-waits : goal.returns-clause-waits
returns-clause-waits c = listed-waits

pub returns-clause-makes : goal.returns-clause-makes
returns-clause-makes c = λ first core chip s m y is at popped x begins. restored-step first chip s is at popped core x m y begins

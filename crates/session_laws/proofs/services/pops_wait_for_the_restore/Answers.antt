use Rattle.session_laws.proofs.Service.Popping.{pops-stay}
use Rattle.session_laws.proofs.services.pops_wait_for_the_restore.Goals as goal

pub returns : goal.returns
returns c = λ core chip s t is at pops. pops-stay core t pops chip s is at

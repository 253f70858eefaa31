use Rattle.session_laws.proofs.Preparing.{can}
use Rattle.session_laws.proofs.laws.calls_can_be_made.Goals as goal

pub returns : goal.returns
returns c = λ core chip s w x call is at there begun told. can core chip s is at w x there begun call told

use Rattle.session_laws.proofs.Beginning.{new_stands}
use Rattle.session_laws.proofs.laws.new_cores_stand.Goals as goal

pub returns : goal.returns
returns c = new_stands

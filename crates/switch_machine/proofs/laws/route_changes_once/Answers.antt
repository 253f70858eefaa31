use Rattle.switch_machine.proofs.Bearing.{bears-once}
use Rattle.switch_machine.proofs.laws.route_changes_once.Goals as goal

pub returns : goal.returns
returns c = λ plan v prefix old new used. bears-once plan v prefix old new used

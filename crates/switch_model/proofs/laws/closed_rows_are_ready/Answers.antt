use Rattle.switch_model.proofs.Ready.{ready_rows-closed}
use Rattle.switch_model.proofs.laws.closed_rows_are_ready.Goals as goal

pub returns : goal.returns
returns c = ready_rows-closed

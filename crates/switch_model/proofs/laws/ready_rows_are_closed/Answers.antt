use Rattle.switch_model.proofs.Ready.{IsClosed-ready}
use Rattle.switch_model.proofs.laws.ready_rows_are_closed.Goals as goal

pub returns : goal.returns
returns c = IsClosed-ready

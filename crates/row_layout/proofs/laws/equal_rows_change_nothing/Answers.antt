use Rattle.row_layout.proofs.Changing.{changes-same}
use Rattle.row_layout.proofs.laws.equal_rows_change_nothing.Goals as goal

pub returns : goal.returns
returns c = changes-same

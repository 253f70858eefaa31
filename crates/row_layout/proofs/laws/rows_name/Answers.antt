use Rattle.row_layout.proofs.Naming.{refers-named}
use Rattle.row_layout.proofs.laws.rows_name.Goals as goal

pub returns : goal.returns
returns c = λ plan k p r t n is h refers owns. refers-named plan is k r t h n refers p owns

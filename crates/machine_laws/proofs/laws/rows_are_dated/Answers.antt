use Rattle.machine_laws.proofs.Dated.{dated-rows}
use Rattle.machine_laws.proofs.laws.rows_are_dated.Goals as goal

pub returns : goal.returns
returns c = λ plan workers capacities ts k r is run h. dated-rows plan is workers capacities ts run k r h

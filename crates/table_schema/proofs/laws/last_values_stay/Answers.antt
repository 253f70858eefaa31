use Rattle.std.proofs.Common.{[]}
use Rattle.table_schema.proofs.LastValues.{HasRisingNames-merged, value-last}
use Rattle.table_schema.proofs.laws.last_values_stay.Goals as goal

pub returns-clause-rising : goal.returns-clause-rising
returns-clause-rising c = λ pairs. HasRisingNames-merged [] pairs tt

pub returns-clause-last : goal.returns-clause-last
returns-clause-last c = λ pairs name. value-last name pairs

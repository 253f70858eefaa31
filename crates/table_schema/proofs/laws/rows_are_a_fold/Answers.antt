use Rattle.std.proofs.Common.{[]}
use Rattle.table_schema.proofs.RowLists.{HasRisingRows-rows_of, after_writes-more}
use Rattle.table_schema.proofs.laws.rows_are_a_fold.Goals as goal

pub returns-clause-rising : goal.returns-clause-rising
returns-clause-rising c = HasRisingRows-rows_of

pub returns-clause-more : goal.returns-clause-more
returns-clause-more c = after_writes-more []

use Rattle.app_restart.specs.TableName.{rows_of_table}
use Rattle.table_schema.specs.Rows.{rows_of}
use Rattle.app_restart.proofs.Finishing.{fields_at-reconciled, reconciled-writes}
use Rattle.app_restart.proofs.Reconciling.{differences-differ}
use Rattle.app_restart.proofs.laws.tables_are_reconciled.Goals as goal

pub returns-clause-rows : goal.returns-clause-rows
returns-clause-rows c = reconciled-writes

pub returns-clause-by_key : goal.returns-clause-by_key
returns-clause-by_key c = fields_at-reconciled

pub returns-clause-differ : goal.returns-clause-differ
returns-clause-differ c = λ rows table writes. differences-differ (rows_of_table table rows) (rows_of writes)

use Rattle.table_schema.specs.Key.{key_cmp}
use Rattle.table_schema.proofs.Places.{HasRisingKeys-from_sorted}
use Rattle.row_store.proofs.rows.Rows.len.Goals as goal

pub returns-clause-rising : goal.returns-clause-rising
returns-clause-rising c = rw (← c.self.view_is) (HasRisingKeys-from_sorted key_cmp c.self.inside.rows c.len.ensures.ordered)

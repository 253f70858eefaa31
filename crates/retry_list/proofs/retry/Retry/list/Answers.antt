use Rattle.table_schema.specs.Key.{key_cmp}
use Rattle.table_schema.proofs.Places.{HasRisingKeys-from_sorted}
use Rattle.retry_list.proofs.retry.Retry.list.Goals as goal

pub returns-clause-rising : goal.returns-clause-rising
returns-clause-rising c = rw (← c.self.view_is) (HasRisingKeys-from_sorted key_cmp c.self.inside.reasons c.iter.ensures.ordered)

use Rattle.table_schema.specs.Key.{key_cmp}
use Rattle.table_schema.proofs.Places.{HasRisingKeys-from_sorted}
use Rattle.producer_table.proofs.waiting.Waiting.is_empty.Goals as goal

pub returns-clause-order : goal.returns-clause-order
returns-clause-order c = rw (← c.self.view_is) (record { keys = HasRisingKeys-from_sorted key_cmp c.self.inside.keys c.len.ensures.ordered; names = c.self.invariant })

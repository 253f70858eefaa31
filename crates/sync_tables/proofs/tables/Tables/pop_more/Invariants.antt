use Rattle.sync_tables.specs.Tables.{PopsBatch, PopsKeys}
use Rattle.sync_tables.proofs.tables.Tables.pop_more.Given as goal

-- the first keys were popped so far
abbrev pub invariant-loop : goal.invariant-loop
invariant-loop l = record {
  batch : PopsBatch l.counter l.fn.self l.self;
  keys : PopsKeys l.fn.self l.self;
}

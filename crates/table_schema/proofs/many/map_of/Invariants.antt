use Rattle.std.proofs.Common.{◌≡◌}
use Rattle.table_schema.specs.Fields.{merged}
use Rattle.table_schema.proofs.many.map_of.Given as goal

-- the map so far, with the pairs that are left laid over it, is all pairs
abbrev pub invariant-loop-name : goal.invariant-loop-name
invariant-loop-name l = merged l.map.entries l.name-iterator ≡ l.fn.pairs

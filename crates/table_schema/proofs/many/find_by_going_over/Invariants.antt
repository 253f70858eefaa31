use Rattle.std.proofs.Common.{◌≡◌}
use Rattle.table_schema.specs.Fields.{value_of}
use Rattle.table_schema.proofs.many.find_by_going_over.Given as goal

-- the name is found among the pairs that are left
abbrev pub invariant-loop-other : goal.invariant-loop-other
invariant-loop-other l = value_of l.fn.name l.other-iterator ≡ value_of l.fn.name l.fn.pairs.entries

use Rattle.std.proofs.Common.{◌≡◌, drop}
use Rattle.table_schema.specs.Fields.{value_of}
use Rattle.table_schema.proofs.few.find_in_turn.Given as goal

-- the name is found among the pairs that are left
abbrev pub invariant-loop-pair : goal.invariant-loop-pair
invariant-loop-pair l = value_of l.fn.name (drop l.pair-index l.fn.pairs) ≡ value_of l.fn.name l.fn.pairs

use Rattle.std.proofs.Common.{◌≡◌, take}
use Rattle.table_schema.proofs.few.copy_few.Given as goal

-- the pairs so far are copied
abbrev pub invariant-loop-pair : goal.invariant-loop-pair
invariant-loop-pair l = l.copies.items ≡ take l.pair-index l.pairs

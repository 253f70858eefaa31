use Rattle.std.proofs.Common.{◌≡◌, length}
use Rattle.table_schema.specs.Fields.{taken_back}
use Rattle.table_schema.proofs.own_fields.OwnFields.take_back.Given as goal

-- what is left, taken back, comes to all taken back
abbrev pub invariant-loop-name : goal.invariant-loop-name
invariant-loop-name l = taken_back l.self l.laid.items ≡ taken_back l.fn.self l.fn.laid.items

abbrev pub decreases-loop-name : goal.decreases-loop-name
decreases-loop-name l = length l.laid.items

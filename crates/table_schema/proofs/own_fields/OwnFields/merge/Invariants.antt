use Rattle.std.proofs.Common.{◌≡◌}
use Rattle.table_schema.specs.Fields.{merged, taken_back}
use Rattle.table_schema.proofs.own_fields.OwnFields.merge.Given as goal

-- the pairs that are left, laid over these, make what is wanted, and what was laid can be taken back
abbrev pub invariant-loop-name : goal.invariant-loop-name
invariant-loop-name l = (merged l.self l.name-iterator ≡ merged l.fn.self l.fn.other) × (taken_back l.self l.laid.items ≡ l.fn.self)

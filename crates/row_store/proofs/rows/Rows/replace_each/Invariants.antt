use Rattle.std.proofs.Common.{◌≡◌}
use Rattle.std.specs.List.{fold}
use Rattle.row_store.proofs.Copies.{with_row}
use Rattle.row_store.proofs.rows.Rows.replace_each.Given as goal

-- the rows so far, with those that are left, come to the same as all of them
abbrev pub invariant-loop-key : goal.invariant-loop-key
invariant-loop-key l = fold with_row l.self l.key-iterator ≡ fold with_row l.fn.self l.fn.rows

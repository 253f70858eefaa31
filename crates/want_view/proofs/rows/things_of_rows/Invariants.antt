use Rattle.std.proofs.Common.{◌≡◌, []}
use Rattle.switch_model.specs.Good.{good_rows}
use Rattle.table_schema.specs.Rows.{HasRisingRows}
use Rattle.want_view.specs.Walk.{walk}
use Rattle.want_view.proofs.rows.things_of_rows.Given as goal

-- going over the rows that are left, from what has been gone over, comes to the same as going over all
abbrev pub invariant-loop-key : goal.invariant-loop-key
invariant-loop-key l = (walk l.plan (good_rows l.plan l.rows) l.key-iterator (l.ready.keys, l.things.keys) ≡ walk l.plan (good_rows l.plan l.rows) l.rows ([], [])) × HasRisingRows l.rows

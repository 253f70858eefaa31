use Rattle.std.proofs.Common.{◌≡◌, ◌++◌}
use Rattle.std.specs.Map.{keys_of}
use Rattle.row_store.proofs.rows.push_keys.Given as goal

-- the keys so far, with those of what is left, are the first ones and all of the map
abbrev pub invariant-loop-key : goal.invariant-loop-key
invariant-loop-key l = l.keys.items ++ keys_of l.key-iterator ≡ l.fn.keys.items ++ keys_of l.rows

use Rattle.std.proofs.Common.{◌≡◌, []}
use Rattle.consumer_table.proofs.KeySets.{with_sets}
use Rattle.consumer_table.proofs.to_sync.ToSync.of_keys.Given as goal

-- the Sets so far, with those of the keys that are left, are all Sets
abbrev pub invariant-loop-key : goal.invariant-loop-key
invariant-loop-key l = with_sets l.ops l.key-iterator.rest.items ≡ with_sets [] l.fn.keys.items

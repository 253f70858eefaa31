use Rattle.std.proofs.Common.{◌≡◌, ◌≤◌, ◌++◌, length, vec_capacity}
use Rattle.retry_list.specs.Reasons.{without_all}
use Rattle.retry_list.proofs.retry.take_off.Given as goal

-- the keys so far with those that are left are all keys, of which the others are still to be taken off, and there is room
abbrev pub invariant-loop-key : goal.invariant-loop-key
invariant-loop-key l = record {
  given : l.woken.items ++ l.key-iterator ≡ l.fn.keys.keys;
  left : without_all l.reasons l.key-iterator ≡ without_all l.fn.reasons l.fn.keys.keys;
  room : length l.fn.keys.keys ≤ vec_capacity l.woken;
}

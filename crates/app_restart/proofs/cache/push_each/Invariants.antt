use Rattle.std.proofs.Common.{◌≡◌, ◌++◌}
use Rattle.app_restart.specs.Entry.{differences_of}
use Rattle.app_restart.proofs.cache.push_each.Given as goal

-- the writes so far, with those of what is left, are the first ones and those of all entries
abbrev pub invariant-loop-key : goal.invariant-loop-key
invariant-loop-key l = l.writes.items ++ differences_of l.key-iterator ≡ l.fn.writes.items ++ differences_of l.fn.entries

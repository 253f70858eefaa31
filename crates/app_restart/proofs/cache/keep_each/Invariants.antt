use Rattle.std.proofs.Common.{◌≡◌}
use Rattle.app_restart.specs.Entry.{entries_with}
use Rattle.app_restart.proofs.cache.keep_each.Given as goal

-- the entries so far, with the rows that are left, come to the same as with all of them
abbrev pub invariant-loop-key : goal.invariant-loop-key
invariant-loop-key l = entries_with l.table l.entries l.key-iterator ≡ entries_with l.table l.fn.entries l.fn.rows

use Rattle.std.proofs.Common.{◌≡◌}
use Rattle.app_restart.specs.Difference.{are_equal}
use Rattle.app_restart.proofs.compare.are_equal.Given as goal

-- what is left of the rows is equal exactly where the rows are
abbrev pub invariant-loop-name : goal.invariant-loop-name
invariant-loop-name l = are_equal l.name-iterator l.others ≡ are_equal l.fn.row l.fn.other

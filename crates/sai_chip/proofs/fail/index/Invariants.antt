use Rattle.std.proofs.Common.{drop, length, ◌≤◌}
use Rattle.sai_chip.specs.Failing.{IsFailIndex}
use Rattle.sai_chip.proofs.fail.index.Given as goal

-- the map has the entries from this place on
abbrev pub invariant-loop-left : goal.invariant-loop-left
invariant-loop-left l = record {
  within : l.left ≤ length l.fails;
  found : IsFailIndex (drop l.left l.fails) l.by_number;
}

abbrev pub decreases-loop-left : goal.decreases-loop-left
decreases-loop-left l = l.left

use Rattle.std.proofs.Common.{◌≤◌, drop, length}
use Rattle.sai_types.specs.Named.{those}
use Rattle.chip_layout.specs.Counted.{AreDistinct}
use Rattle.part_cases.proofs.plans.starting.are_distinct.Given as goal

-- the keys from this place on are distinct
abbrev pub invariant-loop-left : goal.invariant-loop-left
invariant-loop-left l = record {
  within : l.left ≤ length l.keys;
  distinct : AreDistinct (those (drop l.left l.keys));
}

abbrev pub decreases-loop-left : goal.decreases-loop-left
decreases-loop-left l = l.left

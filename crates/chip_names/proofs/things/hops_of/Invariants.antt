use Rattle.std.proofs.Common.{◌≡◌, ◌≤◌, drop, length}
use Rattle.chip_names.specs.Naming.{numbered}
use Rattle.chip_names.specs.Members.{hops_by}
use Rattle.chip_names.proofs.things.hops_of.Given as goal

-- the hops are those of the next hops from this place on
abbrev pub invariant-loop-left : goal.invariant-loop-left
invariant-loop-left l = record {
  within : l.left ≤ length l.next_hops;
  found : l.hops ≡ hops_by (numbered l.bodies) (drop l.left l.next_hops);
}

abbrev pub decreases-loop-left : goal.decreases-loop-left
decreases-loop-left l = l.left

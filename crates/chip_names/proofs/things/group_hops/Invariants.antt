use Rattle.std.proofs.Common.{◌≤◌, drop, length}
use Rattle.chip_names.specs.Naming.{AreHops, entries_of}
use Rattle.chip_names.proofs.things.group_hops.Given as goal

-- the hops are those of the members from this place on
abbrev pub invariant-loop-left : goal.invariant-loop-left
invariant-loop-left l = record {
  within : l.left ≤ length l.objects;
  found : AreHops l.known (entries_of (drop l.left l.objects)) l.groups;
}

abbrev pub decreases-loop-left : goal.decreases-loop-left
decreases-loop-left l = l.left

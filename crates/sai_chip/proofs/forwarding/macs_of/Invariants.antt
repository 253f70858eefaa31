use Rattle.std.proofs.Common.{◌≡◌, ◌≤◌, drop, length, option_map}
use Rattle.chip_names.specs.Members.{hops_by}
use Rattle.sai_chip.specs.Forward.{ways_by, ways_in}
use Rattle.sai_chip.proofs.forwarding.macs_of.Given as goal

-- the ways are those of the next hops from this place on
abbrev pub invariant-loop-left : goal.invariant-loop-left
invariant-loop-left l = record {
  within : l.left ≤ length l.next_hops;
  found : option_map (λ m. ways_in m.entries) l.macs ≡ ways_by l.held (hops_by l.held (drop l.left l.next_hops));
}

abbrev pub decreases-loop-left : goal.decreases-loop-left
decreases-loop-left l = l.left

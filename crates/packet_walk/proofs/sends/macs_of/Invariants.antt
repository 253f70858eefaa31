use Rattle.std.proofs.Common.{◌≡◌, ◌≤◌, drop, length}
use Rattle.packet_walk.specs.Sends.{macs_in}
use Rattle.packet_walk.proofs.sends.macs_of.Given as goal

-- the addresses are those of the things from this place on
abbrev pub invariant-loop-left : goal.invariant-loop-left
invariant-loop-left l = record {
  within : l.left ≤ length l.things;
  found : l.macs.entries ≡ macs_in (drop l.left l.things);
}

abbrev pub decreases-loop-left : goal.decreases-loop-left
decreases-loop-left l = l.left

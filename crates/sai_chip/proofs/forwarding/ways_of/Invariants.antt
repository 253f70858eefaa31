use Rattle.std.proofs.Common.{◌≡◌, ◌++◌}
use Rattle.sai_chip.specs.Forward.{ways_in, ways_of}
use Rattle.sai_chip.proofs.forwarding.ways_of.Given as goal

-- the ways so far, with those of the hops that are left, are those of all hops
abbrev pub invariant-loop-hop : goal.invariant-loop-hop
invariant-loop-hop l = l.ways ++ ways_of (ways_in l.hop-iterator) ≡ ways_of (ways_in l.macs.entries)

use Rattle.std.proofs.Common.{◌≡◌, ◌++◌, drop}
use Rattle.packet_walk.specs.Sends.{addressed_ways}
use Rattle.packet_walk.proofs.sends.ways.Given as goal

-- the ways so far, with those of the hops that are left, are the ways of all
abbrev pub invariant-loop-whop : goal.invariant-loop-whop
invariant-loop-whop l = l.ways ++ addressed_ways l.macs.entries (drop l.whop-index l.hops) ≡ addressed_ways l.macs.entries l.hops

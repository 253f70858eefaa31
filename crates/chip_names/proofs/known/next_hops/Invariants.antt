use Rattle.chip_names.specs.Naming.{numbered}
use Rattle.chip_names.proofs.NextHops.{AreSoFar}
use Rattle.chip_names.proofs.known.next_hops.Given as goal

abbrev pub invariant-loop-id : goal.invariant-loop-id
invariant-loop-id l = AreSoFar (numbered l.bodies) l.bodies l.id-iterator l.hops

use Rattle.std.proofs.Common.{◌≡◌, ◌++◌, drop}
use Rattle.orch_flight.specs.Grouping.{neighbour_keys}
use Rattle.nexthop_orch.proofs.flight.neighbour_keys.Given as goal

abbrev pub invariant-loop-hop : goal.invariant-loop-hop
invariant-loop-hop l = l.keys.items ++ neighbour_keys l.plan (drop l.hop-index l.hops) ≡ neighbour_keys l.fn.plan l.fn.hops

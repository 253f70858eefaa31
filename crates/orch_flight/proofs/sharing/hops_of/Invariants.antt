use Rattle.std.proofs.Common.{◌≡◌, Some, ◌++◌, map, reverse}
use Rattle.switch_model.specs.Things.{hops_of}
use Rattle.orch_flight.proofs.sharing.hops_of.Given as goal

-- the hops that are left and those that were put are all, and the latter are found
abbrev pub invariant-loop-hop : goal.invariant-loop-hop
invariant-loop-hop l = (l.hop-iterator.iter.rest.now ++ reverse (map (λ hop. hop.now) l.yielded) ≡ l.hops) × (hops_of l.plan (reverse (map (λ hop. hop.now) l.yielded)) ≡ Some l.found)

-- The order of destinations. Own.
use Rattle.std.specs.Prelude.{◌≡◌, Some}
use Rattle.std.proofs.Common.{◌∙◌}
use Rattle.std.specs.Cmp.{Agrees, IsTotalOrder, Some-then, ties, total}
use Rattle.std.specs.Ordering.{eq_by_cmp, ordering_then, partial_ordering_then}
use Rattle.std.specs.declared.cmp.Ordering.{Ordering}
use Rattle.swss_types.specs.AddressOrder.{prefix_cmp}
use Rattle.swss_types.specs.Vrf.{vrf_cmp, vrfs_agree}
use Rattle.ref_counts.specs.contracts.destination.DestinationPartialEq.TheImpl as destination_eq
use Rattle.ref_counts.specs.contracts.destination.DestinationPartialOrd.TheImpl as destination_partial_ord
use Rattle.ref_counts.specs.contracts.destination.DestinationPartialOrd.TheImpl.Laws as destination_laws
use Rattle.ref_counts.specs.declared.destination.Destination.{Destination}

-- by router, and then by prefix
abbrev pub destination_cmp : Destination → Destination → Ordering
destination_cmp d e = ordering_then (vrf_cmp d.vrf e.vrf) (prefix_cmp d.prefix e.prefix)

-- the two comparisons agree
pub destinations_agree : Agrees destination_partial_ord.ghosts.partial_cmp destination_cmp
destinations_agree d e =
    (λ f. partial_ordering_then (vrfs_agree d.vrf e.vrf f) (Some (prefix_cmp d.prefix e.prefix))) ∙ Some-then (vrf_cmp d.vrf e.vrf) (prefix_cmp d.prefix e.prefix)

pub destination_total : IsTotalOrder destination_cmp
destination_total = total destination_laws.laws-law destinations_agree

pub destinations_tie : (d e : Destination) → destination_eq.ghosts.eq d e ≡ eq_by_cmp destination_cmp d e
destinations_tie = ties destination_laws.laws-law destinations_agree

-- Virtual routers, and what packets a prefix in one of them covers. Own.
use Rattle.std.specs.Prelude.{◌≡◌, Bool, ◌&&◌}
use Rattle.std.proofs.Common.{refl}
use Rattle.std.specs.Cmp.{Agrees, IsTotalOrder, ties, total}
use Rattle.std.specs.Ordering.{eq_by_cmp}
use Rattle.std.specs.declared.cmp.Ordering.{Ordering}
use Rattle.std.specs.declared.cmp.Ordering.TheVariants.{Less, Equal, Greater}
use Rattle.swss_types.specs.Address.{covers}
use Rattle.swss_types.specs.contracts.vrf.VrfNamePartialEq.TheImpl as vrf_name_eq
use Rattle.swss_types.specs.contracts.vrf.VrfNameOrd.TheImpl as vrf_name_ord
use Rattle.swss_types.specs.contracts.vrf.VrfPartialEq.TheImpl as vrf_eq
use Rattle.swss_types.specs.contracts.vrf.VrfNameOrd.TheImpl.Laws as vrf_name_laws
use Rattle.swss_types.specs.contracts.vrf.VrfPartialOrd.TheImpl as vrf_partial_ord
use Rattle.swss_types.specs.contracts.vrf.VrfPartialOrd.TheImpl.Laws as vrf_partial_laws
use Rattle.swss_types.specs.declared.address.Prefix.{Prefix}
use Rattle.swss_types.specs.declared.vrf.Packet.{Packet}
use Rattle.swss_types.specs.declared.vrf.Vrf.{Vrf}
use Rattle.swss_types.specs.declared.vrf.Vrf.TheVariants as vrf
use Rattle.swss_types.specs.declared.vrf.VrfName.{VrfName}

abbrev pub same_vrf_name : VrfName → VrfName → Bool
same_vrf_name = vrf_name_eq.ghosts.eq

-- by their bytes
abbrev pub vrf_name_cmp : VrfName → VrfName → Ordering
vrf_name_cmp = vrf_name_ord.ghosts.cmp

abbrev pub same_vrf : Vrf → Vrf → Bool
same_vrf = vrf_eq.ghosts.eq

-- the default router comes first, and then by name
abbrev pub vrf_cmp : Vrf → Vrf → Ordering
vrf_cmp vrf.Default vrf.Default = Equal
vrf_cmp vrf.Default (vrf.Named n) = Less
vrf_cmp (vrf.Named m) vrf.Default = Greater
vrf_cmp (vrf.Named m) (vrf.Named n) = vrf_name_cmp m n

-- the two comparisons agree
pub vrfs_agree : Agrees vrf_partial_ord.ghosts.partial_cmp vrf_cmp
vrfs_agree vrf.Default vrf.Default = refl
vrfs_agree vrf.Default (vrf.Named n) = refl
vrfs_agree (vrf.Named m) vrf.Default = refl
vrfs_agree (vrf.Named m) (vrf.Named n) = vrf_name_laws.matches_partial_cmp-law m n

pub vrf_total : IsTotalOrder vrf_cmp
vrf_total = total vrf_partial_laws.laws-law vrfs_agree

pub vrfs_tie : (a b : Vrf) → vrf_eq.ghosts.eq a b ≡ eq_by_cmp vrf_cmp a b
vrfs_tie = ties vrf_partial_laws.laws-law vrfs_agree

-- a prefix in a router covers a packet
abbrev pub covers_in : Vrf → Prefix → Packet → Bool
covers_in v p a = same_vrf v a.vrf && covers p a.to

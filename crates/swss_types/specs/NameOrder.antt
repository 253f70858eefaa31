-- The order of names of interfaces. Own.
use Rattle.std.specs.Prelude.{◌≡◌, ℕ}
use Rattle.std.proofs.Common.{refl}
use Rattle.std.specs.Cmp.{Agrees, IsTotalOrder, ties, total}
use Rattle.std.specs.Ordering.{eq_by_cmp, nat_cmp, ordering_then}
use Rattle.std.specs.declared.cmp.Ordering.{Ordering}
use Rattle.swss_types.specs.contracts.interface.IfNamePartialEq.TheImpl as name_eq
use Rattle.swss_types.specs.contracts.interface.IfNamePartialOrd.TheImpl as name_partial_ord
use Rattle.swss_types.specs.contracts.interface.IfNamePartialOrd.TheImpl.Laws as name_laws
use Rattle.swss_types.specs.declared.interface.IfName.{IfName}
use Rattle.swss_types.specs.declared.interface.IfName.TheVariants as name

-- ports come first, then the interfaces of VLANs, then loopback interfaces
abbrev pub name_place : IfName → ℕ
name_place (name.Ethernet number) = 0
name_place (name.Vlan number) = 1
name_place (name.Loopback number) = 2

abbrev pub name_number : IfName → ℕ
name_number (name.Ethernet number) = number
name_number (name.Vlan number) = number
name_number (name.Loopback number) = number

-- names by what they are of, and then by their numbers
abbrev pub name_cmp : IfName → IfName → Ordering
name_cmp a b = ordering_then (nat_cmp (name_place a) (name_place b)) (nat_cmp (name_number a) (name_number b))

-- the two comparisons agree
pub names_agree : Agrees name_partial_ord.ghosts.partial_cmp name_cmp
names_agree (name.Ethernet m) (name.Ethernet n) = refl
names_agree (name.Vlan m) (name.Vlan n) = refl
names_agree (name.Loopback m) (name.Loopback n) = refl
names_agree a b = refl

pub name_total : IsTotalOrder name_cmp
name_total = total name_laws.laws-law names_agree

pub names_tie : (a b : IfName) → name_eq.ghosts.eq a b ≡ eq_by_cmp name_cmp a b
names_tie = ties name_laws.laws-law names_agree

-- Keys of rows (SWSS schema), and their order: by table, ports first and unreadable keys last, and within a table by the parts of the key.
use Rattle.std.specs.Prelude.{◌≡◌, ℕ, Some}
use Rattle.std.proofs.Common.{refl, ◌∙◌}
use Rattle.std.specs.Cmp.{Agrees, IsTotalOrder, Some-then, ties, total}
use Rattle.std.specs.Cmp.Lexicographic.{slice_cmp}
use Rattle.std.specs.Ordering.{eq_by_cmp, nat_cmp, ordering_then, partial_ordering_then}
use Rattle.std.specs.declared.cmp.Ordering.{Ordering}
use Rattle.std.specs.declared.cmp.Ordering.TheVariants.{Equal}
use Rattle.swss_types.specs.AddressOrder.{ip_cmp, prefix_cmp}
use Rattle.swss_types.specs.NameOrder.{name_cmp, names_agree}
use Rattle.swss_types.specs.Vrf.{vrf_cmp, vrf_name_cmp}
use Rattle.swss_types.specs.contracts.vrf.VrfNameOrd.TheImpl.Laws as vrf_name_laws
use Rattle.swss_types.specs.contracts.vrf.VrfOrd.TheImpl.Laws as vrf_laws
use Rattle.table_schema.specs.contracts.key.KeyPartialEq.TheImpl as key_eq
use Rattle.table_schema.specs.contracts.key.KeyPartialOrd.TheImpl as key_partial_ord
use Rattle.table_schema.specs.contracts.key.KeyPartialOrd.TheImpl.Laws as key_laws
use Rattle.table_schema.specs.declared.key.Key.{Key}
use Rattle.table_schema.specs.declared.key.Key.TheVariants as key

-- the place of a key's table
abbrev pub table_place : Key → ℕ
table_place (key.Port port) = 0
table_place (key.Vlan vlan) = 1
table_place (key.Vrf n) = 2
table_place (key.Member vlan port) = 3
table_place (key.Intf on) = 4
table_place (key.Addr on ip len) = 5
table_place (key.Neigh on ip) = 6
table_place (key.Route v prefix) = 7
table_place (key.Other text) = 8

-- keys of one table by their parts, from the first on; those that do not read by their bytes
abbrev pub part_cmp : Key → Key → Ordering
part_cmp (key.Port p) (key.Port q) = nat_cmp p q
part_cmp (key.Vlan v) (key.Vlan w) = nat_cmp v w
part_cmp (key.Vrf m) (key.Vrf n) = vrf_name_cmp m n
part_cmp (key.Member v p) (key.Member w q) = ordering_then (nat_cmp v w) (nat_cmp p q)
part_cmp (key.Intf a) (key.Intf b) = name_cmp a b
part_cmp (key.Addr a i m) (key.Addr b j n) = ordering_then (name_cmp a b) (ordering_then (ip_cmp i j) (nat_cmp m n))
part_cmp (key.Neigh a i) (key.Neigh b j) = ordering_then (name_cmp a b) (ip_cmp i j)
part_cmp (key.Route v p) (key.Route w q) = ordering_then (vrf_cmp v w) (prefix_cmp p q)
part_cmp (key.Other s) (key.Other t) = slice_cmp nat_cmp s t
part_cmp k q = Equal

-- keys by their tables, and then by their parts
abbrev pub key_cmp : Key → Key → Ordering
key_cmp k q = ordering_then (nat_cmp (table_place k) (table_place q)) (part_cmp k q)

-- the two comparisons agree
pub keys_agree : Agrees key_partial_ord.ghosts.partial_cmp key_cmp
keys_agree (key.Port p) (key.Port q) = refl
keys_agree (key.Vlan v) (key.Vlan w) = refl
keys_agree (key.Vrf m) (key.Vrf n) = vrf_name_laws.matches_partial_cmp-law m n
keys_agree (key.Member v p) (key.Member w q) = Some-then (nat_cmp v w) (nat_cmp p q)
keys_agree (key.Intf a) (key.Intf b) = names_agree a b
keys_agree (key.Addr a i m) (key.Addr b j n) =
    (λ d. partial_ordering_then (names_agree a b d) (Some-then (ip_cmp i j) (nat_cmp m n) d)) ∙ Some-then (name_cmp a b) (ordering_then (ip_cmp i j) (nat_cmp m n))
keys_agree (key.Neigh a i) (key.Neigh b j) =
    (λ d. partial_ordering_then (names_agree a b d) (Some (ip_cmp i j))) ∙ Some-then (name_cmp a b) (ip_cmp i j)
keys_agree (key.Route v p) (key.Route w q) =
    (λ d. partial_ordering_then (vrf_laws.matches_partial_cmp-law v w d) (Some (prefix_cmp p q))) ∙ Some-then (vrf_cmp v w) (prefix_cmp p q)
keys_agree (key.Other s) (key.Other t) = refl
keys_agree k q = refl

pub key_total : IsTotalOrder key_cmp
key_total = total key_laws.laws-law keys_agree

pub keys_tie : (k q : Key) → key_eq.ghosts.eq k q ≡ eq_by_cmp key_cmp k q
keys_tie = ties key_laws.laws-law keys_agree

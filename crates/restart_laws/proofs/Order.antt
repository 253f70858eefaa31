-- what a row names comes before it in key order
use Rattle.std.proofs.Common.{◌≡◌, ◌⊎◌, ◌∷◌, ◌∙◌, inl, inr, ℕ, List, [], map, sym, ap, Ordering}
use Rattle.std.specs.Ordering.{ordering_reverse}
use Rattle.std.specs.List.{AllByRecursion}
use Rattle.std.specs.List.Sorted.{IsStrictlySortedBy}
use Rattle.std.specs.declared.cmp.Ordering.TheVariants.{Less, Equal, Greater}
use Rattle.swss_types.specs.declared.interface.IfName.{IfName}
use Rattle.swss_types.specs.declared.interface.IfName.TheVariants as ifname
use Rattle.swss_types.specs.declared.vrf.Vrf.{Vrf}
use Rattle.swss_types.specs.declared.vrf.Vrf.TheVariants as vrf
use Rattle.table_schema.specs.Key.{key_cmp}
use Rattle.table_schema.specs.Names.{base_names, names_of, names_of_intf, names_of_route, router_names}
use Rattle.table_schema.specs.declared.key.Key.{Key}
use Rattle.table_schema.specs.declared.key.Key.TheVariants as key
use Rattle.table_schema.specs.declared.row.Row.{Row}
use Rattle.table_schema.specs.declared.row.Row.TheVariants as row
use Rattle.table_schema.specs.declared.row.RouteRow.TheVariants as route
use Rattle.table_schema.specs.declared.row_hop.RowHop.{RowHop}
use Rattle.table_schema.proofs.Keys.{key_total}
use Rattle.swss_types.specs.declared.address.Prefix.{Prefix}
use Rattle.sai_types.specs.Alike.{IsIn}
use Rattle.sai_types.proofs.Membership.{in-either}

hop_key_below : (v : Vrf) (prefix : Prefix) (p : Key) (hops : List (RowHop × ℕ)) → IsIn p (map (λ (h : RowHop × ℕ). key.Neigh h.0.on h.0.ip) hops) → key_cmp p (key.Route v prefix) ≡ Less
hop_key_below v prefix p [] h = elim h [ ]
hop_key_below v prefix p (x ∷ xs) (inl e) = ap (λ z. key_cmp z (key.Route v prefix)) e
hop_key_below v prefix p (x ∷ xs) (inr h) = hop_key_below v prefix p xs h

target_below : (v : Vrf) (prefix : Prefix) (p : Key) (r : Row) → IsIn p (names_of_route r) → key_cmp p (key.Route v prefix) ≡ Less
target_below v prefix p (row.Route route.Drop) h = elim h [ ]
target_below v prefix p (row.Route (route.Direct on)) (inl e) = ap (λ z. key_cmp z (key.Route v prefix)) e
target_below v prefix p (row.Route (route.Direct on)) (inr h) = elim h [ ]
target_below v prefix p (row.Route (route.Hops hops)) h = hop_key_below v prefix p hops h
target_below v prefix p _ h = elim h [ ]

base_below : (on : IfName) (p : Key) → IsIn p (base_names on) → key_cmp p (key.Intf on) ≡ Less
base_below (ifname.Ethernet port) p (inl e) = ap (λ z. key_cmp z (key.Intf (ifname.Ethernet port))) e
base_below (ifname.Ethernet port) p (inr h) = elim h [ ]
base_below (ifname.Vlan vlan) p (inl e) = ap (λ z. key_cmp z (key.Intf (ifname.Vlan vlan))) e
base_below (ifname.Vlan vlan) p (inr h) = elim h [ ]
base_below (ifname.Loopback n) p h = elim h [ ]

router_below : (on : IfName) (v : Vrf) (p : Key) → IsIn p (router_names v) → key_cmp p (key.Intf on) ≡ Less
router_below on vrf.Default p h = elim h [ ]
router_below on (vrf.Named n) p (inl e) = ap (λ z. key_cmp z (key.Intf on)) e
router_below on (vrf.Named n) p (inr h) = elim h [ ]

intf_below : (on : IfName) (r : Row) (p : Key) → IsIn p (names_of_intf on r) → key_cmp p (key.Intf on) ≡ Less
intf_below on (row.Intf v) p h = by (in-either p (base_names on) (router_names v) h)
  where
    by : IsIn p (base_names on) ⊎ IsIn p (router_names v) → key_cmp p (key.Intf on) ≡ Less
    by (inl i) = base_below on p i
    by (inr i) = router_below on v p i
intf_below on _ p h = base_below on p h

pub names-below : (k p : Key) (r : Row) → IsIn p (names_of k r) → key_cmp p k ≡ Less
names-below (key.Port port) p r h = elim h [ ]
names-below (key.Vlan vlan) p r h = elim h [ ]
names-below (key.Vrf n) p r h = elim h [ ]
names-below (key.Member vlan port) p r (inl e) = ap (λ z. key_cmp z (key.Member vlan port)) e
names-below (key.Member vlan port) p r (inr (inl e)) = ap (λ z. key_cmp z (key.Member vlan port)) e
names-below (key.Member vlan port) p r (inr (inr h)) = elim h [ ]
names-below (key.Intf on) p r h = intf_below on r p h
names-below (key.Addr on ip len) p r (inl e) = ap (λ z. key_cmp z (key.Addr on ip len)) e
names-below (key.Addr on ip len) p r (inr h) = elim h [ ]
names-below (key.Neigh on ip) p r (inl e) = ap (λ z. key_cmp z (key.Neigh on ip)) e
names-below (key.Neigh on ip) p r (inr h) = elim h [ ]
names-below (key.Route vrf.Default prefix) p r h = target_below vrf.Default prefix p r h
names-below (key.Route (vrf.Named n) prefix) p r (inl e) = ap (λ z. key_cmp z (key.Route (vrf.Named n) prefix)) e
names-below (key.Route (vrf.Named n) prefix) p r (inr h) = target_below (vrf.Named n) prefix p r h
names-below (key.Other text) p r h = elim h [ ]

key_less_than_rest : (k q : Key) (ks : List Key) → AllByRecursion (λ y. key_cmp k y ≡ Less) ks → IsIn q ks → key_cmp k q ≡ Less
key_less_than_rest k q [] all h = elim h [ ]
key_less_than_rest k q (x ∷ xs) all (inl e) = ap (key_cmp k) e ∙ all.0
key_less_than_rest k q (x ∷ xs) all (inr h) = key_less_than_rest k q xs all.1 h

pub above : (k q : Key) (ks : List Key) → IsStrictlySortedBy key_cmp (k ∷ ks) → IsIn q ks → key_cmp k q ≡ Less
unfolding IsStrictlySortedBy
above k q ks sorted h = key_less_than_rest k q ks sorted.0 h

reversed : (a b : Ordering) → a ≡ ordering_reverse b → a ≡ Less → b ≡ Less → ⊥
reversed a Less e x y = let apart : Less ≡ Greater = sym x ∙ e in cc
reversed a Equal e x y = cc
reversed a Greater e x y = cc

pub not-both : (k q : Key) → key_cmp k q ≡ Less → key_cmp q k ≡ Less → ⊥
not-both k q a b = reversed (key_cmp k q) (key_cmp q k) (key_total.antisymm k q) a b

pub not-self : (k q : Key) → key_cmp k q ≡ Less → k ≡ q → ⊥
not-self k q a e = not-both k q a (ap (λ z. key_cmp z k) (sym e) ∙ ap (key_cmp k) e ∙ a)

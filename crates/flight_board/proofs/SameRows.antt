-- rows that compare equal are equal
use Rattle.std.proofs.Common.{◌≡◌, ◌∙◌, ◌==◌, ◌&&◌, ℕ, Bool, true, List, refl, ap, ap₂, subst}
use Rattle.std.proofs.lemmas.Bool.{and_from, and_parts, eqb-true, false≢true}
use Rattle.std.proofs.lemmas.Slice.Eq.{slice_eq-Decides}
use Rattle.std.specs.Bool.{Decides}
use Rattle.std.specs.Cmp.{booleans_Decides, nat_eq_equiv}
use Rattle.std.specs.Cmp.Lexicographic.{pointwise}
use Rattle.swss_types.specs.declared.address.Ip.{Ip}
use Rattle.swss_types.specs.declared.interface.IfName.{IfName}
use Rattle.swss_types.specs.declared.interface.IfName.TheVariants as name
use Rattle.swss_types.specs.contracts.interface.IfNamePartialEq.TheImpl as name_eq
use Rattle.swss_types.proofs.SameValues.{mac_exact, tagging_exact}
use Rattle.table_schema.specs.declared.row.PortRow.{PortRow}
use Rattle.table_schema.specs.declared.row.Row.{Row}
use Rattle.table_schema.specs.declared.row.Row.TheVariants as row
use Rattle.table_schema.specs.declared.row.RouteRow.{RouteRow}
use Rattle.table_schema.specs.declared.row.RouteRow.TheVariants as route
use Rattle.table_schema.specs.declared.row_hop.RowHop.{RowHop}
use Rattle.table_schema.specs.contracts.row.PortRowPartialEq.TheImpl as port_eq
use Rattle.table_schema.specs.contracts.row.RouteRowPartialEq.TheImpl as route_eq
use Rattle.table_schema.specs.contracts.row.RowPartialEq.TheImpl as row_eq
use Rattle.table_schema.specs.contracts.row.RowEq.TheImpl.Laws as equal_row
use Rattle.table_schema.specs.contracts.row_hop.RowHopPartialEq.TheImpl as hop_eq
use Rattle.table_schema.specs.contracts.row_hop.RowHopEq.TheImpl.Laws as equal_hop
use Rattle.swss_types.proofs.Routers.{vrf-exact}
use Rattle.sai_types.proofs.Exact.{ip-exact}
use Rattle.sai_types.proofs.Equal.{lanes_exact}

if_name_exact : (a b : IfName) → name_eq.ghosts.eq a b ≡ true → a ≡ b
if_name_exact (name.Ethernet m) (name.Ethernet n) h = ap name.Ethernet (eqb-true m n h)
if_name_exact (name.Vlan m) (name.Vlan n) h = ap name.Vlan (eqb-true m n h)
if_name_exact (name.Loopback m) (name.Loopback n) h = ap name.Loopback (eqb-true m n h)
if_name_exact _ _ h = absurd (false≢true h)

row_hop_eq_exact : (a b : RowHop) → hop_eq.ghosts.eq a b ≡ true → a ≡ b
row_hop_eq_exact a b h =
    let parts = and_parts _ _ h in
    let made : IfName → Ip → RowHop = λ on ip. record { on = on; ip = ip } in
    ap₂ made (if_name_exact a.on b.on parts.0) (ip-exact a.ip b.ip parts.1)

-- hops with their weights, by both
abbrev weighed_eq : RowHop × ℕ → RowHop × ℕ → Bool
weighed_eq a b = hop_eq.ghosts.eq a.0 b.0 && (a.1 == b.1)

weighed_exact : (a b : RowHop × ℕ) → weighed_eq a b ≡ true → a ≡ b
weighed_exact a b h =
    let parts = and_parts _ _ h in
    let made : RowHop → ℕ → RowHop × ℕ = λ hop weight. (hop, weight) in
    ap₂ made (row_hop_eq_exact a.0 b.0 parts.0) (eqb-true a.1 b.1 parts.1)

weighed_decides : (a b : RowHop × ℕ) → Decides (weighed_eq a b) (a ≡ b)
weighed_decides a b = (weighed_exact a b, λ e. subst (λ z. weighed_eq a z ≡ true) e (and_from _ _ (equal_hop.laws-law.refl a.0) (nat_eq_equiv.refl a.1)))

row_hops_exact : (xs ys : List (RowHop × ℕ)) → pointwise weighed_eq xs ys ≡ true → xs ≡ ys
row_hops_exact xs ys h = (slice_eq-Decides weighed_decides xs ys (pointwise weighed_eq xs ys) refl).0 h

route_exact : (a b : RouteRow) → route_eq.ghosts.eq a b ≡ true → a ≡ b
route_exact route.Drop route.Drop h = refl
route_exact (route.Direct x) (route.Direct y) h = ap route.Direct (if_name_exact x y h)
route_exact (route.Hops xs) (route.Hops ys) h = ap route.Hops (row_hops_exact xs ys h)
route_exact _ _ h = absurd (false≢true h)

port_row_exact : (p q : PortRow) → port_eq.ghosts.eq p q ≡ true → p ≡ q
port_row_exact p q h =
    let a = and_parts _ _ h in
    let b = and_parts _ _ a.1 in
    let c = and_parts _ _ b.1 in
    let made : List ℕ → ℕ → ℕ → Bool → PortRow = λ l s m u. record { lanes = l; speed = s; mtu = m; up = u } in
    ap₂ (λ l s. made l s p.mtu p.up) (lanes_exact p.lanes q.lanes a.0) (eqb-true p.speed q.speed b.0) ∙ ap₂ (λ m u. made q.lanes q.speed m u) (eqb-true p.mtu q.mtu c.0) ((booleans_Decides p.up q.up).0 c.1)

pub row_exact : (a b : Row) → row_eq.ghosts.eq a b ≡ true → a ≡ b
row_exact (row.Port p) (row.Port q) h = ap row.Port (port_row_exact p q h)
row_exact row.Vlan row.Vlan h = refl
row_exact row.Vrf row.Vrf h = refl
row_exact (row.Member a) (row.Member b) h = ap row.Member (tagging_exact a b h)
row_exact (row.Intf v) (row.Intf w) h = ap row.Intf (vrf-exact v w h)
row_exact row.Addr row.Addr h = refl
row_exact (row.Neigh a) (row.Neigh b) h = ap row.Neigh (mac_exact a b h)
row_exact (row.Route a) (row.Route b) h = ap row.Route (route_exact a b h)
row_exact _ _ h = absurd (false≢true h)

pub row_itself : (a b : Row) → a ≡ b → row_eq.ghosts.eq a b ≡ true
row_itself a b e = subst (λ z. row_eq.ghosts.eq a z ≡ true) e (equal_row.laws-law.refl a)

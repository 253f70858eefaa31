-- the orders of operations fit the references of each table's things
use Rattle.std.proofs.Common.{◌≡◌, ◌⊎◌, ◌∷◌, ◌++◌, ◌∙◌, inl, inr, ℕ, List, [], map, Option, None, Some, refl, sym, ap, subst}
use Rattle.std.specs.List.{AllByRecursion}
use Rattle.std.specs.List.Sorted.{IsStrictlySortedBy}
use Rattle.std.specs.Cmp.{eq_by_cmp_equiv}
use Rattle.std.specs.declared.cmp.Ordering.TheVariants.{Less, Equal}
use Rattle.std.proofs.lemmas.Option.{same_Some}
use Rattle.swss_types.specs.declared.address.Ip.{Ip}
use Rattle.swss_types.specs.declared.address.Prefix.{Prefix}
use Rattle.swss_types.specs.declared.address.Mac.{Mac}
use Rattle.swss_types.specs.declared.interface.IfName.TheVariants as on
use Rattle.swss_types.specs.declared.vrf.Vrf.{Vrf}
use Rattle.swss_types.specs.declared.vrf.Vrf.TheVariants as vrf
use Rattle.swss_types.proofs.Tied.{tied}
use Rattle.swss_types.specs.declared.interface.IfName.{IfName}
use Rattle.swss_types.specs.declared.vrf.VrfName.{VrfName}
use Rattle.table_schema.specs.Names.{base_names, router_names}
use Rattle.table_schema.specs.Plan.{Ports, IsPlan}
use Rattle.table_schema.specs.declared.key.Key.{Key}
use Rattle.table_schema.specs.declared.key.Key.TheVariants as key
use Rattle.table_schema.specs.declared.row.RouteRow.TheVariants as route
use Rattle.table_schema.specs.declared.row_hop.RowHop.{RowHop}
use Rattle.sai_types.specs.declared.hop.Base.{Base}
use Rattle.sai_types.specs.declared.weight.WHop.{WHop}
use Rattle.sai_types.specs.declared.thing.Thing.{Thing}
use Rattle.sai_types.specs.declared.thing.Thing.TheVariants as thing
use Rattle.sai_types.specs.Alike.{IsIn}
use Rattle.sai_types.specs.Hop.{AreRisingHops, by_hop, put_hop}
use Rattle.switch_model.specs.Placed as row
use Rattle.switch_model.specs.Placed.{Placed as Row, placed_addr_names as names_of_addr, placed_intf_names as names_of_intf, placed_names as names_of, placed_route_names as names_of_route}
use Rattle.switch_model.specs.Things.{base_of, hops_of, lane_of, members_of, whop_of}
use Rattle.sai_types.specs.Names as name
use Rattle.sai_types.specs.Names.{ThingName, Refers, name_of}
use Rattle.sai_types.proofs.Membership.{in-either}
use Rattle.sai_types.proofs.Things.{both_mapped}
use Rattle.sai_types.proofs.Rising.{hop_total}
use Rattle.sai_types.proofs.Weights.{rising-none, rising-put}
use Rattle.row_layout.specs.Rows as owner
use Rattle.row_layout.specs.Rows.{Owner, from, goal_of, own_things}
use Rattle.row_layout.specs.Shared.{shared_things, uses}
use Rattle.row_layout.proofs.Members.{from_in, only, two}
use Rattle.switch_machine.specs.Flights.{IsOwnedBy}
use Rattle.switch_machine.specs.Tables.{AreNamedApart, ComesBefore, Orders, IsNamed, TableLaws}
use Rattle.chip_layout.specs.Answered.{AreSame}
use Rattle.row_layout.specs.Operations.{going, shared_going}
use Rattle.switch_machine.proofs.Running.{one_owner, row_keys, shared_row}
use Rattle.switch_machine.proofs.Tabled.{Leads, address_use, group_use, member_of, own_refers_by, shared_refers_by, tabled}

rising_hops : (plan : Ports) (hops : List (RowHop × ℕ)) (group : List WHop) → hops_of plan hops ≡ Some group → AreRisingHops group
rising_hops plan [] group e = let same : [] ≡ group = cc in subst AreRisingHops same rising-none
rising_hops plan (x ∷ xs) group e =
    let parts = both_mapped put_hop (hops_of plan xs) (whop_of plan x) group e in
    subst AreRisingHops parts.4 (rising-put parts.1 parts.0 (rising_hops plan xs parts.0 parts.2))

-- what uses a group has its hops
pub group_rising : (plan : Ports) (k : Key) (r : Row) (o : Owner) (hops : List WHop) → IsIn o (uses plan k r) → o ≡ owner.Group hops → AreRisingHops hops
group_rising plan (key.Route v prefix) (row.Route (route.Hops rows)) o hops h e =
    let x = group_use o (hops_of plan rows) h in
    let same : owner.Group x.0 ≡ owner.Group hops = sym x.2 ∙ e in
    let that : x.0 ≡ hops = cc in
    subst AreRisingHops that (rising_hops plan rows x.0 x.1)
group_rising plan (key.Route v prefix) (row.Route route.Drop) o hops h e = elim h [ ]
group_rising plan (key.Route v prefix) (row.Route (route.Direct i)) o hops h e = elim h [ ]
group_rising plan (key.Member v p) (row.Member t) o hops h e = absurd (only (λ o. o ≡ owner.Group hops → ⊥) o _ (λ z. cc) (from_in (lane_of plan p) (λ lane. owner.Bridge lane ∷ []) o h).2 e)
group_rising plan (key.Addr i ip len) (row.Addr v) o hops h e = let z = sym (address_use plan i v ip o h) ∙ e in absurd cc
group_rising plan _ _ o hops h e = elim h [ ]

-- ---- a row doesn't name itself

hop_keys : (hops : List (RowHop × ℕ)) (p : Key) (v : Vrf) (prefix : Prefix) → IsIn p (map (λ (h : RowHop × ℕ). key.Neigh h.0.on h.0.ip) hops) → p ≡ key.Route v prefix → ⊥
hop_keys [] p v prefix h e = elim h [ ]
hop_keys (x ∷ xs) p v prefix (inl is) e = let z = sym is ∙ e in cc
hop_keys (x ∷ xs) p v prefix (inr h) e = hop_keys xs p v prefix h e

-- the key of a virtual router
abbrev IsRouterKey : Key → Type 0
IsRouterKey p = (n : VrfName) × (p ≡ key.Vrf n)

router_key : (v : Vrf) (p : Key) → IsIn p (router_names v) → IsRouterKey p
router_key vrf.Default p h = elim h [ ]
router_key (vrf.Named n) p (inl is) = (n, is)
router_key (vrf.Named n) p (inr h) = elim h [ ]

intf_keys : (i : IfName) (p : Key) (r : Row) → IsIn p (names_of_intf i r) → IsIn p (base_names i) ⊎ IsRouterKey p
intf_keys i p (row.Intf v) h = or_router (in-either p (base_names i) (router_names v) h)
  where
    or_router : IsIn p (base_names i) ⊎ IsIn p (router_names v) → IsIn p (base_names i) ⊎ IsRouterKey p
    or_router (inl h) = inl h
    or_router (inr h) = inr (router_key v p h)
intf_keys i p _ h = inl h

addr_keys : (i : IfName) (p : Key) (r : Row) → IsIn p (names_of_addr i r) → (p ≡ key.Intf i) ⊎ IsRouterKey p
addr_keys i p (row.Addr v) h = by h
  where
    by : (p ≡ key.Intf i) ⊎ IsIn p (router_names v) → (p ≡ key.Intf i) ⊎ IsRouterKey p
    by (inl is) = inl is
    by (inr g) = inr (router_key v p g)
addr_keys i p _ h = alone h
  where
    alone : IsIn p (key.Intf i ∷ []) → (p ≡ key.Intf i) ⊎ IsRouterKey p
    alone (inl is) = inl is
    alone (inr g) = elim g [ ]

intf_not : (i : IfName) (p : Key) → IsIn p (base_names i) ⊎ IsRouterKey p → p ≡ key.Intf i → ⊥
intf_not (on.Ethernet q) p (inl (inl is)) e = let z = sym is ∙ e in cc
intf_not (on.Ethernet q) p (inl (inr h)) e = elim h [ ]
intf_not (on.Vlan v) p (inl (inl is)) e = let z = sym is ∙ e in cc
intf_not (on.Vlan v) p (inl (inr h)) e = elim h [ ]
intf_not (on.Loopback l) p (inl h) e = elim h [ ]
intf_not i p (inr x) e = let z = sym x.1 ∙ e in cc

addr_not : (i : IfName) (ip : Ip) (len : ℕ) (p : Key) → (p ≡ key.Intf i) ⊎ IsRouterKey p → p ≡ key.Addr i ip len → ⊥
addr_not i ip len p (inl is) e = let z = sym is ∙ e in cc
addr_not i ip len p (inr x) e = let z = sym x.1 ∙ e in cc

target_not : (v : Vrf) (prefix : Prefix) (p : Key) (r : Row) → IsIn p (names_of_route r) → p ≡ key.Route v prefix → ⊥
target_not v prefix p (row.Route (route.Direct n)) (inl is) e = let z = sym is ∙ e in cc
target_not v prefix p (row.Route (route.Direct n)) (inr h) e = elim h [ ]
target_not v prefix p (row.Route (route.Hops hops)) h e = hop_keys hops p v prefix h e
target_not v prefix p _ h e = elim h [ ]

route_not : (v : Vrf) (prefix : Prefix) (p : Key) (r : Row) → IsIn p (router_names v) ⊎ IsIn p (names_of_route r) → p ≡ key.Route v prefix → ⊥
route_not v prefix p r (inl h) e = let x = router_key v p h in let z = sym x.1 ∙ e in cc
route_not v prefix p r (inr h) e = target_not v prefix p r h e

pub no_self_by : (k p : Key) (r : Row) → IsIn p (names_of k r) → p ≡ k → ⊥
no_self_by (key.Member v q) p r (inl is) e = let z = sym is ∙ e in cc
no_self_by (key.Member v q) p r (inr (inl is)) e = let z = sym is ∙ e in cc
no_self_by (key.Member v q) p r (inr (inr h)) e = elim h [ ]
no_self_by (key.Intf i) p r h e = intf_not i p (intf_keys i p r h) e
no_self_by (key.Addr n ip len) p r h e = addr_not n ip len p (addr_keys n p r h) e
no_self_by (key.Neigh n ip) p r (inl is) e = let z = sym is ∙ e in cc
no_self_by (key.Neigh n ip) p r (inr h) e = elim h [ ]
no_self_by (key.Route v prefix) p r h e = route_not v prefix p r (in-either p (router_names v) (names_of_route r) h) e
no_self_by _ p _ h e = elim h [ ]

-- ---- a row shares one thing at most

from_one : {X Y : Type 0} (x : Option X) (g : X → Y) (o p : Y) → IsIn o (from x (λ z. g z ∷ [])) → IsIn p (from x (λ z. g z ∷ [])) → o ≡ p
from_one None g o p h k = elim h [ ]
from_one (Some x) g o p (inl h) (inl k) = h ∙ sym k
from_one (Some x) g o p (inr h) k = elim h [ ]
from_one (Some x) g o p (inl h) (inr k) = elim k [ ]

one_use_by : (plan : Ports) (k : Key) (r : Row) (o p : Owner) → IsIn o (uses plan k r) → IsIn p (uses plan k r) → o ≡ p
one_use_by plan (key.Member v q) (row.Member t) o p h g = from_one (lane_of plan q) owner.Bridge o p h g
one_use_by plan (key.Addr n ip len) (row.Addr v) o p h g = address_use plan n v ip o h ∙ sym (address_use plan n v ip p g)
one_use_by plan (key.Route v prefix) (row.Route (route.Hops hops)) o p h g =
    let x = group_use o (hops_of plan hops) h in
    let y = group_use p (hops_of plan hops) g in
    x.2 ∙ ap owner.Group (same_Some x.0 y.0 (sym x.1 ∙ y.1)) ∙ sym y.2
one_use_by plan (key.Route v prefix) (row.Route route.Drop) o p h g = elim h [ ]
one_use_by plan (key.Route v prefix) (row.Route (route.Direct n)) o p h g = elim h [ ]
one_use_by plan _ _ o p h g = elim h [ ]

-- ---- names that are apart

things_apart_from : {X : Type 0} (o : Option X) (f : X → List Thing) → ((x : X) → AreNamedApart (f x)) → AreNamedApart (from o f)
things_apart_from None f each = tt
things_apart_from (Some x) f each = each x

one_apart : (t : Thing) → AreNamedApart (t ∷ [])
one_apart t = (λ y h e. elim h [ ], tt)

two_apart : (t u : Thing) → (name_of u ≡ name_of t → ⊥) → AreNamedApart (t ∷ u ∷ [])
two_apart t u other = (λ y h e. only (λ y. name_of y ≡ name_of t → ⊥) y u other h e, one_apart u)

own_apart_by : (plan : Ports) (k : Key) (r : Row) → AreNamedApart (own_things plan k r)
own_apart_by plan (key.Port p) (row.Port r) = things_apart_from (lane_of plan p) _ (λ lane. one_apart (thing.Port (record { lanes = r.lanes; speed = r.speed; mtu = r.mtu; up = r.up })))
own_apart_by plan (key.Vlan v) row.Vlan = one_apart (thing.Vlan v)
own_apart_by plan (key.Vrf label) row.Vrf = one_apart (thing.VirtualRouter label)
own_apart_by plan (key.Member v p) (row.Member t) = things_apart_from (lane_of plan p) _ (λ lane. one_apart (thing.VlanMember v lane t))
own_apart_by plan (key.Intf n) (row.Intf v) = things_apart_from (base_of plan n) _ (λ b. one_apart (thing.Rif b v))
own_apart_by plan (key.Neigh n ip) (row.Neigh mac) = things_apart_from (base_of plan n) _ (λ b. two_apart (thing.Neighbor (record { on = b; ip = ip }) mac) (thing.NextHop (record { on = b; ip = ip })) (λ e. cc))
own_apart_by plan (key.Route v prefix) (row.Route r) = things_apart_from (goal_of plan r) _ (λ g. one_apart (thing.Route v prefix g))
own_apart_by plan _ _ = tt

going_apart_by : (plan : Ports) (k : Key) (r : Row) → AreNamedApart (going plan k r)
going_apart_by plan (key.Neigh n ip) (row.Neigh mac) = things_apart_from (base_of plan n) _ (λ b. two_apart (thing.NextHop (record { on = b; ip = ip })) (thing.Neighbor (record { on = b; ip = ip }) mac) (λ e. cc))
going_apart_by plan (key.Port p) (row.Port r) = own_apart_by plan (key.Port p) (row.Port r)
going_apart_by plan (key.Vlan v) row.Vlan = one_apart (thing.Vlan v)
going_apart_by plan (key.Vrf label) row.Vrf = one_apart (thing.VirtualRouter label)
going_apart_by plan (key.Member v p) (row.Member t) = own_apart_by plan (key.Member v p) (row.Member t)
going_apart_by plan (key.Intf n) (row.Intf v) = own_apart_by plan (key.Intf n) (row.Intf v)
going_apart_by plan (key.Route v prefix) (row.Route r) = own_apart_by plan (key.Route v prefix) (row.Route r)
going_apart_by plan _ _ = tt

all_same : (ts : List Thing) → AreSame ts ts
all_same ts = record { into = λ t h. h; back = λ t h. h }

swapped : (x y t : Thing) → (IsIn t (x ∷ y ∷ []) → IsIn t (y ∷ x ∷ []))
swapped x y t (inl h) = inr (inl h)
swapped x y t (inr (inl h)) = inl h
swapped x y t (inr (inr h)) = elim h [ ]

neigh_same : (o : Option Base) (ip : Ip) (mac : Mac) → AreSame (from o (λ b. thing.NextHop (record { on = b; ip = ip }) ∷ thing.Neighbor (record { on = b; ip = ip }) mac ∷ [])) (from o (λ b. thing.Neighbor (record { on = b; ip = ip }) mac ∷ thing.NextHop (record { on = b; ip = ip }) ∷ []))
neigh_same None ip mac = all_same []
neigh_same (Some b) ip mac =
    let n = thing.Neighbor (record { on = b; ip = ip }) mac in
    let h = thing.NextHop (record { on = b; ip = ip }) in
    record { into = λ t. swapped h n t; back = λ t. swapped n h t }

going_same_by : (plan : Ports) (k : Key) (r : Row) → AreSame (going plan k r) (own_things plan k r)
going_same_by plan (key.Neigh n ip) (row.Neigh mac) = neigh_same (base_of plan n) ip mac
going_same_by plan k r = all_same (own_things plan k r)

-- ---- the order in which a row's things go

none_before : (o : Option Thing) (n : ThingName) (u : Thing) → ComesBefore n u (from o (λ t. t ∷ [])) → ⊥
none_before None n u h = elim h [ ]
none_before (Some t) n u (inl h) = elim h.1 [ ]
none_before (Some t) n u (inr h) = elim h [ ]

one_from : {X : Type 0} (o : Option X) (g : X → Thing) (n : ThingName) (u t : Thing) → ComesBefore n u (from o (λ x. g x ∷ [])) → ⊥
one_from None g n u t h = elim h [ ]
one_from (Some x) g n u t (inl h) = elim h.1 [ ]
one_from (Some x) g n u t (inr h) = elim h [ ]

neigh_before : (o : Option Base) (ip : Ip) (mac : Mac) (u t : Thing) → IsIn u (from o (λ b. thing.Neighbor (record { on = b; ip = ip }) mac ∷ thing.NextHop (record { on = b; ip = ip }) ∷ [])) → IsIn t (from o (λ b. thing.Neighbor (record { on = b; ip = ip }) mac ∷ thing.NextHop (record { on = b; ip = ip }) ∷ [])) → ComesBefore (name_of t) u (from o (λ b. thing.Neighbor (record { on = b; ip = ip }) mac ∷ thing.NextHop (record { on = b; ip = ip }) ∷ [])) → ComesBefore (name_of u) t (from o (λ b. thing.NextHop (record { on = b; ip = ip }) ∷ thing.Neighbor (record { on = b; ip = ip }) mac ∷ []))
neigh_before None ip mac u t h g before = elim h [ ]
neigh_before (Some b) ip mac u t h g (inr (inl x)) = elim x.1 [ ]
neigh_before (Some b) ip mac u t h g (inr (inr x)) = elim x [ ]
neigh_before (Some b) ip mac u t h (inr (inr g)) (inl x) = elim g [ ]
neigh_before (Some b) ip mac u t h (inr (inl g)) (inl x) = let z : name.Neighbor (record { on = b; ip = ip }) ≡ name.NextHop (record { on = b; ip = ip }) = x.0 ∙ ap name_of g in absurd cc
neigh_before (Some b) ip mac u t h (inl g) (inl (e, inl x)) = inl (sym (ap name_of x), inl g)
neigh_before (Some b) ip mac u t h (inl g) (inl (e, inr x)) = elim x [ ]

going_by : (plan : Ports) (k : Key) (r : Row) (u t : Thing) → IsIn u (own_things plan k r) → IsIn t (own_things plan k r) → ComesBefore (name_of t) u (own_things plan k r) → ComesBefore (name_of u) t (going plan k r)
going_by plan (key.Port p) (row.Port r) u t h g before = absurd (one_from (lane_of plan p) (λ lane. thing.Port (record { lanes = r.lanes; speed = r.speed; mtu = r.mtu; up = r.up })) (name_of t) u t before)
going_by plan (key.Vlan v) row.Vlan u t h g (inl x) = elim x.1 [ ]
going_by plan (key.Vlan v) row.Vlan u t h g (inr x) = elim x [ ]
going_by plan (key.Vrf label) row.Vrf u t h g (inl x) = elim x.1 [ ]
going_by plan (key.Vrf label) row.Vrf u t h g (inr x) = elim x [ ]
going_by plan (key.Member v p) (row.Member x) u t h g before = absurd (one_from (lane_of plan p) (λ lane. thing.VlanMember v lane x) (name_of t) u t before)
going_by plan (key.Intf n) (row.Intf v) u t h g before = absurd (one_from (base_of plan n) (λ b. thing.Rif b v) (name_of t) u t before)
going_by plan (key.Neigh n ip) (row.Neigh mac) u t h g before = neigh_before (base_of plan n) ip mac u t h g before
going_by plan (key.Route v prefix) (row.Route r) u t h g before = absurd (one_from (goal_of plan r) (thing.Route v prefix) (name_of t) u t before)
going_by plan _ _ u t h g before = elim h [ ]

-- ---- groups

hop_less_than_rest : (x y : WHop) (xs : List WHop) → AllByRecursion (λ z. by_hop x z ≡ Less) xs → IsIn y xs → by_hop x y ≡ Less
hop_less_than_rest x y [] a h = elim h [ ]
hop_less_than_rest x y (z ∷ zs) a (inl e) = subst (λ w. by_hop x w ≡ Less) (sym e) a.0
hop_less_than_rest x y (z ∷ zs) a (inr h) = hop_less_than_rest x y zs a.1 h

less_equal : Less ≡ Equal → ⊥
less_equal h = cc

members_apart : (all hops : List WHop) → AreRisingHops hops → AreNamedApart (members_of all hops)
unfolding IsStrictlySortedBy
members_apart all [] rising = tt
members_apart all (x ∷ xs) rising = (λ y h e. other y (member_of all xs y h) e, members_apart all xs rising.1)
  where
    other : (y : Thing) → ((hop : WHop) × IsIn hop xs × (y ≡ thing.GroupMember all hop)) → name_of y ≡ name.GroupMember all x → ⊥
    other y (hop, h, is) e =
        let z : name.GroupMember all hop ≡ name.GroupMember all x = sym (ap name_of is) ∙ e in
        let same : hop ≡ x = cc in
        less_equal (sym (subst (λ w. by_hop x w ≡ Less) same (hop_less_than_rest x hop xs rising.0 h)) ∙ tied (by_hop x x) ((eq_by_cmp_equiv hop_total).refl x.hop))

group_apart : (hops : List WHop) (y : Thing) → IsIn y (members_of hops hops) → name_of y ≡ name.Group hops → ⊥
group_apart hops y h e =
    let m = member_of hops hops y h in
    let z : name.GroupMember hops m.0 ≡ name.Group hops = sym (ap name_of m.2) ∙ e in
    cc

apart_end : (ts : List Thing) (g : Thing) → AreNamedApart ts → ((y : Thing) → IsIn y ts → name_of y ≡ name_of g → ⊥) → AreNamedApart (ts ++ (g ∷ []))
apart_end [] g apart other = one_apart g
apart_end (t ∷ ts) g apart other = (λ y h e. by y (in_end ts g y h) e, apart_end ts g apart.1 (λ y h e. other y (inr h) e))
  where
    in_end : (ts : List Thing) (g y : Thing) → IsIn y (ts ++ (g ∷ [])) → IsIn y ts ⊎ (y ≡ g)
    in_end [] g y (inl h) = inr h
    in_end [] g y (inr h) = elim h [ ]
    in_end (t ∷ ts) g y (inl h) = inl (inl h)
    in_end (t ∷ ts) g y (inr h) = wider (in_end ts g y h)
      where
        wider : IsIn y ts ⊎ (y ≡ g) → IsIn y (t ∷ ts) ⊎ (y ≡ g)
        wider (inl h) = inl (inr h)
        wider (inr e) = inr e

    by : (y : Thing) → IsIn y ts ⊎ (y ≡ g) → name_of y ≡ name_of t → ⊥
    by y (inl h) e = apart.0 y h e
    by y (inr is) e = other t (inl refl) (sym e ∙ ap name_of is)

end_in : (ts : List Thing) (g y : Thing) → IsIn y (ts ++ (g ∷ [])) → IsIn y (g ∷ ts)
end_in [] g y h = h
end_in (t ∷ ts) g y (inl h) = inr (inl h)
end_in (t ∷ ts) g y (inr h) = wider (end_in ts g y h)
  where
    wider : IsIn y (g ∷ ts) → IsIn y (g ∷ t ∷ ts)
    wider (inl h) = inl h
    wider (inr h) = inr (inr h)

in_end_at : (ts : List Thing) (g y : Thing) → IsIn y (g ∷ ts) → IsIn y (ts ++ (g ∷ []))
in_end_at [] g y h = h
in_end_at (t ∷ ts) g y (inl h) = inr (in_end_at ts g y (inl h))
in_end_at (t ∷ ts) g y (inr (inl h)) = inl h
in_end_at (t ∷ ts) g y (inr (inr h)) = inr (in_end_at ts g y (inr h))

before_end : (ts : List Thing) (g y : Thing) → IsIn y ts → ComesBefore (name_of y) g (ts ++ (g ∷ []))
before_end [] g y h = elim h [ ]
before_end (t ∷ ts) g y (inl e) = inl (sym (ap name_of e), in_end_at ts g g (inl refl))
before_end (t ∷ ts) g y (inr h) = inr (before_end ts g y h)

shared_apart_by : (plan : Ports) (k : Key) (r : Row) (o p : Owner) → IsIn o (uses plan k r) → o ≡ p → AreNamedApart (shared_things p)
shared_apart_by plan k r o (owner.OfRow q) h e = tt
shared_apart_by plan k r o (owner.Bridge lane) h e = one_apart (thing.BridgePort lane)
shared_apart_by plan k r o (owner.Own v ip) h e = one_apart (thing.Own v ip)
shared_apart_by plan k r o (owner.Group hops) h e = (λ y in_it. group_apart hops y in_it, members_apart hops hops (group_rising plan k r o hops h e))

shared_going_apart_by : (plan : Ports) (k : Key) (r : Row) (o p : Owner) → IsIn o (uses plan k r) → o ≡ p → AreNamedApart (shared_going p)
shared_going_apart_by plan k r o (owner.OfRow q) h e = tt
shared_going_apart_by plan k r o (owner.Bridge lane) h e = one_apart (thing.BridgePort lane)
shared_going_apart_by plan k r o (owner.Own v ip) h e = one_apart (thing.Own v ip)
shared_going_apart_by plan k r o (owner.Group hops) h e = apart_end (members_of hops hops) (thing.Group hops) (members_apart hops hops (group_rising plan k r o hops h e)) (λ y in_it. group_apart hops y in_it)

shared_same_by : (o : Owner) → AreSame (shared_going o) (shared_things o)
shared_same_by (owner.Group hops) = record { into = end_in (members_of hops hops) (thing.Group hops); back = in_end_at (members_of hops hops) (thing.Group hops) }
shared_same_by (owner.OfRow k) = all_same []
shared_same_by (owner.Bridge lane) = all_same (thing.BridgePort lane ∷ [])
shared_same_by (owner.Own v ip) = all_same (thing.Own v ip ∷ [])

-- ---- the order in which what is shared goes

bridge_refers : (lane : ℕ) → Refers (thing.BridgePort lane) (name.BridgePort lane) → ⊥
bridge_refers lane h = only (λ n. n ≡ name.BridgePort lane → ⊥) (name.BridgePort lane) (name.Port lane) (λ e. cc) h refl

own_refers_own : (v : Vrf) (ip : Ip) → Refers (thing.Own v ip) (name.Own v ip) → ⊥
own_refers_own vrf.Default ip h = elim h [ ]
own_refers_own (vrf.Named label) ip h = only (λ n. n ≡ name.Own (vrf.Named label) ip → ⊥) (name.Own (vrf.Named label) ip) (name.VirtualRouter label) (λ e. cc) h refl

group_refers_none : (hops : List WHop) (n : ThingName) → Refers (thing.Group hops) n → ⊥
group_refers_none hops n h = elim h [ ]

member_refers_member : (hops : List WHop) (x y : WHop) → Refers (thing.GroupMember hops x) (name.GroupMember hops y) → ⊥
member_refers_member hops x y h = two (λ n. n ≡ name.GroupMember hops y → ⊥) (name.GroupMember hops y) (name.Group hops) (name.NextHop x.hop) (λ e. cc) (λ e. cc) h refl

shared_before_by : (o : Owner) (u t : Thing) → IsIn u (shared_things o) → IsIn t (shared_things o) → Refers u (name_of t) → ComesBefore (name_of u) t (shared_going o)
shared_before_by (owner.OfRow k) u t h g refers = elim h [ ]
shared_before_by (owner.Bridge lane) u t (inl h) (inl g) refers = absurd (bridge_refers lane (subst (λ z. Refers z (name.BridgePort lane)) h (subst (λ z. Refers u (name_of z)) g refers)))
shared_before_by (owner.Bridge lane) u t (inr h) g refers = elim h [ ]
shared_before_by (owner.Bridge lane) u t (inl h) (inr g) refers = elim g [ ]
shared_before_by (owner.Own v ip) u t (inl h) (inl g) refers = absurd (own_refers_own v ip (subst (λ z. Refers z (name.Own v ip)) h (subst (λ z. Refers u (name_of z)) g refers)))
shared_before_by (owner.Own v ip) u t (inl h) (inr g) refers = elim g [ ]
shared_before_by (owner.Own v ip) u t (inr h) g refers = elim h [ ]
shared_before_by (owner.Group hops) u t (inl h) g refers = absurd (group_refers_none hops (name_of t) (subst (λ z. Refers z (name_of t)) h refers))
shared_before_by (owner.Group hops) u t (inr h) (inl g) refers = subst (λ z. ComesBefore (name_of u) z (members_of hops hops ++ (thing.Group hops ∷ []))) (sym g) (before_end (members_of hops hops) (thing.Group hops) u h)
shared_before_by (owner.Group hops) u t (inr h) (inr g) refers =
    let x = member_of hops hops u h in
    let y = member_of hops hops t g in
    absurd (member_refers_member hops x.0 y.0 (subst (λ z. Refers z (name.GroupMember hops y.0)) x.2 (subst (λ z. Refers u (name_of z)) y.2 refers)))

-- ---- all of it

module _ (plan : Ports) (is : IsPlan plan) where
  abbrev T : TableLaws plan
  T = tabled plan is

  row_named : (k : Key) (r : Row) (n : ThingName) (o : Owner) → IsNamed plan k r n → IsOwnedBy plan n o → (p : Key) × IsIn p (names_of k r) × (o ≡ owner.OfRow p)
  row_named k r n o named of = (named.by, named.named, one_owner plan n o (owner.OfRow named.by) of (T.names_own named.by n named.own))

  own_before_by : (k : Key) (r : Row) (t : Thing) (n : ThingName) → Leads plan is k r t n → IsOwnedBy plan n (owner.OfRow k) → ComesBefore n t (own_things plan k r)
  own_before_by k r t n (inl named) of = let x = row_named k r n (owner.OfRow k) named of in absurd (no_self_by k x.0 r x.1 (row_keys x.0 k (sym x.2)))
  own_before_by k r t n (inr (inl x)) of = x.1
  own_before_by k r t n (inr (inr x)) of = absurd (shared_row x.0 k (T.are_shared k r x.0 x.2) (one_owner plan n x.0 (owner.OfRow k) x.1 of))

  shared_has_by : (k : Key) (r : Row) (t : Thing) (n : ThingName) (o : Owner) → Leads plan is k r t n → IsIn o (uses plan k r) → IsOwnedBy plan n o → (u : Thing) × IsIn u (shared_things o) × (name_of u ≡ n)
  shared_has_by k r t n o (inl named) h of = let x = row_named k r n o named of in absurd (shared_row o x.0 (T.are_shared k r o h) x.2)
  shared_has_by k r t n o (inr (inl x)) h of = absurd (shared_row o k (T.are_shared k r o h) (one_owner plan n o (owner.OfRow k) of x.0))
  shared_has_by k r t n o (inr (inr x)) h of = subst (λ p. (u : Thing) × IsIn u (shared_things p) × (name_of u ≡ n)) (one_owner plan n x.0 o x.1 of) x.3

  shared_in_by : (k : Key) (r : Row) (o : Owner) (u : Thing) (n : ThingName) → IsNamed plan k r n ⊎ (IsOwnedBy plan n o × ComesBefore n u (shared_things o)) → IsIn o (uses plan k r) → IsOwnedBy plan n o → ComesBefore n u (shared_things o)
  shared_in_by k r o u n (inl named) h of = let x = row_named k r n o named of in absurd (shared_row o x.0 (T.are_shared k r o h) x.2)
  shared_in_by k r o u n (inr x) h of = x.1

  pub ordered : Orders plan
  ordered = record {
    no_self = no_self_by;
    one_use = one_use_by plan;
    own_apart = λ k r fit. own_apart_by plan k r;
    own_before = λ k r t n fit h refers of. own_before_by k r t n (own_refers_by plan is k r t fit h n refers) of;
    going_same = going_same_by plan;
    going_apart = λ k r fit. going_apart_by plan k r;
    going_before = λ k r u t fit h g refers. going_by plan k r u t h g (own_before_by k r u (name_of t) (own_refers_by plan is k r u fit h (name_of t) refers) (T.own k r t fit g));
    shared_has = λ k r t n o fit h refers usage of. shared_has_by k r t n o (own_refers_by plan is k r t fit h n refers) usage of;
    shared_apart = λ k r o h. shared_apart_by plan k r o o h refl;
    shared_before = λ k r o u n fit usage h refers of. shared_in_by k r o u n (shared_refers_by plan is k r o u fit usage h n refers) usage of;
    shared_going_same = shared_same_by;
    shared_going_apart = λ k r o h. shared_going_apart_by plan k r o o h refl;
    shared_going_before = shared_before_by;
  }

-- addresses: no row names one, and own addresses are their things alone
use Rattle.std.proofs.Common.{◌≡◌, ◌⊎◌, ◌∷◌, ◌++◌, inl, inr, ℕ, List, [], map, Option, None, Some, refl, sym, subst, arith}
use Rattle.swss_types.specs.declared.address.Ip.{Ip}
use Rattle.swss_types.specs.declared.address.Prefix.{Prefix}
use Rattle.swss_types.specs.declared.interface.IfName.{IfName}
use Rattle.swss_types.specs.declared.interface.IfName.TheVariants as name
use Rattle.swss_types.specs.declared.vrf.Vrf.{Vrf}
use Rattle.swss_types.specs.declared.vrf.Vrf.TheVariants as vrf
use Rattle.table_schema.specs.Names.{base_names, names_of, names_of_intf, names_of_route, route_names, router_names}
use Rattle.table_schema.specs.Plan.{Ports}
use Rattle.table_schema.specs.declared.key.Key.{Key}
use Rattle.table_schema.specs.declared.key.Key.TheVariants as key
use Rattle.table_schema.specs.declared.row.Row.{Row}
use Rattle.table_schema.specs.declared.row.Row.TheVariants as row
use Rattle.table_schema.specs.declared.row.RouteRow.{RouteRow}
use Rattle.table_schema.specs.declared.row.RouteRow.TheVariants as route
use Rattle.table_schema.specs.declared.row_hop.RowHop.{RowHop}
use Rattle.sai_types.specs.declared.hop.Base.{Base}
use Rattle.sai_types.specs.declared.kind.Kind.TheVariants as kind
use Rattle.sai_types.specs.declared.thing.Thing.{Thing}
use Rattle.sai_types.specs.declared.weight.WHop.{WHop}
use Rattle.sai_types.specs.Alike.{IsIn}
use Rattle.sai_types.specs.Names.{thing_kind}
use Rattle.sai_types.specs.Objects.{level}
use Rattle.switch_model.specs.Good.{TypedRows}
use Rattle.switch_model.specs.Levels.{level_of}
use Rattle.switch_model.specs.Placed as placed
use Rattle.switch_model.specs.Placed.{Placed}
use Rattle.switch_model.specs.Things.{address_things, base_of, from_base, from_hops, from_lane, hops_of, lane_of, members_of, route_things, route_to, things_of}
use Rattle.machine_laws.specs.ToSync.{IsLackedAddress}

abbrev pub IsAddress : Key → Type 0
IsAddress (key.Addr on ip len) = Unit {0}
IsAddress _ = ⊥

abbrev AreNoAddresses : List Key → Type 0
AreNoAddresses [] = Unit {0}
AreNoAddresses (k ∷ ks) = (IsAddress k → ⊥) × AreNoAddresses ks

no_address : (ks : List Key) (p : Key) → AreNoAddresses ks → IsIn p ks → IsAddress p → ⊥
no_address [] p none h is = h
no_address (k ∷ ks) p none (inl e) is = none.0 (subst IsAddress e is)
no_address (k ∷ ks) p none (inr h) is = no_address ks p none.1 h is

none_beside : (xs ys : List Key) → AreNoAddresses xs → AreNoAddresses ys → AreNoAddresses (xs ++ ys)
none_beside [] ys a b = b
none_beside (x ∷ xs) ys a b = (a.0, none_beside xs ys a.1 b)

of_base : (on : IfName) → AreNoAddresses (base_names on)
of_base (name.Ethernet port) = ((λ h. h), tt)
of_base (name.Vlan vlan) = ((λ h. h), tt)
of_base (name.Loopback number) = tt

of_router : (v : Vrf) → AreNoAddresses (router_names v)
of_router vrf.Default = tt
of_router (vrf.Named n) = ((λ h. h), tt)

of_intf : (on : IfName) (r : Row) → AreNoAddresses (names_of_intf on r)
of_intf on (row.Intf v) = none_beside (base_names on) (router_names v) (of_base on) (of_router v)
of_intf on _ = of_base on

of_hops : (hops : List (RowHop × ℕ)) → AreNoAddresses (map (λ (h : RowHop × ℕ). key.Neigh h.0.on h.0.ip) hops)
of_hops [] = tt
of_hops (h ∷ hs) = ((λ z. z), of_hops hs)

of_target : (t : RouteRow) → AreNoAddresses (route_names t)
of_target route.Drop = tt
of_target (route.Direct on) = ((λ h. h), tt)
of_target (route.Hops hops) = of_hops hops

of_route : (r : Row) → AreNoAddresses (names_of_route r)
of_route (row.Route target) = of_target target
of_route _ = tt

of_row : (k : Key) (r : Row) → AreNoAddresses (names_of k r)
of_row (key.Port port) r = tt
of_row (key.Vlan vlan) r = tt
of_row (key.Vrf n) r = tt
of_row (key.Member vlan port) r = ((λ h. h), ((λ h. h), tt))
of_row (key.Intf on) r = of_intf on r
of_row (key.Addr on ip len) r = ((λ h. h), tt)
of_row (key.Neigh on ip) r = ((λ h. h), tt)
of_row (key.Route v prefix) r = none_beside (router_names v) (names_of_route r) (of_router v) (of_route r)
of_row (key.Other text) r = tt

-- no row names an address
pub address_unnamed : (k p : Key) (r : Row) → IsIn p (names_of k r) → IsAddress p → ⊥
address_unnamed k p r h is = no_address (names_of k r) p (of_row k r) h is

-- an address row that the good rows lack is an address's
pub lacked_address : (good : TypedRows) (k : Key) → IsLackedAddress good k → IsAddress k
lacked_address good (key.Addr on ip len) h = tt
lacked_address good _ h = h

pub lacked_none : (good : TypedRows) (k : Key) → IsLackedAddress good k → good k ≡ None
lacked_none good (key.Addr on ip len) h = h
lacked_none good _ h = elim h [ ]

pub address_level : (k : Key) → IsAddress k → level_of k ≡ 2
address_level (key.Addr on ip len) h = refl
address_level _ h = elim h [ ]

-- ---- things

abbrev IsOwn : Thing → Type 0
IsOwn t = level (thing_kind t) ≡ level kind.OwnAddress

abbrev AreOwn : List Thing → Type 0
AreOwn [] = Unit {0}
AreOwn (t ∷ ts) = IsOwn t × AreOwn ts

abbrev AreNoneOwn : List Thing → Type 0
AreNoneOwn [] = Unit {0}
AreNoneOwn (t ∷ ts) = (IsOwn t → ⊥) × AreNoneOwn ts

is_own : (ts : List Thing) (t : Thing) → AreOwn ts → IsIn t ts → IsOwn t
is_own [] t all h = elim h [ ]
is_own (u ∷ us) t all (inl e) = subst IsOwn (sym e) all.0
is_own (u ∷ us) t all (inr h) = is_own us t all.1 h

none_own : (ts : List Thing) (t : Thing) → AreNoneOwn ts → IsIn t ts → IsOwn t → ⊥
none_own [] t none h is = h
none_own (u ∷ us) t none (inl e) is = none.0 (subst IsOwn e is)
none_own (u ∷ us) t none (inr h) is = none_own us t none.1 h is

of_lane : (P : List Thing → Type 0) (f : ℕ → List Thing) (o : Option ℕ) → P [] → ((lane : ℕ) → P (f lane)) → P (from_lane f o)
of_lane P f None none some = none
of_lane P f (Some lane) none some = some lane

of_bases : (P : List Thing → Type 0) (f : Base → List Thing) (o : Option Base) → P [] → ((b : Base) → P (f b)) → P (from_base f o)
of_bases P f None none some = none
of_bases P f (Some b) none some = some b

own_things : (plan : Ports) (on : IfName) (v : Vrf) (ip : Ip) → AreOwn (address_things plan on v ip)
own_things plan (name.Ethernet port) v ip = of_lane AreOwn _ (lane_of plan port) tt (λ lane. (refl, tt))
own_things plan (name.Vlan vlan) v ip = (refl, tt)
own_things plan (name.Loopback number) v ip = (refl, tt)

own_row : (plan : Ports) (on : IfName) (ip : Ip) (len : ℕ) (x : Placed) → AreOwn (things_of plan (key.Addr on ip len) x)
own_row plan on ip len (placed.Addr v) = own_things plan on v ip
own_row plan on ip len _ = tt

pub address_own : (plan : Ports) (k : Key) (x : Placed) (t : Thing) → IsAddress k → IsIn t (things_of plan k x) → level (thing_kind t) ≡ level kind.OwnAddress
address_own plan (key.Addr on ip len) x t is h = is_own (things_of plan (key.Addr on ip len) x) t (own_row plan on ip len x) h
address_own plan _ x t is h = elim is [ ]

members_other : (group hops : List WHop) → AreNoneOwn (members_of group hops)
members_other group [] = tt
members_other group (hop ∷ hops) = ((λ e. absurd (omega (arith, e))), members_other group hops)

target_other : (v : Vrf) (prefix : Prefix) (hops : List WHop) → AreNoneOwn (route_to v prefix hops)
target_other v prefix [] = tt
target_other v prefix (hop ∷ []) = ((λ e. absurd (omega (arith, e))), tt)
target_other v prefix (hop ∷ next ∷ hops) = ((λ e. absurd (omega (arith, e))), ((λ e. absurd (omega (arith, e))), members_other (hop ∷ next ∷ hops) (hop ∷ next ∷ hops)))

hops_other : (v : Vrf) (prefix : Prefix) (o : Option (List WHop)) → AreNoneOwn (from_hops v prefix o)
hops_other v prefix None = tt
hops_other v prefix (Some hops) = target_other v prefix hops

route_other : (plan : Ports) (v : Vrf) (prefix : Prefix) (r : RouteRow) → AreNoneOwn (route_things plan v prefix r)
route_other plan v prefix route.Drop = ((λ e. absurd (omega (arith, e))), tt)
route_other plan v prefix (route.Direct on) = of_bases AreNoneOwn _ (base_of plan on) tt (λ b. ((λ e. absurd (omega (arith, e))), tt))
route_other plan v prefix (route.Hops hops) = hops_other v prefix (hops_of plan hops)

row_other : (plan : Ports) (k : Key) (x : Placed) → (IsAddress k → ⊥) → AreNoneOwn (things_of plan k x)
row_other plan (key.Port port) (placed.Port r) apart = of_lane AreNoneOwn _ (lane_of plan port) tt (λ lane. ((λ e. absurd (omega (arith, e))), tt))
row_other plan (key.Vlan vlan) placed.Vlan apart = ((λ e. absurd (omega (arith, e))), tt)
row_other plan (key.Vrf n) placed.Vrf apart = ((λ e. absurd (omega (arith, e))), tt)
row_other plan (key.Member vlan port) (placed.Member tagging) apart = of_lane AreNoneOwn _ (lane_of plan port) tt (λ lane. ((λ e. absurd (omega (arith, e))), ((λ e. absurd (omega (arith, e))), tt)))
row_other plan (key.Intf on) (placed.Intf v) apart = of_bases AreNoneOwn _ (base_of plan on) tt (λ b. ((λ e. absurd (omega (arith, e))), tt))
row_other plan (key.Addr on ip len) x apart = absurd (apart tt)
row_other plan (key.Neigh on ip) (placed.Neigh mac) apart = of_bases AreNoneOwn _ (base_of plan on) tt (λ b. ((λ e. absurd (omega (arith, e))), ((λ e. absurd (omega (arith, e))), tt)))
row_other plan (key.Route v prefix) (placed.Route r) apart = route_other plan v prefix r
row_other plan _ _ apart = tt

pub is_address : (k : Key) → (IsAddress k) ⊎ (IsAddress k → ⊥)
is_address (key.Addr on ip len) = inl tt
is_address _ = inr (λ h. h)

-- a row with an own address among its things is an address's
pub own_address : (plan : Ports) (k : Key) (x : Placed) (t : Thing) → IsIn t (things_of plan k x) → level (thing_kind t) ≡ level kind.OwnAddress → IsAddress k
own_address plan k x t h is = by (is_address k)
  where
    by : (IsAddress k) ⊎ (IsAddress k → ⊥) → IsAddress k
    by (inl there) = there
    by (inr apart) = absurd (none_own (things_of plan k x) t (row_other plan k x apart) h is)

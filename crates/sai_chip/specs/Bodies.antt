-- The objects of a chip by their entries: those with identifiers, own addresses, neighbours and routes. Own.
use Rattle.std.specs.Prelude.{◌≡◌, Bool, true, false, ◌&&◌, List, ◌++◌, map, Option, Some, None}
use Rattle.std.specs.BTreeMap.{is_at}
use Rattle.std.specs.Ordering.{ordering_then}
use Rattle.std.specs.Option.{option_cmp}
use Rattle.std.specs.declared.cmp.Ordering.{Ordering}
use Rattle.std.specs.List.{AllByRecursion}
use Rattle.std.specs.Map.{lookup, set_value}
use Rattle.swss_types.specs.AddressOrder.{ip_cmp, prefix_cmp}
use Rattle.swss_types.specs.declared.address.Ip.{Ip}
use Rattle.swss_types.specs.declared.address.Mac.{Mac}
use Rattle.swss_types.specs.declared.address.Prefix.{Prefix}
use Rattle.swss_types.specs.declared.vrf.Packet.{Packet}
use Rattle.swss_types.specs.declared.vrf.Vrf.{Vrf}
use Rattle.swss_types.specs.Vrf.{same_vrf}
use Rattle.sai_types.specs.declared.ids.Rid.{Rid}
use Rattle.sai_types.specs.declared.body.Attr.{Attr}
use Rattle.sai_types.specs.declared.body.Attr.TheVariants as attr
use Rattle.sai_types.specs.declared.body.Body.{Body}
use Rattle.sai_types.specs.declared.body.Body.TheVariants as body
use Rattle.sai_types.specs.declared.body.Entry.{Entry}
use Rattle.sai_types.specs.declared.body.Entry.TheVariants as entry
use Rattle.sai_types.specs.declared.body.To.{To}
use Rattle.sai_types.specs.declared.thing.Goal.{Goal}
use Rattle.sai_types.specs.After.{has_id, with_attr}
use Rattle.sai_types.specs.Forwarding.{best_route}
use Rattle.sai_types.specs.Made.{AreSorted}
use Rattle.sai_types.specs.Named.{router_at, thing_of, those}
use Rattle.sai_types.specs.Objects.{Objects, body_at}
use Rattle.sai_types.specs.Refusal.{same_ip}
use Rattle.chip_names.specs.Naming.{numbered, rid_cmp}
use Rattle.sai_chip.specs.Tally.{neighbor_cmp}

-- the keys of own addresses and of routes: a virtual router, unless it is the default one, and what is in it
abbrev pub OwnKey : Type 0
OwnKey = Option Rid × Ip

abbrev pub RouteKey : Type 0
RouteKey = Option Rid × Prefix

-- their orders: the default router comes first
abbrev pub own_cmp : OwnKey → OwnKey → Ordering
own_cmp a b = ordering_then (option_cmp rid_cmp a.0 b.0) (ip_cmp a.1 b.1)

abbrev pub route_cmp : RouteKey → RouteKey → Ordering
route_cmp a b = ordering_then (option_cmp rid_cmp a.0 b.0) (prefix_cmp a.1 b.1)

abbrev pub owned : List OwnKey → Objects
owned owns = map (λ k. (entry.Own k.0 k.1, body.OwnAddress k.0 k.1)) owns

abbrev pub reached : List ((Rid × Ip) × Mac) → Objects
reached neighbors = map (λ e. (entry.Neigh e.0.0 e.0.1, body.Neighbor e.0.0 e.0.1 e.1)) neighbors

abbrev pub routed : List (RouteKey × To Rid) → Objects
routed routes = map (λ e. (entry.Route e.0.0 e.0.1, body.Route e.0.0 e.0.1 e.1)) routes

-- all of them, in the order of entries
abbrev pub objects_in : List (Rid × Body Rid) → List OwnKey → List ((Rid × Ip) × Mac) → List (RouteKey × To Rid) → Objects
objects_in ids owns neighbors routes = numbered ids ++ (owned owns ++ (reached neighbors ++ routed routes))

-- bodies of kinds that have identifiers
abbrev pub HaveIdKinds : List (Rid × Body Rid) → Type 0
HaveIdKinds ids = AllByRecursion (λ e. has_id e.1 ≡ true) ids

-- the entries rise, and bodies with identifiers are of kinds that have them
pub record IsWellHeld (ids : List (Rid × Body Rid)) (owns : List OwnKey) (neighbors : List ((Rid × Ip) × Mac)) (routes : List (RouteKey × To Rid)) : Type 0 where
  pub sorted : AreSorted (objects_in ids owns neighbors routes)
  pub with_ids : HaveIdKinds ids

-- the body of the object with this key, and none for an identifier
abbrev pub keyed_at : Objects → Entry Rid → Option (Body Rid)
keyed_at objects (entry.Oid r) = None
keyed_at objects e = body_at objects e

-- where a route points
abbrev pub target_of : Option (Body Rid) → Option (To Rid)
target_of (Some (body.Route vr prefix to)) = Some to
target_of _ = None

-- entries with a new value of one that is there
abbrev pub value_found : {K X : Type 0} → (K → Bool) → List (K × X) → X → Option X → List (K × X)
value_found test entries w None = entries
value_found test entries w (Some v) = set_value test entries w

abbrev pub value_set : {K X : Type 0} → (K → Bool) → List (K × X) → X → List (K × X)
value_set test entries w = value_found test entries w (lookup test entries)

-- bodies, neighbours and routes with a new value of an attribute of one, where that is there and has the attribute
abbrev pub id_found : List (Rid × Body Rid) → Rid → Attr Rid → Option (Body Rid) → List (Rid × Body Rid)
id_found ids r a None = ids
id_found ids r a (Some b) = set_value (is_at (rid_cmp r)) ids (with_attr b a)

abbrev pub ids_set : List (Rid × Body Rid) → Rid → Attr Rid → List (Rid × Body Rid)
ids_set ids r a = id_found ids r a (lookup (is_at (rid_cmp r)) ids)

abbrev pub macs_set : List ((Rid × Ip) × Mac) → Rid × Ip → Attr Rid → List ((Rid × Ip) × Mac)
macs_set neighbors k (attr.Mac mac) = value_set (is_at (neighbor_cmp k)) neighbors mac
macs_set neighbors k a = neighbors

abbrev pub targets_set : List (RouteKey × To Rid) → RouteKey → Attr Rid → List (RouteKey × To Rid)
targets_set routes k (attr.To to) = value_set (is_at (route_cmp k)) routes to
targets_set routes k a = routes

-- whether there is a router, and it is this one
abbrev pub is_router : Vrf → Option Vrf → Bool
is_router v None = false
is_router v (Some w) = same_vrf w v

-- whether an own address is that of a packet, in its router
abbrev pub is_own_key : Objects → Packet → OwnKey → Bool
is_own_key objects a k = same_ip k.1 a.to && is_router a.vrf (router_at objects k.0)

-- the best of these routes, among objects
abbrev pub best_of : Objects → List (RouteKey × To Rid) → Packet → Option (Prefix × Goal)
best_of objects routes a = best_route (those (map (thing_of objects) (routed routes))) a

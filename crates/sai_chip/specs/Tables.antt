-- The keys of routes in tables of prefixes, one for each virtual router, and the best of them for a packet. Own.
use Rattle.std.specs.Prelude.{◌&&◌, nat_lt, List, [], ◌∷◌, ◌++◌, map, Option, Some, None, if◌then◌else◌}
use Rattle.swss_types.specs.Address.{covers}
use Rattle.swss_types.specs.declared.address.Prefix.{Prefix}
use Rattle.swss_types.specs.declared.vrf.Packet.{Packet}
use Rattle.sai_types.specs.declared.ids.Rid.{Rid}
use Rattle.sai_types.specs.Named.{router_at}
use Rattle.sai_types.specs.Objects.{Objects}
use Rattle.sai_chip.specs.Bodies.{RouteKey, is_router}

-- prefixes in a router, as keys of routes
abbrev pub prefix_keys : Option Rid → List Prefix → List RouteKey
prefix_keys vr ps = map (λ p. (vr, p)) ps

-- the keys of routes that these tables have, router by router
abbrev pub keyed : List (Option Rid × List Prefix) → List RouteKey
keyed [] = []
keyed (t ∷ ts) = prefix_keys t.0 t.1 ++ keyed ts

-- of two keys the one with the longer prefix, and of equals the first
abbrev pub longer_key : Option RouteKey → Option RouteKey → Option RouteKey
longer_key None b = b
longer_key (Some a) None = Some a
longer_key (Some a) (Some b) = if nat_lt a.1.len b.1.len then Some b else Some a

-- a key, where it is in the packet's router and covers its address
abbrev pub covering : Objects → Packet → RouteKey → Option RouteKey
covering objects a k = if is_router a.vrf (router_at objects k.0) && covers k.1 a.to then Some k else None

-- the key of the packet's router with the longest prefix that covers its address
abbrev pub best_key : Objects → Packet → List RouteKey → Option RouteKey
best_key objects a [] = None
best_key objects a (k ∷ ks) = longer_key (covering objects a k) (best_key objects a ks)

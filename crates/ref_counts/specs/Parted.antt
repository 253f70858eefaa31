-- What is known of all names, in five parts: the rows of keys that come before the neighbours, the neighbours, the routes, what comes behind the routes, and the groups. Own.
use Rattle.std.specs.Prelude.{◌≡◌, ℕ, ◌<◌, List, ◌++◌}
use Rattle.std.specs.Borrow.{Bor}
use Rattle.std.specs.List.{AllByRecursion}
use Rattle.std.specs.Map.{keys_of}
use Rattle.std.specs.Ordering.{ordering_then}
use Rattle.std.specs.declared.cmp.Ordering.{Ordering}
use Rattle.late_maps.specs.Segments.{renamed}
use Rattle.sai_types.specs.declared.weight.WHop.{WHop}
use Rattle.swss_types.specs.AddressOrder.{ip_cmp}
use Rattle.swss_types.specs.NameOrder.{name_cmp}
use Rattle.swss_types.specs.declared.address.Ip.{Ip}
use Rattle.swss_types.specs.declared.interface.IfName.{IfName}
use Rattle.table_schema.specs.Key.{table_place}
use Rattle.table_schema.specs.declared.key.Key.{Key}
use Rattle.table_schema.specs.declared.key.Key.TheVariants as key
use Rattle.ref_counts.specs.declared.destination.Destination.{Destination}
use Rattle.ref_counts.specs.declared.name.Name.{Name}
use Rattle.ref_counts.specs.declared.name.Name.TheVariants as name
use Rattle.ref_counts.specs.declared.part.Part.{Part}
use Rattle.ref_counts.specs.declared.part.Part.TheVariants as part
use Rattle.ref_counts.specs.Registered.{Registered}
use Rattle.ref_counts.specs.Registry.{Names}

-- the places of the tables of neighbours and routes among the tables
abbrev pub place_of_neighbors : ℕ
place_of_neighbors = 6

abbrev pub place_of_routes : ℕ
place_of_routes = 7

-- groups come last, behind all tables and all other names
abbrev pub place_of_groups : ℕ
place_of_groups = 10

-- the place of a name's table, and behind all tables what is no row
abbrev pub table_place_of_name : Name → ℕ
table_place_of_name (name.Row k) = table_place k
table_place_of_name (name.Group hops) = place_of_groups
table_place_of_name _ = 9

-- a neighbour is an address on an interface
abbrev pub Neighbor : Type 0
Neighbor = IfName × Ip

abbrev pub neighbor_name : Neighbor → Name
neighbor_name n = name.Row (key.Neigh n.0 n.1)

-- by interface, and then by address
abbrev pub neighbor_key_cmp : Neighbor → Neighbor → Ordering
neighbor_key_cmp m n = ordering_then (name_cmp m.0 n.0) (ip_cmp m.1 n.1)

abbrev pub route_key : Destination → Key
route_key d = key.Route d.vrf d.prefix

abbrev pub route_name : Destination → Name
route_name d = name.Row (route_key d)

-- keys before those of the neighbours
abbrev pub IsAmongRows : Key → Type 0
IsAmongRows k = table_place k < place_of_neighbors

-- names behind the routes and before the groups
abbrev pub IsAmongOthers : Name → Type 0
IsAmongOthers n = (place_of_routes < table_place_of_name n) × (table_place_of_name n < place_of_groups)

-- the part of a name, and what stands there for it
abbrev pub IsPart : Part Key Name (List WHop) → Name → Type 0
IsPart (part.Row k) n = (n ≡ name.Row k) × IsAmongRows k
IsPart (part.Neighbor m) n = n ≡ neighbor_name m
IsPart (part.Route d) n = n ≡ route_name d
IsPart (part.Other m) n = (n ≡ m) × IsAmongOthers m
IsPart (part.Group hops) n = n ≡ name.Group hops

-- the same by references
abbrev pub IsPartOf : Part (Bor Key) (Bor Name) (Bor (List WHop)) → Name → Type 0
IsPartOf (part.Row k) = IsPart (part.Row k.now)
IsPartOf (part.Neighbor m) = IsPart (part.Neighbor m)
IsPartOf (part.Route d) = IsPart (part.Route d)
IsPartOf (part.Other m) = IsPart (part.Other m.now)
IsPartOf (part.Group hops) = IsPart (part.Group hops.now)

-- the five parts, one after another
abbrev pub all_names : List (Key × Registered) → List (Neighbor × Registered) → List (Destination × Registered) → Names → List (List WHop × Registered) → Names
all_names rows neighbors routes others groups = renamed name.Row rows ++ (renamed neighbor_name neighbors ++ (renamed route_name routes ++ (others ++ renamed name.Group groups)))

-- no key stands in another's part
pub record AreParted (rows : List (Key × Registered)) (others : Names) : Type 0 where
  pub of_rows : AllByRecursion IsAmongRows (keys_of rows)
  pub of_others : AllByRecursion IsAmongOthers (keys_of others)

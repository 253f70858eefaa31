-- What a row names: the keys of the rows that it stands on (own).
use Rattle.std.specs.Prelude.{List, [], ◌∷◌, ◌++◌, map}
use Rattle.swss_types.specs.declared.interface.IfName.{IfName}
use Rattle.swss_types.specs.declared.interface.IfName.TheVariants as name
use Rattle.swss_types.specs.declared.vrf.Vrf.{Vrf}
use Rattle.swss_types.specs.declared.vrf.Vrf.TheVariants as vrf
use Rattle.table_schema.specs.declared.key.Key.{Key}
use Rattle.table_schema.specs.declared.key.Key.TheVariants as key
use Rattle.table_schema.specs.declared.row.Row.{Row}
use Rattle.table_schema.specs.declared.row.Row.TheVariants as row
use Rattle.table_schema.specs.declared.row.RouteRow.{RouteRow}
use Rattle.table_schema.specs.declared.row.RouteRow.TheVariants as route

-- the port or VLAN of an interface
abbrev pub base_names : IfName → List Key
base_names (name.Ethernet port) = key.Port port ∷ []
base_names (name.Vlan vlan) = key.Vlan vlan ∷ []
base_names (name.Loopback number) = []

-- what is in a virtual router stands on the router's row, unless it is the default one
abbrev pub router_names : Vrf → List Key
router_names vrf.Default = []
router_names (vrf.Named n) = key.Vrf n ∷ []

-- an interface stands on its port or VLAN, and then on the row of its virtual router
abbrev pub intf_names : IfName → Vrf → List Key
intf_names on v = base_names on ++ router_names v

abbrev pub names_of_intf : IfName → Row → List Key
names_of_intf on (row.Intf v) = intf_names on v
names_of_intf on _ = base_names on

-- a route stands on its interface, or on the neighbours that are its hops
abbrev pub route_names : RouteRow → List Key
route_names route.Drop = []
route_names (route.Direct on) = key.Intf on ∷ []
route_names (route.Hops hops) = map (λ h. key.Neigh h.0.on h.0.ip) hops

abbrev pub names_of_route : Row → List Key
names_of_route (row.Route target) = route_names target
names_of_route _ = []

-- the names of a row of this key, in order
abbrev pub names_of : Key → Row → List Key
names_of (key.Port port) r = []
names_of (key.Vlan vlan) r = []
names_of (key.Vrf n) r = []
names_of (key.Member vlan port) r = key.Vlan vlan ∷ key.Port port ∷ []
names_of (key.Intf on) r = names_of_intf on r
names_of (key.Addr on ip len) r = key.Intf on ∷ []
names_of (key.Neigh on ip) r = key.Intf on ∷ []
names_of (key.Route v prefix) r = router_names v ++ names_of_route r
names_of (key.Other text) r = []

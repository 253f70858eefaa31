-- Rows in their places: each knows its virtual router. Own: an address row does not tell its router, which is that of the interface row that it names.
use Rattle.std.specs.Prelude.{List, [], ◌∷◌, ◌++◌, Option, Some, option_map}
use Rattle.swss_types.specs.declared.address.Mac.{Mac}
use Rattle.swss_types.specs.declared.interface.IfName.{IfName}
use Rattle.swss_types.specs.declared.tagging.Tagging.{Tagging}
use Rattle.swss_types.specs.declared.vrf.Vrf.{Vrf as Router}
use Rattle.swss_types.specs.declared.vrf.Vrf.TheVariants as vrf
use Rattle.table_schema.specs.Names.{base_names, intf_names, route_names, router_names}
use Rattle.table_schema.specs.declared.key.Key.{Key}
use Rattle.table_schema.specs.declared.key.Key.TheVariants as key
use Rattle.table_schema.specs.declared.row.PortRow.{PortRow}
use Rattle.table_schema.specs.declared.row.RouteRow.{RouteRow}
use Rattle.table_schema.specs.declared.row.Row.{Row}
use Rattle.table_schema.specs.declared.row.Row.TheVariants as row
use Rattle.switch_model.specs.Good.{TypedRows}

-- a row in its place: an address row has the router of its interface
pub data Placed : Type 0 where
  Port : PortRow → Placed
  Vlan : Placed
  Vrf : Placed
  Member : Tagging → Placed
  Intf : Router → Placed
  Addr : Router → Placed
  Neigh : Mac → Placed
  Route : RouteRow → Placed

abbrev pub place : Router → Row → Placed
place v (row.Port r) = Port r
place v row.Vlan = Vlan
place v row.Vrf = Vrf
place v (row.Member tagging) = Member tagging
place v (row.Intf w) = Intf w
place v row.Addr = Addr v
place v (row.Neigh mac) = Neigh mac
place v (row.Route r) = Route r

abbrev pub bare : Placed → Row
bare (Port r) = row.Port r
bare Vlan = row.Vlan
bare Vrf = row.Vrf
bare (Member tagging) = row.Member tagging
bare (Intf w) = row.Intf w
bare (Addr v) = row.Addr
bare (Neigh mac) = row.Neigh mac
bare (Route r) = row.Route r

-- rows in their places, by key
abbrev pub PlacedRows : Type 0
PlacedRows = Key → Option Placed

abbrev pub bare_rows : PlacedRows → TypedRows
bare_rows rows k = option_map bare (rows k)

-- the router of an interface's row, and the default one where there is none
abbrev pub router_of_row : Option Row → Router
router_of_row (Some (row.Intf v)) = v
router_of_row _ = vrf.Default

-- the router of an address row is that of its interface's row
abbrev pub router_in : TypedRows → Key → Router
router_in rows (key.Addr on ip len) = router_of_row (rows (key.Intf on))
router_in rows _ = vrf.Default

-- the rows in their places
abbrev pub placed_rows : TypedRows → PlacedRows
placed_rows rows k = option_map (place (router_in rows k)) (rows k)

abbrev pub placed_intf_names : IfName → Placed → List Key
placed_intf_names on (Intf v) = intf_names on v
placed_intf_names on _ = base_names on

-- an address stands on its interface, and with it on the row of its router
abbrev pub placed_addr_names : IfName → Placed → List Key
placed_addr_names on (Addr v) = key.Intf on ∷ router_names v
placed_addr_names on _ = key.Intf on ∷ []

abbrev pub placed_route_names : Placed → List Key
placed_route_names (Route target) = route_names target
placed_route_names _ = []

-- what a row in its place stands on: what its row names, and of an address its router too
abbrev pub placed_names : Key → Placed → List Key
placed_names (key.Port port) r = []
placed_names (key.Vlan vlan) r = []
placed_names (key.Vrf name) r = []
placed_names (key.Member vlan port) r = key.Vlan vlan ∷ key.Port port ∷ []
placed_names (key.Intf on) r = placed_intf_names on r
placed_names (key.Addr on ip len) r = placed_addr_names on r
placed_names (key.Neigh on ip) r = key.Intf on ∷ []
placed_names (key.Route v prefix) r = router_names v ++ placed_route_names r
placed_names (key.Other text) r = []

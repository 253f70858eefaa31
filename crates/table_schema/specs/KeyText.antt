-- The texts of keys (SWSS schema): a table's name, `:` and the parts of the key.
use Rattle.std.specs.Prelude.{ℕ, List, [], ◌++◌, Option, Some, None, option_map, codes, bytes_eq, if◌then◌else◌}
use Rattle.swss_types.specs.Interface.{if_name_of, if_name_text}
use Rattle.swss_types.specs.Ip.{ip_of, ip_text}
use Rattle.swss_types.specs.Prefix.{interface_address_of, interface_address_text, prefix_of, prefix_text}
use Rattle.swss_types.specs.declared.address.Ip.{Ip}
use Rattle.swss_types.specs.declared.interface.IfName.{IfName}
use Rattle.swss_types.specs.declared.interface.IfName.TheVariants as name
use Rattle.swss_types.specs.VrfNames.{vrf_name_of, vrf_name_text}
use Rattle.swss_types.specs.declared.vrf.Vrf.{Vrf}
use Rattle.swss_types.specs.declared.vrf.Vrf.TheVariants as vrf
use Rattle.swss_types.specs.declared.vrf.VrfName.{VrfName}
use Rattle.table_schema.specs.Split.{split_once}
use Rattle.table_schema.specs.declared.key.Key.{Key}
use Rattle.table_schema.specs.declared.key.Key.TheVariants as key
use Rattle.table_schema.specs.declared.table.Table.{Table}
use Rattle.table_schema.specs.declared.table.Table.TheVariants as table

-- the table of a name
abbrev pub table_of : List ℕ → Option Table
table_of text =
    if bytes_eq text (codes "PORT_TABLE") then Some table.Port
    else if bytes_eq text (codes "VLAN_TABLE") then Some table.Vlan
    else if bytes_eq text (codes "VRF_TABLE") then Some table.Vrf
    else if bytes_eq text (codes "VLAN_MEMBER_TABLE") then Some table.Member
    else if bytes_eq text (codes "INTF_TABLE") then Some table.Intf
    else if bytes_eq text (codes "NEIGH_TABLE") then Some table.Neigh
    else if bytes_eq text (codes "ROUTE_TABLE") then Some table.Route
    else None

-- PORT_TABLE: an Ethernet name
abbrev pub port_key : Option IfName → Option Key
port_key None = None
port_key (Some (name.Ethernet port)) = Some (key.Port port)
port_key (Some (name.Vlan vlan)) = None
port_key (Some (name.Loopback number)) = None

-- VLAN_TABLE: a Vlan name
abbrev pub vlan_key : Option IfName → Option Key
vlan_key None = None
vlan_key (Some (name.Ethernet port)) = None
vlan_key (Some (name.Vlan vlan)) = Some (key.Vlan vlan)
vlan_key (Some (name.Loopback number)) = None

-- a port in a VLAN
abbrev pub member_of : Option Key → Option Key → Option Key
member_of (Some (key.Vlan vlan)) (Some (key.Port port)) = Some (key.Member vlan port)
member_of _ _ = None

-- VLAN_MEMBER_TABLE: a Vlan name, `:` and an Ethernet name
abbrev pub member_key : Option (List ℕ × List ℕ) → Option Key
member_key None = None
member_key (Some parts) = member_of (vlan_key (if_name_of parts.0)) (port_key (if_name_of parts.1))

-- an interface and an address of its own
abbrev pub addr_key : Option IfName → Option (Ip × ℕ) → Option Key
addr_key None address = None
addr_key (Some on) None = None
addr_key (Some on) (Some address) = Some (key.Addr on address.0 address.1)

-- INTF_TABLE: an interface's name, or the name, `:` and an interface address
abbrev pub intf_key : List ℕ → Option (List ℕ × List ℕ) → Option Key
intf_key rest None = option_map key.Intf (if_name_of rest)
intf_key rest (Some parts) = addr_key (if_name_of parts.0) (interface_address_of parts.1)

-- the interface of a port or a VLAN
abbrev pub on_switch : Option IfName → Option IfName
on_switch None = None
on_switch (Some (name.Ethernet port)) = Some (name.Ethernet port)
on_switch (Some (name.Vlan vlan)) = Some (name.Vlan vlan)
on_switch (Some (name.Loopback number)) = None

-- an address on an interface
abbrev pub neigh_of : Option IfName → Option Ip → Option Key
neigh_of None ip = None
neigh_of (Some on) None = None
neigh_of (Some on) (Some ip) = Some (key.Neigh on ip)

-- NEIGH_TABLE: an Ethernet or Vlan name, `:` and an address
abbrev pub neigh_key : Option (List ℕ × List ℕ) → Option Key
neigh_key None = None
neigh_key (Some parts) = neigh_of (on_switch (if_name_of parts.0)) (ip_of parts.1)

-- a router whose name stands before a colon, and what stands behind it; without such a name all of the text is in the default router
abbrev pub in_named : List ℕ → Option VrfName → List ℕ → Vrf × List ℕ
in_named text None behind = (vrf.Default, text)
in_named text (Some n) behind = (vrf.Named n, behind)

abbrev pub router_before : List ℕ → Option (List ℕ × List ℕ) → Vrf × List ℕ
router_before text None = (vrf.Default, text)
router_before text (Some parts) = in_named text (vrf_name_of parts.0) parts.1

-- the router that the text of a route begins with, and the text of its prefix
abbrev pub route_parts : List ℕ → Vrf × List ℕ
route_parts text = router_before text (split_once 58 text)

-- ROUTE_TABLE: a prefix, or a router's name, `:` and a prefix
abbrev pub key_of_route : Vrf × List ℕ → Option Key
key_of_route parts = option_map (key.Route parts.0) (prefix_of parts.1)

-- the key of a table whose text behind the table's name this is
abbrev pub key_in : Table → List ℕ → Option Key
key_in table.Port rest = port_key (if_name_of rest)
key_in table.Vlan rest = vlan_key (if_name_of rest)
key_in table.Vrf rest = option_map key.Vrf (vrf_name_of rest)
key_in table.Member rest = member_key (split_once 58 rest)
key_in table.Intf rest = intf_key rest (split_once 58 rest)
key_in table.Neigh rest = neigh_key (split_once 58 rest)
key_in table.Route rest = key_of_route (route_parts rest)

abbrev pub key_at : Option Table → List ℕ → Option Key
key_at None rest = None
key_at (Some t) rest = key_in t rest

abbrev pub known_key : Option (List ℕ × List ℕ) → Option Key
known_key None = None
known_key (Some parts) = key_at (table_of parts.0) parts.1

abbrev pub or_other : List ℕ → Option Key → Key
or_other text None = key.Other text
or_other text (Some k) = k

-- the key that a text is: what is no key of a table is Other with the text
abbrev pub key_of : List ℕ → Key
key_of text = or_other text (known_key (split_once 58 text))

-- a router before what is in it: nothing for the default one
abbrev pub router_text : Vrf → List ℕ
router_text vrf.Default = []
router_text (vrf.Named n) = vrf_name_text n ++ codes ":"

-- the written key
abbrev pub key_text : Key → List ℕ
key_text (key.Port port) = codes "PORT_TABLE:" ++ if_name_text (name.Ethernet port)
key_text (key.Vlan vlan) = codes "VLAN_TABLE:" ++ if_name_text (name.Vlan vlan)
key_text (key.Vrf n) = codes "VRF_TABLE:" ++ vrf_name_text n
key_text (key.Member vlan port) = (codes "VLAN_MEMBER_TABLE:" ++ if_name_text (name.Vlan vlan)) ++ (codes ":" ++ if_name_text (name.Ethernet port))
key_text (key.Intf on) = codes "INTF_TABLE:" ++ if_name_text on
key_text (key.Addr on ip len) = (codes "INTF_TABLE:" ++ if_name_text on) ++ (codes ":" ++ interface_address_text ip len)
key_text (key.Neigh on ip) = (codes "NEIGH_TABLE:" ++ if_name_text on) ++ (codes ":" ++ ip_text ip)
key_text (key.Route v prefix) = (codes "ROUTE_TABLE:" ++ router_text v) ++ prefix_text prefix
key_text (key.Other text) = text

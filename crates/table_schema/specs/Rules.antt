-- The rules by which a row reads (SWSS schema; the order of the rules is own).
use Rattle.std.specs.Prelude.{ℕ, nat_le, Bool, true, false, List, [], Option, Some, None, Result, Ok, codes, bytes_eq, ◌&&◌, ◌||◌, option_map, if◌then◌else◌}
use Rattle.swss_types.specs.Lanes.{lanes_of}
use Rattle.swss_types.specs.Mac.{mac_of}
use Rattle.swss_types.specs.Number.{number_within}
use Rattle.swss_types.specs.Prefix.{has_host_bits}
use Rattle.swss_types.specs.Tagging.{tagging_of}
use Rattle.swss_types.specs.declared.address.Mac.{Mac}
use Rattle.swss_types.specs.declared.tagging.Tagging.{Tagging}
use Rattle.swss_types.specs.declared.tagging.Tagging.TheVariants.{Untagged}
use Rattle.swss_types.specs.VrfNames.{vrf_name_of}
use Rattle.swss_types.specs.declared.vrf.Vrf.{Vrf}
use Rattle.swss_types.specs.declared.vrf.Vrf.TheVariants as vrf
use Rattle.table_schema.specs.Broken.{bad, and_then}
use Rattle.table_schema.specs.Fields.{Pairs, value_of}
use Rattle.table_schema.specs.KeyText.{route_parts}
use Rattle.table_schema.specs.Plan.{Ports, lanes_in_plan}
use Rattle.table_schema.specs.RouteRules.{route_row_of}
use Rattle.table_schema.specs.Split.{split_once}
use Rattle.table_schema.specs.declared.key.Key.{Key}
use Rattle.table_schema.specs.declared.key.Key.TheVariants as key
use Rattle.table_schema.specs.declared.row.BadRow.{BadRow}
use Rattle.table_schema.specs.declared.row.BadWhy.TheVariants.{Unsupported, MissingField, BadValue, LanesDiffer, HostBits}
use Rattle.table_schema.specs.declared.row.Row.{Row}
use Rattle.table_schema.specs.declared.row.Row.TheVariants as row

-- a number in a range
abbrev pub at_least : ℕ → ℕ → Option ℕ → Result ℕ BadRow
at_least field least None = bad BadValue field
at_least field least (Some n) = if nat_le least n then Ok n else bad BadValue field

-- a field that is a number in a range, or is absent
abbrev pub number_or : ℕ → ℕ → ℕ → ℕ → Option (List ℕ) → Result ℕ BadRow
number_or field least most default None = Ok default
number_or field least most default (Some text) = at_least field least (number_within most text)

-- lanes that a port has in the plan
abbrev pub planned : Option (List ℕ) → Option (List ℕ) → Result (List ℕ) BadRow
planned there None = bad BadValue 1
planned None (Some lanes) = bad LanesDiffer 1
planned (Some there) (Some lanes) = if bytes_eq there lanes then Ok lanes else bad LanesDiffer 1

abbrev pub port_lanes : Option (List ℕ) → Option (List ℕ) → Result (List ℕ) BadRow
port_lanes there None = bad MissingField 1
port_lanes there (Some text) = planned there (lanes_of text)

-- `up` or `down`
abbrev pub up_of : Option (List ℕ) → Result Bool BadRow
up_of None = Ok false
up_of (Some text) = if bytes_eq text (codes "up") then Ok true else if bytes_eq text (codes "down") then Ok false else bad BadValue 4

-- a port with these lanes; its speed is in megabits a second, its mtu in bytes
abbrev pub port_row_with : List ℕ → Pairs → Result Row BadRow
port_row_with lanes fields =
    and_then (number_or 2 1 1600000 100000 (value_of (codes "speed") fields)) (λ speed.
    and_then (number_or 3 68 9216 9100 (value_of (codes "mtu") fields)) (λ mtu.
    and_then (up_of (value_of (codes "admin_status") fields)) (λ up.
    Ok (row.Port (record { lanes = lanes; speed = speed; mtu = mtu; up = up })))))

-- a port, whose lanes are those of the plan
abbrev pub port_row_of : Ports → ℕ → Pairs → Result Row BadRow
port_row_of plan port fields = and_then (port_lanes (lanes_in_plan plan port) (value_of (codes "lanes") fields)) (λ lanes. port_row_with lanes fields)

-- the router that a word names, where none and `default` name the default one
abbrev pub vrf_of : List ℕ → Option Vrf
vrf_of text = if bytes_eq text [] || bytes_eq text (codes "default") then Some vrf.Default else option_map vrf.Named (vrf_name_of text)

abbrev pub intf_in : Option Vrf → Result Row BadRow
intf_in None = bad Unsupported 16
intf_in (Some v) = Ok (row.Intf v)

-- an interface is in the router that its row names, and in the default one where it names none
abbrev pub in_router : Option (List ℕ) → Result Row BadRow
in_router None = Ok (row.Intf vrf.Default)
in_router (Some text) = intf_in (vrf_of text)

abbrev pub intf_row_of : Pairs → Result Row BadRow
intf_row_of fields = in_router (value_of (codes "vrf_name") fields)

-- a VLAN member's tagging, untagged where it is absent
abbrev pub tagged_row : Option Tagging → Result Row BadRow
tagged_row None = bad BadValue 5
tagged_row (Some tagging) = Ok (row.Member tagging)

abbrev pub tagging_row : Option (List ℕ) → Result Row BadRow
tagging_row None = Ok (row.Member Untagged)
tagging_row (Some text) = tagged_row (tagging_of text)

abbrev pub member_row_of : Pairs → Result Row BadRow
member_row_of fields = tagging_row (value_of (codes "tagging_mode") fields)

-- a neighbour's Ethernet address
abbrev pub mac_row : Option Mac → Result Row BadRow
mac_row None = bad BadValue 6
mac_row (Some mac) = Ok (row.Neigh mac)

abbrev pub lladdr_row : Option (List ℕ) → Result Row BadRow
lladdr_row None = bad MissingField 6
lladdr_row (Some text) = mac_row (mac_of text)

abbrev pub neigh_row_of : Pairs → Result Row BadRow
neigh_row_of fields = lladdr_row (value_of (codes "neigh") fields)

-- a key that does not read: a route whose prefix has host bits, or what the service does not have
abbrev pub other_row : Option (List ℕ × List ℕ) → Result Row BadRow
other_row None = bad Unsupported 0
other_row (Some parts) = if bytes_eq parts.0 (codes "ROUTE_TABLE") && has_host_bits (route_parts parts.1).1 then bad HostBits 0 else bad Unsupported 0

-- the row of a key, or the first rule that it breaks
abbrev pub row_of : Ports → Key → Pairs → Result Row BadRow
row_of plan (key.Port port) fields = port_row_of plan port fields
row_of plan (key.Vlan vlan) fields = Ok row.Vlan
row_of plan (key.Vrf n) fields = Ok row.Vrf
row_of plan (key.Member vlan port) fields = member_row_of fields
row_of plan (key.Intf on) fields = intf_row_of fields
row_of plan (key.Addr on ip len) fields = Ok row.Addr
row_of plan (key.Neigh on ip) fields = neigh_row_of fields
row_of plan (key.Route v prefix) fields = and_then (route_row_of fields) (λ target. Ok (row.Route target))
row_of plan (key.Other text) fields = other_row (split_once 58 text)

-- Where packets go, as a table for each router has it. Own; of the prefixes that cover an address the longest decides (RFC 4632 section 5.1).
use Rattle.std.specs.Prelude.{◌≡◌, ⊤, List, [], ◌∷◌, Option, Some, None, if◌then◌else◌}
use Rattle.std.specs.BTreeMap.{insert_entry, is_at}
use Rattle.std.specs.BTreeSet.{insert_key}
use Rattle.std.specs.List.{list_any}
use Rattle.std.specs.Map.{lookup, set_value}
use Rattle.std.specs.Option.{option_and_then, unwrap_or}
use Rattle.swss_types.specs.Address.{IsProperPrefix}
use Rattle.swss_types.specs.AddressOrder.{ip_cmp, prefix_cmp}
use Rattle.swss_types.specs.Vrf.{vrf_cmp}
use Rattle.swss_types.specs.declared.address.Ip.{Ip}
use Rattle.swss_types.specs.declared.address.Prefix.{Prefix}
use Rattle.swss_types.specs.declared.vrf.Packet.{Packet}
use Rattle.swss_types.specs.declared.vrf.Vrf.{Vrf}
use Rattle.sai_types.specs.declared.thing.Goal.{Goal}
use Rattle.sai_types.specs.declared.thing.Thing.{Thing}
use Rattle.sai_types.specs.declared.thing.Thing.TheVariants as thing
use Rattle.sai_types.specs.Forwarding as forwarding
use Rattle.lpm_table.specs.Longest.{best_prefix}
use Rattle.sai_chip.specs.Forward.{answer_of}
use Rattle.sai_chip.specs.declared.forward.Forward.{Forward}
use Rattle.sai_chip.specs.declared.forward.Forward.TheVariants as forward
use Rattle.packet_walk.specs.declared.router_table.Row.{Row}
use Rattle.packet_walk.specs.declared.router_table.Row.TheVariants as row

-- the switch's own addresses in a router, the prefixes of its routes, and where each of them sends
pub record TableParts : Type 0 where
  pub own : List Ip
  pub prefixes : List Prefix
  pub sends : List (Prefix × Forward)

abbrev pub no_table : TableParts
no_table = record { own = []; prefixes = []; sends = [] }

abbrev pub with_table_row : TableParts → Row → TableParts
with_table_row t (row.Own ip) = record { own = insert_key ip_cmp t.own ip; prefixes = t.prefixes; sends = t.sends }
with_table_row t (row.Route p f) = record { own = t.own; prefixes = insert_key prefix_cmp t.prefixes p; sends = insert_entry prefix_cmp t.sends p f }

-- where the route of the longest prefix sends that covers an address
abbrev pub sent_by_route : TableParts → Ip → Option Forward
sent_by_route t ip = option_and_then (λ p. lookup (is_at (prefix_cmp p)) t.sends) (best_prefix t.prefixes ip)

-- where packets to an address go
abbrev pub answer_in : TableParts → Ip → Forward
answer_in t ip = if list_any (is_at (ip_cmp ip)) t.own then forward.Cpu else unwrap_or (sent_by_route t ip) forward.Drop

-- tables by their routers
abbrev pub Tables : Type 0
Tables = List (Vrf × TableParts)

abbrev pub table_at : Tables → Vrf → TableParts
table_at tables v = unwrap_or (lookup (is_at (vrf_cmp v)) tables) no_table

-- where a packet goes
abbrev pub answer : Tables → Packet → Forward
answer tables a = answer_in (table_at tables a.vrf) a.to

-- a row in the table of its router, which is made where it is none yet
abbrev pub put_into : Option TableParts → Tables → Vrf → Row → Tables
put_into (Some t) tables v r = set_value (is_at (vrf_cmp v)) tables (with_table_row t r)
put_into None tables v r = insert_entry vrf_cmp tables v (with_table_row no_table r)

abbrev pub put_row : Tables → Vrf → Row → Tables
put_row tables v r = put_into (lookup (is_at (vrf_cmp v)) tables) tables v r

-- what a thing says of packets, and in which router, where goals send so
abbrev pub table_row : (Goal → Forward) → Thing → Option (Vrf × Row)
table_row send (thing.Own v ip) = Some (v, row.Own ip)
table_row send (thing.Route v p goal) = Some (v, row.Route p (send goal))
table_row send _ = None

-- the prefix of a route has no host bits
abbrev pub IsProperThing : Thing → Type 0
IsProperThing (thing.Route v p goal) = IsProperPrefix p
IsProperThing _ = ⊤

abbrev pub with_given : Tables → Option (Vrf × Row) → Tables
with_given tables None = tables
with_given tables (Some r) = put_row tables r.0 r.1

abbrev pub with_thing_told : (Goal → Forward) → Tables → Thing → Tables
with_thing_told send tables t = with_given tables (table_row send t)

-- the tables of things; of several routes of one prefix in a router the first counts
abbrev pub tables_of : (Goal → Forward) → List Thing → Tables
tables_of send [] = []
tables_of send (t ∷ ts) = with_thing_told send (tables_of send ts) t

-- they answer each packet as these things forward it
pub record AreTablesOf (things : List Thing) (tables : Tables) : Type 0 where
  pub each : (a : Packet) → answer tables a ≡ answer_of (forwarding.forward things a)

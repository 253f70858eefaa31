-- The script that a load runs, by its number of routes and a seed. Own.
use Rattle.std.specs.Prelude.{ℕ, zero, suc, ◌+◌, ◌*◌, ◌/◌, ◌%◌, ◌^◌, List, [], ◌∷◌, ◌++◌, flat_map, slice_set, codes}
use Rattle.swss_types.specs.Interface.{if_name_text}
use Rattle.swss_types.specs.Ip.{ip_text}
use Rattle.swss_types.specs.Lanes.{lanes_text}
use Rattle.swss_types.specs.Mac.{pair_text}
use Rattle.swss_types.specs.declared.address.Family.TheVariants.{V4}
use Rattle.swss_types.specs.declared.address.Ip.{Ip}
use Rattle.swss_types.specs.declared.address.Prefix.{Prefix}
use Rattle.swss_types.specs.declared.interface.IfName.{IfName}
use Rattle.swss_types.specs.declared.interface.IfName.TheVariants as name
use Rattle.swss_types.specs.declared.vrf.Vrf.TheVariants as vrf
use Rattle.sai_types.specs.Objects.{level}
use Rattle.sai_types.specs.declared.caps.Caps.{Caps}
use Rattle.sai_types.specs.declared.kind.Kind.TheVariants as kind
use Rattle.table_schema.specs.Fields.{Pairs}
use Rattle.table_schema.specs.Plan.{Ports}
use Rattle.table_schema.specs.declared.key.Key.{Key}
use Rattle.table_schema.specs.declared.key.Key.TheVariants as key
use Rattle.table_schema.specs.declared.write.Write.TheVariants as write
use Rattle.swss_script.specs.Fields.{set_fields}
use Rattle.swss_script.specs.Script.{default_caps}
use Rattle.swss_script.specs.declared.parts.Act.{Act}
use Rattle.swss_script.specs.declared.parts.Act.TheVariants as act
use Rattle.swss_script.specs.declared.parts.Round.{Round}
use Rattle.swss_script.specs.declared.parts.Show.TheVariants as show
use Rattle.swss_script.specs.declared.script.Script.{Script}

-- ---- draws: each changes the state, which begins as the seed, and gives its upper 31 bits

abbrev pub next_state : ℕ → ℕ
next_state state = (state * 6364136223846793005 + 1442695040888963407) % 2 ^ 64

abbrev pub drawn : ℕ → ℕ
drawn state = state / 2 ^ 33

-- ---- rows

-- what stands for each of so many numbers, from this one on
unfoldable pub each_from : {A : Type 0} → (ℕ → A) → ℕ → ℕ → List A
each_from value from zero = []
each_from value from (suc n) = value from ∷ each_from value (from + 1) n

-- a Set of a row
abbrev pub set_row : Key → Pairs → Act
set_row k fields = act.Write (write.Set k (set_fields fields))

-- an address of version 4
abbrev pub v4 : ℕ → ℕ → ℕ → ℕ → Ip
v4 a b c d = record { family = V4; bits = ((a * 256 + b) * 256 + c) * 256 + d }

-- port k has four lanes, and the number of the first
abbrev pub four_lanes : ℕ → List ℕ
four_lanes k = 4 * k ∷ (4 * k + 1) ∷ (4 * k + 2) ∷ (4 * k + 3) ∷ []

abbrev pub port_in_plan : ℕ → ℕ × List ℕ
port_in_plan k = (4 * k, four_lanes k)

abbrev pub port_name : ℕ → IfName
port_name k = name.Ethernet (4 * k)

-- its line in a plan
abbrev pub planned_line : ℕ → List ℕ
planned_line k = if_name_text (port_name k) ++ 32 ∷ lanes_text (four_lanes k)

abbrev pub port_row : ℕ → Act
port_row k = set_row (key.Port (4 * k)) ((codes "lanes", lanes_text (four_lanes k)) ∷ (codes "admin_status", codes "up") ∷ [])

abbrev pub interface_row : ℕ → Act
interface_row k = set_row (key.Intf (port_name k)) ((codes "NULL", codes "NULL") ∷ [])

abbrev pub address_row : ℕ → Act
address_row k = set_row (key.Addr (port_name k) (v4 10 0 k 1) 24) ((codes "scope", codes "global") ∷ [])

-- neighbour j is on port j mod 64
abbrev pub neighbour_on : ℕ → IfName
neighbour_on j = port_name (j % 64)

abbrev pub neighbour_ip : ℕ → Ip
neighbour_ip j = v4 10 0 (j % 64) (2 + j / 64)

abbrev pub neighbour_row : ℕ → Act
neighbour_row j = set_row (key.Neigh (neighbour_on j) (neighbour_ip j)) ((codes "neigh", codes "02:00:00:00:00:" ++ pair_text j) ∷ [])

abbrev pub base_rows : List Act
base_rows = each_from port_row 0 64 ++ each_from interface_row 0 64 ++ each_from address_row 0 64 ++ each_from neighbour_row 0 256

-- ---- routes

-- texts of neighbours, joined by commas
abbrev pub texts_joined : (ℕ → List ℕ) → List ℕ → List ℕ
texts_joined text [] = []
texts_joined text (j ∷ js) = text j ++ flat_map (λ i. 44 ∷ text i) js

-- route i has the prefix 20.0.0.0 plus 256 i
abbrev pub route_prefix : ℕ → Prefix
route_prefix i = record { ip = record { family = V4; bits = 20 * 2 ^ 24 + 256 * i }; len = 24 }

abbrev pub hop_address : ℕ → List ℕ
hop_address j = ip_text (neighbour_ip j)

abbrev pub hop_interface : ℕ → List ℕ
hop_interface j = if_name_text (neighbour_on j)

-- a route over these neighbours
abbrev pub route_row : ℕ → List ℕ → Act
route_row i hops = set_row (key.Route vrf.Default (route_prefix i)) ((codes "nexthop", texts_joined hop_address hops) ∷ (codes "ifname", texts_joined hop_interface hops) ∷ [])

-- so many neighbours, from the one with this number on, modulo 256
abbrev pub hops_from : ℕ → ℕ → List ℕ
hops_from first count = each_from (λ j. j % 256) first count

-- route i by the state before it: a first draw gives 1 to 4 hops, and a second one the number of the first
abbrev pub drawn_route : ℕ → ℕ → Act
drawn_route i state = route_row i (hops_from (drawn (next_state (next_state state))) (1 + drawn (next_state state) % 4))

-- so many routes from route i on
abbrev pub routes_from : ℕ → ℕ → ℕ → List Act
routes_from i state zero = []
routes_from i state (suc n) = drawn_route i state ∷ routes_from (i + 1) (next_state (next_state state)) n

-- ---- the script

abbrev pub generated_plan : Ports
generated_plan = each_from port_in_plan 0 64

-- room for 1024 groups
abbrev pub generated_caps : Caps
generated_caps = record { 0 = slice_set default_caps.0 (level kind.Group) 1024 }

-- the rows are written, and the counts shown
abbrev pub loading_round : ℕ → ℕ → Round
loading_round n seed = record {
  sections = (record { producer = 1; acts = base_rows }) ∷ (record { producer = 2; acts = routes_from 0 seed n }) ∷ [];
  shows = show.Counts ∷ [];
}

-- the service restarts, and whether it is ready is shown
abbrev pub restart_round : Round
restart_round = record { sections = (record { producer = 1; acts = act.Restart ∷ [] }) ∷ []; shows = show.Ready ∷ [] }

abbrev pub generated : ℕ → ℕ → Script
generated n seed = record {
  plan = generated_plan;
  caps = generated_caps;
  fails = [];
  image = [];
  producers = codes "base" ∷ codes "routes" ∷ [];
  rounds = loading_round n seed ∷ restart_round ∷ [];
}

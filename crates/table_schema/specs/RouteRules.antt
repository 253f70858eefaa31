-- The rules by which a route's row reads (SWSS schema; the order of the rules is own).
use denote.Ref.{Bor}
use Rattle.std.specs.Prelude.{ℕ, ◌==◌, ◌&&◌, ◌||◌, nat_lt, nat_le, Bool, true, false, List, [], ◌∷◌, length, unwrap_or, Option, Some, None, Result, Ok, codes, bytes_eq, if◌then◌else◌}
use Rattle.swss_types.specs.Interface.{if_name_of}
use Rattle.swss_types.specs.Ip.{ip_of}
use Rattle.swss_types.specs.Number.{number_within}
use Rattle.swss_types.specs.Parts.{parts_at}
use Rattle.swss_types.specs.VrfNames.{first_part}
use Rattle.swss_types.specs.declared.address.Ip.{Ip}
use Rattle.swss_types.specs.declared.interface.IfName.{IfName}
use Rattle.table_schema.specs.Broken.{bad, and_then}
use Rattle.table_schema.specs.Fields.{Pairs, value_of}
use Rattle.table_schema.specs.Hop.{put_row_hop}
use Rattle.table_schema.specs.KeyText.{on_switch}
use Rattle.table_schema.specs.declared.row.BadRow.{BadRow}
use Rattle.table_schema.specs.declared.row.BadWhy.TheVariants.{Unsupported, MissingField, BadValue, CountsDiffer, TooManyHops}
use Rattle.table_schema.specs.declared.row.RouteRow.{RouteRow}
use Rattle.table_schema.specs.declared.row.RouteRow.TheVariants as route
use Rattle.table_schema.specs.declared.row_hop.RowHop.{RowHop}
use Rattle.table_schema.specs.declared.route_rules.TheConstants.{MOST_HOPS}

-- an element that says nothing
abbrev pub is_blank_part : List ℕ → Bool
is_blank_part part = bytes_eq part [] || bytes_eq part (codes "na")

abbrev pub are_blank : List (List ℕ) → Bool
are_blank [] = true
are_blank (part ∷ parts) = is_blank_part part && are_blank parts

-- a field of what the service does not have: all its elements say nothing
abbrev pub unused : ℕ → Option (List ℕ) → Result (Unit {0}) BadRow
unused field None = Ok tt
unused field (Some text) = if are_blank (parts_at 44 text) then Ok tt else bad Unsupported field

-- next-hop groups by name, MPLS, VXLAN and SRv6 are not there
abbrev pub unused_fields : Pairs → Result (Unit {0}) BadRow
unused_fields fields =
    and_then (unused 10 (value_of (codes "nexthop_group") fields)) (λ _.
    and_then (unused 11 (value_of (codes "mpls_nh") fields)) (λ _.
    and_then (unused 12 (value_of (codes "vni_label") fields)) (λ _.
    and_then (unused 13 (value_of (codes "router_mac") fields)) (λ _.
    unused 14 (value_of (codes "segment") fields)))))

-- `true`, `false` or nothing
abbrev pub blackhole_of : Option (List ℕ) → Result Bool BadRow
blackhole_of None = Ok false
blackhole_of (Some text) =
    if bytes_eq text [] then Ok false
    else if bytes_eq text (codes "true") then Ok true
    else if bytes_eq text (codes "false") then Ok false
    else bad BadValue 9

-- a field that must not be absent or empty
abbrev pub field_filled : ℕ → Option (List ℕ) → Result (List ℕ) BadRow
field_filled field None = bad MissingField field
field_filled field (Some []) = bad MissingField field
field_filled field (Some (b ∷ bs)) = Ok (b ∷ bs)

-- the address 0.0.0.0 or ::
abbrev pub is_zero : Ip → Bool
is_zero ip = ip.bits == 0

-- a hop of one or of several; a zero address is none of several
abbrev pub hop_at : Bool → IfName → Option Ip → Result RowHop BadRow
hop_at several on None = bad BadValue 7
hop_at several on (Some ip) = if several && is_zero ip then bad BadValue 7 else Ok (record { on = on; ip = ip })

abbrev pub hop_or_why : Bool → Option IfName → Option Ip → Result RowHop BadRow
hop_or_why several None ip = bad Unsupported 8
hop_or_why several (Some on) ip = hop_at several on ip

-- the hop that an address and the name of an Ethernet or Vlan interface write
abbrev pub hop_of_texts : Bool → List ℕ → List ℕ → Result RowHop BadRow
hop_of_texts several ip on = hop_or_why several (on_switch (if_name_of on)) (ip_of ip)

-- a hop's weight: 1 where nothing is said of it
abbrev pub weight_within : Option ℕ → Result ℕ BadRow
weight_within None = bad BadValue 15
weight_within (Some weight) = if nat_lt 0 weight then Ok weight else bad BadValue 15

abbrev pub weight_of : List ℕ → Result ℕ BadRow
weight_of [] = Ok 1
weight_of (b ∷ bs) = weight_within (number_within 255 (b ∷ bs))

-- the elements of what is left of a list
abbrev pub parts_left : Option (Bor (List ℕ)) → List (List ℕ)
parts_left None = []
parts_left (Some text) = parts_at 44 text.now

-- the elements behind the first
abbrev pub other_parts : List (List ℕ) → List (List ℕ)
other_parts [] = []
other_parts (part ∷ parts) = parts

-- a hop and its weight
abbrev pub weighted_hop : Bool → List ℕ → List ℕ → List ℕ → Result (RowHop × ℕ) BadRow
weighted_hop several ip on weight = and_then (hop_of_texts several ip on) (λ hop. and_then (weight_of weight) (λ weight. Ok (hop, weight)))

-- hops put among others, each once and rising, with the greatest of its weights; of a hop for which no weight is left none is said
abbrev pub hops_with : Bool → List (RowHop × ℕ) → List (List ℕ) → List (List ℕ) → List (List ℕ) → Result (List (RowHop × ℕ)) BadRow
hops_with several hops [] names weights = Ok hops
hops_with several hops (ip ∷ ips) [] weights = Ok hops
hops_with several hops (ip ∷ ips) (on ∷ names) weights =
    and_then (weighted_hop several ip on (first_part weights)) (λ hop. hops_with several (put_row_hop hops hop.0 hop.1) ips names (other_parts weights))

-- a list of weights has as many elements as that of addresses, unless it is empty
abbrev pub are_weights_of : List ℕ → ℕ → Bool
are_weights_of [] count = true
are_weights_of (b ∷ bs) count = length (parts_at 44 (b ∷ bs)) == count

-- as many addresses as names and weights, no more than a route may have
abbrev pub counts_of : ℕ → ℕ → List ℕ → Result (Unit {0}) BadRow
counts_of ips names weights =
    if ips == names
    then (if are_weights_of weights ips then (if nat_le ips MOST_HOPS then Ok tt else bad TooManyHops 7) else bad CountsDiffer 15)
    else bad CountsDiffer 8

-- a hop at each pair of an address and a name
abbrev pub hops_of_texts : List (List ℕ) → List (List ℕ) → List ℕ → Result (List (RowHop × ℕ)) BadRow
hops_of_texts ips names weights = and_then (counts_of (length ips) (length names) weights) (λ _. hops_with (nat_lt 1 (length ips)) [] ips names (parts_at 44 weights))

-- one hop with a zero address is the interface itself, and any other hop alone has the weight 1
abbrev pub target_of_hops : List (RowHop × ℕ) → RouteRow
target_of_hops [] = route.Hops []
target_of_hops (hop ∷ []) = if is_zero hop.0.ip then route.Direct hop.0.on else route.Hops ((hop.0, 1) ∷ [])
target_of_hops (hop ∷ other ∷ others) = route.Hops (hop ∷ other ∷ others)

-- the hops that a list of addresses and a list of names write, with a list of weights
abbrev pub hops_listed : Option (List ℕ) → Option (List ℕ) → Option (List ℕ) → Result RouteRow BadRow
hops_listed ips names weights =
    and_then (field_filled 7 ips) (λ ips.
    and_then (field_filled 8 names) (λ names.
    and_then (hops_of_texts (parts_at 44 ips) (parts_at 44 names) (unwrap_or weights [])) (λ hops.
    Ok (target_of_hops hops))))

-- the hops of a route that drops nothing
abbrev pub route_hops_of : Pairs → Result RouteRow BadRow
route_hops_of fields = hops_listed (value_of (codes "nexthop") fields) (value_of (codes "ifname") fields) (value_of (codes "weight") fields)

abbrev pub route_target : Bool → Pairs → Result RouteRow BadRow
route_target true fields = Ok route.Drop
route_target false fields = route_hops_of fields

-- whether a route drops its packets
abbrev pub drops_of : Pairs → Result Bool BadRow
drops_of fields = and_then (unused_fields fields) (λ _. blackhole_of (value_of (codes "blackhole") fields))

-- where a route's row sends its packets
abbrev pub route_row_of : Pairs → Result RouteRow BadRow
route_row_of fields = and_then (drops_of fields) (λ drops. route_target drops fields)

-- a good row all of whose names are applied is one of its table
use Rattle.std.proofs.Common.{◌≡◌, ◌+◌, ◌<◌, ◌≤◌, ◌==◌, ◌&&◌, ◌∷◌, ◌++◌, ◌∙◌, ℕ, nat_le, nat_lt, Bool, true, false, cond, List, [], map, length, Option, None, Some, option_map, unwrap_or, is_some, Result, Ok, Err, codes, refl, sym, ap, subst, arith}
use Rattle.std.proofs.lemmas.Bool.{and_from, and_parts, eqb-true}
use Rattle.std.proofs.lemmas.List.Splits.{length-slice_split}
use Rattle.std.specs.List.{AllByRecursion}
use Rattle.std.specs.declared.cmp.Ordering.TheVariants.{Less, Equal, Greater}
use Rattle.swss_types.specs.Interface.{if_name_of}
use Rattle.swss_types.specs.Ip.{ip_of}
use Rattle.swss_types.specs.Parts.{parts_at}
use Rattle.swss_types.specs.Tagging.{tagging_of}
use Rattle.swss_types.specs.VrfNames.{first_part}
use Rattle.swss_types.specs.declared.address.Ip.{Ip}
use Rattle.swss_types.specs.declared.address.Prefix.{Prefix}
use Rattle.swss_types.specs.declared.tagging.Tagging.{Tagging}
use Rattle.swss_types.specs.declared.vrf.Vrf.{Vrf}
use Rattle.swss_types.specs.declared.vrf.Vrf.TheVariants as vrf
use Rattle.swss_types.specs.declared.interface.IfName.{IfName}
use Rattle.swss_types.specs.declared.interface.IfName.TheVariants as name
use Rattle.swss_types.proofs.Most.{most_by_test}
use Rattle.swss_types.proofs.Choices.{some_by as there}
use Rattle.table_schema.specs.Broken.{and_then, bad}
use Rattle.table_schema.specs.Fields.{Pairs, value_of}
use Rattle.table_schema.specs.Hop.{put_row_hop, row_hop_cmp}
use Rattle.table_schema.specs.KeyText.{on_switch}
use Rattle.table_schema.specs.Names.{base_names, names_of, names_of_intf, route_names, router_names}
use Rattle.table_schema.specs.Plan.{Ports, lanes_in_plan}
use Rattle.table_schema.specs.RouteRules.{are_weights_of, counts_of, drops_of, field_filled, route_hops_of, hop_at, hop_of_texts, hop_or_why, hops_of_texts, hops_with, is_zero, other_parts, route_row_of, route_target, target_of_hops, weight_of, weighted_hop}
use Rattle.table_schema.specs.Rules.{number_or, other_row, port_lanes, port_row_of, port_row_with, row_of, tagged_row, tagging_row, up_of}
use Rattle.table_schema.specs.Split.{split_once}
use Rattle.table_schema.specs.declared.key.Key.{Key}
use Rattle.table_schema.specs.declared.key.Key.TheVariants as key
use Rattle.table_schema.specs.declared.row.BadRow.{BadRow}
use Rattle.table_schema.specs.declared.row.BadWhy.TheVariants.{BadValue, CountsDiffer, TooManyHops}
use Rattle.table_schema.specs.declared.row.PortRow.{PortRow}
use Rattle.table_schema.specs.declared.row.Row.{Row}
use Rattle.table_schema.specs.declared.row.Row.TheVariants as row
use Rattle.table_schema.specs.declared.row.RouteRow.{RouteRow}
use Rattle.table_schema.specs.declared.row.RouteRow.TheVariants as route
use Rattle.table_schema.specs.declared.row_hop.RowHop.{RowHop}
use Rattle.table_schema.proofs.Hops.{AllByRecursion-put_row_hop, placed_row}
use Rattle.table_schema.proofs.ProperKeys.{on_switch_stays}
use Rattle.table_schema.proofs.ProperNames.{both_hold}
use Rattle.sai_types.specs.declared.hop.Base.{Base}
use Rattle.sai_types.specs.declared.hop.Base.TheVariants as base
use Rattle.sai_types.specs.declared.hop.Hop.{Hop}
use Rattle.sai_types.specs.declared.weight.WHop.{WHop}
use Rattle.sai_types.specs.declared.thing.Goal.{Goal}
use Rattle.sai_types.specs.declared.thing.Goal.TheVariants as goal
use Rattle.sai_types.specs.Hop.{hop_cmp, put_hop}
use Rattle.sai_types.specs.Named.{both, first_lane}
use Rattle.sai_types.proofs.Weights.{placed}
use Rattle.switch_model.specs.Desired.{IsClosed, have_rows}
use Rattle.switch_model.specs.Good.{TypedRows, good_row}
use Rattle.switch_model.specs.Placed.{place}
use Rattle.switch_model.specs.Things.{base_of, lane_of}
use Rattle.switch_model.specs.Things as things
use Rattle.switch_model.proofs.ReadRows.{in_router-is, lladdr_row-is, port_lanes-is, row_read_ok}
use Rattle.row_layout.specs.Rows.{goal_to, goal_of}
use Rattle.switch_machine.specs.Flights.{Fits}
use Rattle.machine_laws.specs.Reading.{IsOnSwitch}

abbrev okay : {A : Type 0} → A → Result A BadRow
okay x = Ok x

same_okay : {A : Type 0} (x y : A) → okay x ≡ okay y → x ≡ y
same_okay x y h = cc

-- ---- ports

with_ok : (lanes : List ℕ) (fields : Pairs) (r : Row) → port_row_with lanes fields ≡ Ok r → (p : PortRow) × (r ≡ row.Port p) × (p.lanes ≡ lanes)
with_ok lanes fields r h =
    let speed = both_hold (number_or 2 1 1600000 100000 (value_of (codes "speed") fields)) _ r h in
    let mtu = both_hold (number_or 3 68 9216 9100 (value_of (codes "mtu") fields)) _ r speed.2 in
    let up = both_hold (up_of (value_of (codes "admin_status") fields)) _ r mtu.2 in
    (record { lanes = lanes; speed = speed.0; mtu = mtu.0; up = up.0 }, cc, refl)

port_ok : (plan : Ports) (p : ℕ) (fields : Pairs) (r : Row) → port_row_of plan p fields ≡ Ok r → (f : PortRow) × (r ≡ row.Port f) × (lanes_in_plan plan p ≡ Some f.lanes)
port_ok plan p fields r h =
    let lanes = both_hold (port_lanes (lanes_in_plan plan p) (value_of (codes "lanes") fields)) (λ l. port_row_with l fields) r h in
    let rest = with_ok lanes.0 fields r lanes.2 in
    (rest.0, rest.1, port_lanes-is (lanes_in_plan plan p) (value_of (codes "lanes") fields) lanes.0 lanes.1 ∙ ap Some (sym rest.2))

-- ---- other tables

tagged_ok : (t : Option Tagging) (r : Row) → tagged_row t ≡ Ok r → (x : Tagging) × (r ≡ row.Member x)
tagged_ok None r h = absurd cc
tagged_ok (Some x) r h = (x, cc)

tagging_ok : (text : Option (List ℕ)) (r : Row) → tagging_row text ≡ Ok r → (x : Tagging) × (r ≡ row.Member x)
tagging_ok None r h = (_, sym (same_okay _ r h))
tagging_ok (Some text) r h = tagged_ok (tagging_of text) r h

other_if : {X : Type 0} (t : Bool) (r : Row) (a b : BadRow) → cond t (Err a) (Err b) ≡ Ok r → X
other_if true r a b h = absurd cc
other_if false r a b h = absurd cc

other_bad : {X : Type 0} (o : Option (List ℕ × List ℕ)) (r : Row) → other_row o ≡ Ok r → X
other_bad None r h = absurd cc
other_bad (Some parts) r h = other_if _ r _ _ h

-- ---- routes

abbrev IsSwitched : RowHop → Type 0
IsSwitched h = on_switch (Some h.on) ≡ Some h.on

abbrev AreSwitched : List (RowHop × ℕ) → Type 0
AreSwitched hops = AllByRecursion (λ h. IsSwitched h.0) hops

hop_at_ok : (several : Bool) (on : IfName) (ip : Option Ip) (h : RowHop) → hop_at several on ip ≡ Ok h → h.on ≡ on
hop_at_ok several on None h e = absurd cc
hop_at_ok several on (Some ip) h e = by (several && is_zero ip) e
  where
    by : (b : Bool) → cond b (bad BadValue 7) (Ok (record { on = on; ip = ip })) ≡ Ok h → h.on ≡ on
    by true e = absurd cc
    by false e = ap (λ (z : RowHop). z.on) (sym (same_okay _ h e))

hop_on_ok : (several : Bool) (text : List ℕ) (on : Option IfName) (ip : Option Ip) (h : RowHop) → on_switch (if_name_of text) ≡ on → hop_or_why several on ip ≡ Ok h → IsSwitched h
hop_on_ok several text None ip h is e = absurd cc
hop_on_ok several text (Some on) ip h is e = subst (λ z. on_switch (Some z) ≡ Some z) (sym (hop_at_ok several on ip h e)) (on_switch_stays (if_name_of text) on is).1

weighted_ok : (several : Bool) (ip on weight : List ℕ) (hop : RowHop × ℕ) → weighted_hop several ip on weight ≡ Ok hop → IsSwitched hop.0
weighted_ok several ip on weight hop h =
    let x = both_hold (hop_of_texts several ip on) (λ hop. and_then (weight_of weight) (λ weight. Ok (hop, weight))) hop h in
    let y = both_hold (weight_of weight) (λ weight. Ok (x.0, weight)) hop x.2 in
    subst (λ z. IsSwitched z.0) (same_okay (x.0, y.0) hop y.2) (hop_on_ok several on (on_switch (if_name_of on)) (ip_of ip) x.0 refl x.1)

-- the hops behind the first
abbrev with_rest : Bool → List (RowHop × ℕ) → List (List ℕ) → List (List ℕ) → List (List ℕ) → RowHop × ℕ → Result (List (RowHop × ℕ)) BadRow
with_rest several hops ips names weights hop = hops_with several (put_row_hop hops hop.0 hop.1) ips names (other_parts weights)

hops_with_ok : (several : Bool) (hops : List (RowHop × ℕ)) (ips names weights : List (List ℕ)) (out : List (RowHop × ℕ)) → AreSwitched hops → hops_with several hops ips names weights ≡ Ok out → AreSwitched out
hops_with_ok several hops [] names weights out all h = subst AreSwitched (same_okay hops out h) all
hops_with_ok several hops (ip ∷ ips) [] weights out all h = subst AreSwitched (same_okay hops out h) all
hops_with_ok several hops (ip ∷ ips) (on ∷ names) weights out all h =
    let x = both_hold (weighted_hop several ip on (first_part weights)) (with_rest several hops ips names weights) out h in
    hops_with_ok several (put_row_hop hops x.0.0 x.0.1) ips names (other_parts weights) out (AllByRecursion-put_row_hop (λ h. IsSwitched h.0) hops x.0.0 x.0.1 (weighted_ok several ip on (first_part weights) x.0 x.1) (λ h on. on) all) x.2

some_row : (hops : List (RowHop × ℕ)) (hop : RowHop) (weight : ℕ) → 0 < length (put_row_hop hops hop weight)
some_row [] hop weight = omega arith
some_row (x ∷ hops) hop weight = elim (row_hop_cmp hop x.0) as (λ r. 0 < length (placed_row r x hops hop weight)) [ Less ↦ omega arith | Equal ↦ omega arith | Greater ↦ omega arith ]

-- a hop more makes at most one more
row-few : (hops : List (RowHop × ℕ)) (hop : RowHop) (weight : ℕ) → length (put_row_hop hops hop weight) ≤ length hops + 1
row-few [] hop weight = omega arith
row-few (x ∷ hops) hop weight =
    let rest = row-few hops hop weight in
    elim (row_hop_cmp hop x.0) as (λ r. length (placed_row r x hops hop weight) ≤ length (x ∷ hops) + 1) [ Less ↦ omega arith | Equal ↦ omega arith | Greater ↦ omega (arith, rest) ]

some_hop : (hops : List WHop) (hop : WHop) → 0 < length (put_hop hops hop)
some_hop [] hop = omega arith
some_hop (x ∷ hops) hop = elim (hop_cmp hop.hop x.hop) as (λ r. 0 < length (placed r x hops hop)) [ Less ↦ omega arith | Equal ↦ omega arith | Greater ↦ omega arith ]

pub put-few : (hops : List WHop) (hop : WHop) → length (put_hop hops hop) ≤ length hops + 1
put-few [] hop = omega arith
put-few (x ∷ hops) hop =
    let rest = put-few hops hop in
    elim (hop_cmp hop.hop x.hop) as (λ r. length (placed r x hops hop) ≤ length (x ∷ hops) + 1) [ Less ↦ omega arith | Equal ↦ omega arith | Greater ↦ omega (arith, rest) ]

hops_with_few : (several : Bool) (hops : List (RowHop × ℕ)) (ips names weights : List (List ℕ)) (out : List (RowHop × ℕ)) → hops_with several hops ips names weights ≡ Ok out → length out ≤ length hops + length ips
hops_with_few several hops [] names weights out h = let same = ap length (same_okay hops out h) in omega (arith, same)
hops_with_few several hops (ip ∷ ips) [] weights out h = let same = ap length (same_okay hops out h) in omega (arith, same)
hops_with_few several hops (ip ∷ ips) (on ∷ names) weights out h =
    let x = both_hold (weighted_hop several ip on (first_part weights)) (with_rest several hops ips names weights) out h in
    let rest = hops_with_few several (put_row_hop hops x.0.0 x.0.1) ips names (other_parts weights) out x.2 in
    let one = row-few hops x.0.0 x.0.1 in
    omega (arith, rest, one)

stay_some : (several : Bool) (hops : List (RowHop × ℕ)) (ips names weights : List (List ℕ)) (out : List (RowHop × ℕ)) → 0 < length hops → hops_with several hops ips names weights ≡ Ok out → 0 < length out
stay_some several hops [] names weights out some h = subst (λ z. 0 < length z) (same_okay hops out h) some
stay_some several hops (ip ∷ ips) [] weights out some h = subst (λ z. 0 < length z) (same_okay hops out h) some
stay_some several hops (ip ∷ ips) (on ∷ names) weights out some h =
    let x = both_hold (weighted_hop several ip on (first_part weights)) (with_rest several hops ips names weights) out h in
    stay_some several (put_row_hop hops x.0.0 x.0.1) ips names (other_parts weights) out (some_row hops x.0.0 x.0.1) x.2

read_hops_some : (several : Bool) (ips names weights : List (List ℕ)) (out : List (RowHop × ℕ)) → 0 < length ips → length ips ≡ length names → hops_with several [] ips names weights ≡ Ok out → 0 < length out
read_hops_some several [] names weights out some same h = absurd (omega (arith, some))
read_hops_some several (ip ∷ ips) [] weights out some same h = absurd (omega (arith, same))
read_hops_some several (ip ∷ ips) (on ∷ names) weights out some same h =
    let x = both_hold (weighted_hop several ip on (first_part weights)) (with_rest several [] ips names weights) out h in
    stay_some several (put_row_hop [] x.0.0 x.0.1) ips names (other_parts weights) out (some_row [] x.0.0 x.0.1) x.2

record AreSwitchedHops (out : List (RowHop × ℕ)) : Type 0 where
  all : AreSwitched out
  some : 0 < length out
  few : length out ≤ 128

-- lists whose numbers of elements are as they have to be
counted : (m n : ℕ) (weights : List ℕ) (u : Unit {0}) → counts_of m n weights ≡ Ok u → (m ≡ n) × (m ≤ 128)
counted m n weights u h = same (m == n) refl h
  where
    most : (b : Bool) → nat_le m 128 ≡ b → m ≡ n → cond b (Ok tt) (bad TooManyHops 7) ≡ Ok u → (m ≡ n) × (m ≤ 128)
    most true few is h = (is, most_by_test m 128 few)
    most false few is h = absurd cc

    weighed : (b : Bool) → m ≡ n → cond b (cond (nat_le m 128) (Ok tt) (bad TooManyHops 7)) (bad CountsDiffer 15) ≡ Ok u → (m ≡ n) × (m ≤ 128)
    weighed true is h = most (nat_le m 128) refl is h
    weighed false is h = absurd cc

    same : (b : Bool) → (m == n) ≡ b → cond b (cond (are_weights_of weights m) (cond (nat_le m 128) (Ok tt) (bad TooManyHops 7)) (bad CountsDiffer 15)) (bad CountsDiffer 8) ≡ Ok u → (m ≡ n) × (m ≤ 128)
    same true is h = weighed (are_weights_of weights m) (eqb-true m n is) h
    same false is h = absurd cc

hops_ok : (ips names : List (List ℕ)) (weights : List ℕ) (out : List (RowHop × ℕ)) → 0 < length ips → hops_of_texts ips names weights ≡ Ok out → AreSwitchedHops out
hops_ok ips names weights out some h =
    let several = nat_lt 1 (length ips) in
    let x = both_hold (counts_of (length ips) (length names) weights) (λ _. hops_with several [] ips names (parts_at 44 weights)) out h in
    let (same, bound) = counted (length ips) (length names) weights x.0 x.1 in
    let number = hops_with_few several [] ips names (parts_at 44 weights) out x.2 in
    record { all = hops_with_ok several [] ips names (parts_at 44 weights) out tt x.2; some = read_hops_some several ips names (parts_at 44 weights) out some same x.2; few = omega (arith, bound, number) }

data IsTarget (t : RouteRow) : Type 0 where
  IsDrop : t ≡ route.Drop → IsTarget t
  Goes : (out : List (RowHop × ℕ)) → AreSwitchedHops out → t ≡ target_of_hops out → IsTarget t

forwarding_ok : (fields : Pairs) (t : RouteRow) → route_hops_of fields ≡ Ok t → IsTarget t
forwarding_ok fields t h =
    let ips = both_hold (field_filled 7 (value_of (codes "nexthop") fields)) _ t h in
    let names = both_hold (field_filled 8 (value_of (codes "ifname") fields)) _ t ips.2 in
    let weights = unwrap_or (value_of (codes "weight") fields) [] in
    let out = both_hold (hops_of_texts (parts_at 44 ips.0) (parts_at 44 names.0) weights) (λ hops. Ok (target_of_hops hops)) t names.2 in
    let many = length-slice_split (λ b. b == 44) ips.0 in
    Goes out.0 (hops_ok (parts_at 44 ips.0) (parts_at 44 names.0) weights out.0 (omega (arith, many)) out.1) (sym (same_okay (target_of_hops out.0) t out.2))

target_ok : (drops : Bool) (fields : Pairs) (t : RouteRow) → route_target drops fields ≡ Ok t → IsTarget t
target_ok true fields t h = IsDrop (sym (same_okay route.Drop t h))
target_ok false fields t h = forwarding_ok fields t h

route_ok : (fields : Pairs) (r : Row) → and_then (route_row_of fields) (λ target. Ok (row.Route target)) ≡ Ok r → (t : RouteRow) × (r ≡ row.Route t) × IsTarget t
route_ok fields r h =
    let t = both_hold (route_row_of fields) (λ target. Ok (row.Route target)) r h in
    let d = both_hold (drops_of fields) (λ drops. route_target drops fields) t.0 t.1 in
    (t.0, sym (same_okay (row.Route t.0) r t.2), target_ok d.0 fields t.0 d.2)

-- ---- how many hops a row has

abbrev pub hop_count : RouteRow → ℕ
hop_count (route.Hops hops) = length hops
hop_count _ = 0

target_few : (out : List (RowHop × ℕ)) → hop_count (target_of_hops out) ≤ length out
target_few [] = omega arith
target_few (x ∷ []) = by (is_zero x.0.ip)
  where
    by : (b : Bool) → hop_count (cond b (route.Direct x.0.on) (route.Hops ((x.0, 1) ∷ []))) ≤ 1
    by true = omega arith
    by false = omega arith
target_few (x ∷ y ∷ zs) = omega arith

row_target : (t u : RouteRow) → row.Route t ≡ row.Route u → t ≡ u
row_target t u h = cc

-- a route that reads has at most as many hops as a route may have
pub hops-few : (plan : Ports) (v : Vrf) (prefix : Prefix) (o : Option Pairs) (t : RouteRow) → good_row plan (key.Route v prefix) o ≡ Some (row.Route t) → hop_count t ≤ 128
hops-few plan v prefix None t h = absurd cc
hops-few plan v prefix (Some fields) t h = let x = route_ok fields (row.Route t) (row_read_ok (row_of plan (key.Route v prefix) fields) (row.Route t) h) in by x.0 (row_target t x.0 x.1) x.2
  where
    by : (u : RouteRow) → t ≡ u → IsTarget u → hop_count t ≤ 128
    by u same (IsDrop is) = let none = ap hop_count (same ∙ is) in omega (arith, none)
    by u same (Goes out are is) =
        let number = ap hop_count (same ∙ is) in
        let most = target_few out in
        let few = are.few in
        omega (arith, number, most, few)

-- ---- with applied rows

module _ (plan : Ports) (applied : TypedRows) (fit : (q : Key) (x : Row) → applied q ≡ Some x → Fits plan q (place vrf.Default x)) (closed : IsClosed applied) where
  port_lane : (port : ℕ) (r : Row) → Fits plan (key.Port port) (place vrf.Default r) → (lane : ℕ) × (lane_of plan port ≡ Some lane)
  port_lane port (row.Port r) h = (first_lane r.lanes, ap (option_map first_lane) h)
  port_lane port _ h = elim h [ ]

  lane_there : (port : ℕ) → is_some (applied (key.Port port)) ≡ true → (lane : ℕ) × (lane_of plan port ≡ Some lane)
  lane_there port h = let r = there (applied (key.Port port)) h in port_lane port r.0 (fit (key.Port port) r.0 r.1)

  base_by : (on : IfName) → on_switch (Some on) ≡ Some on → have_rows applied (base_names on) ≡ true → (b : Base) × (base_of plan on ≡ Some b)
  base_by (name.Ethernet port) is h = let l = lane_there port (and_parts (is_some (applied (key.Port port))) true h).0 in (base.Port l.0, ap (option_map base.Port) l.1)
  base_by (name.Vlan vlan) is h = (base.Vlan vlan, refl)
  base_by (name.Loopback number) is h = absurd cc

  have_left : (xs ys : List Key) → have_rows applied (xs ++ ys) ≡ true → have_rows applied xs ≡ true
  have_left [] ys h = refl
  have_left (x ∷ xs) ys h = let parts = and_parts (is_some (applied x)) (have_rows applied (xs ++ ys)) h in and_from (is_some (applied x)) (have_rows applied xs) parts.0 (have_left xs ys parts.1)

  bases_have : (on : IfName) (r : Row) → have_rows applied (names_of_intf on r) ≡ true → have_rows applied (base_names on) ≡ true
  bases_have on (row.Intf v) h = have_left (base_names on) (router_names v) h
  bases_have on _ h = h

  -- an applied interface of the switch has what it stands on
  base_there : (on : IfName) → on_switch (Some on) ≡ Some on → is_some (applied (key.Intf on)) ≡ true → (b : Base) × (base_of plan on ≡ Some b)
  base_there on is h = let r = there (applied (key.Intf on)) h in base_by on is (bases_have on r.0 (closed (key.Intf on) r.0 r.1))

  neigh_base : (on : IfName) (ip : Ip) (r : Row) → Fits plan (key.Neigh on ip) (place vrf.Default r) → (b : Base) × (base_of plan on ≡ Some b)
  neigh_base on ip (row.Neigh mac) h = h
  neigh_base on ip _ h = elim h [ ]

  hop_there : (h : RowHop) → is_some (applied (key.Neigh h.on h.ip)) ≡ true → (x : Hop) × (things.hop_of plan h ≡ Some x)
  hop_there h is =
      let r = there (applied (key.Neigh h.on h.ip)) is in
      let b = neigh_base h.on h.ip r.0 (fit (key.Neigh h.on h.ip) r.0 r.1) in
      (record { on = b.0; ip = h.ip }, ap (option_map (λ z. record { on = z; ip = h.ip })) b.1)

  hops_there : (hops : List (RowHop × ℕ)) → have_rows applied (map (λ h. key.Neigh h.0.on h.0.ip) hops) ≡ true → (out : List WHop) × (things.hops_of plan hops ≡ Some out) × (0 < length hops → 0 < length out)
  hops_there [] h = ([], refl, λ some. some)
  hops_there (x ∷ xs) h =
      let parts = and_parts (is_some (applied (key.Neigh x.0.on x.0.ip))) (have_rows applied (map (λ h. key.Neigh h.0.on h.0.ip) xs)) h in
      let one = hop_there x.0 parts.0 in
      let rest = hops_there xs parts.1 in
      let weighed : Hop → WHop = λ z. record { hop = z; weight = x.1 } in
      (put_hop rest.0 (weighed one.0), (ap (λ z. both put_hop z (things.whop_of plan x)) rest.1 ∙ ap (λ o. both put_hop (Some rest.0) (option_map weighed o)) one.1), λ some. some_hop rest.0 (weighed one.0))

  goal_some : (out : List WHop) → 0 < length out → (g : Goal) × (goal_to (Some out) ≡ Some g)
  goal_some [] some = absurd (omega (arith, some))
  goal_some (x ∷ []) some = (goal.Via x.hop, refl)
  goal_some (x ∷ y ∷ zs) some = (goal.Group (x ∷ y ∷ zs), refl)

  hops_goal : (hops : List (RowHop × ℕ)) → 0 < length hops → have_rows applied (map (λ h. key.Neigh h.0.on h.0.ip) hops) ≡ true → (g : Goal) × (goal_of plan (route.Hops hops) ≡ Some g)
  hops_goal hops some h =
      let x = hops_there hops h in
      let g = goal_some x.0 (x.2 some) in
      (g.0, ap goal_to x.1 ∙ g.1)

  target_goal : (out : List (RowHop × ℕ)) → AreSwitchedHops out → have_rows applied (route_names (target_of_hops out)) ≡ true → (g : Goal) × (goal_of plan (target_of_hops out) ≡ Some g)
  target_goal [] are h = absurd (let some = are.some in omega (arith, some))
  target_goal (x ∷ []) are h = by (is_zero x.0.ip) h
    where
      by : (b : Bool) → have_rows applied (route_names (cond b (route.Direct x.0.on) (route.Hops ((x.0, 1) ∷ [])))) ≡ true → (g : Goal) × (goal_of plan (cond b (route.Direct x.0.on) (route.Hops ((x.0, 1) ∷ []))) ≡ Some g)
      by true h = let b = base_there x.0.on are.all.0 (and_parts (is_some (applied (key.Intf x.0.on))) true h).0 in (goal.Direct b.0, ap (option_map goal.Direct) b.1)
      by false h = hops_goal ((x.0, 1) ∷ []) (omega arith) h
  target_goal (x ∷ y ∷ zs) are h = hops_goal (x ∷ y ∷ zs) are.some h

  route_goal : (t : RouteRow) → IsTarget t → have_rows applied (route_names t) ≡ true → (g : Goal) × (goal_of plan t ≡ Some g)
  route_goal t (IsDrop is) h = (goal.Drop, ap (goal_of plan) is)
  route_goal t (Goes out are is) h = let g = target_goal out are (subst (λ z. have_rows applied (route_names z) ≡ true) is h) in (g.0, ap (goal_of plan) is ∙ g.1)

  -- the names behind that of the router
  behind_router : (v : Vrf) (names : List Key) → have_rows applied (router_names v ++ names) ≡ true → have_rows applied names ≡ true
  behind_router vrf.Default names h = h
  behind_router (vrf.Named n) names h = (and_parts (is_some (applied (key.Vrf n))) (have_rows applied names) h).1

  fits_by : (k : Key) (fields : Pairs) (r : Row) (u : Vrf) → IsOnSwitch k → row_of plan k fields ≡ Ok r → have_rows applied (names_of k r) ≡ true → Fits plan k (place u r)
  fits_by (key.Port port) fields r u on h names = let x = port_ok plan port fields r h in subst (λ z. Fits plan (key.Port port) (place u z)) (sym x.1) x.2
  fits_by (key.Vlan vlan) fields r u on h names = subst (λ z. Fits plan (key.Vlan vlan) (place u z)) (same_okay row.Vlan r h) tt
  fits_by (key.Vrf n) fields r u on h names = subst (λ z. Fits plan (key.Vrf n) (place u z)) (same_okay row.Vrf r h) tt
  fits_by (key.Member vlan port) fields r u on h names =
      let x = tagging_ok (value_of (codes "tagging_mode") fields) r h in
      let one = and_parts (is_some (applied (key.Vlan vlan))) (is_some (applied (key.Port port)) && true) names in
      let two = and_parts (is_some (applied (key.Port port))) true one.1 in
      subst (λ z. Fits plan (key.Member vlan port) (place u z)) (sym x.1) (lane_there port two.0)
  fits_by (key.Intf n) fields r u on h names = let x = in_router-is (value_of (codes "vrf_name") fields) r h in subst (λ z. Fits plan (key.Intf n) (place u z)) (sym x.1) tt
  fits_by (key.Addr n ip len) fields r u on h names = subst (λ z. Fits plan (key.Addr n ip len) (place u z)) (same_okay row.Addr r h) tt
  fits_by (key.Neigh n ip) fields r u on h names =
      let x = lladdr_row-is (value_of (codes "neigh") fields) r h in
      subst (λ z. Fits plan (key.Neigh n ip) (place u z)) (sym x.1) (base_there n on (and_parts (is_some (applied (key.Intf n))) true names).0)
  fits_by (key.Route v prefix) fields r u on h names =
      let x = route_ok fields r h in
      subst (λ z. Fits plan (key.Route v prefix) (place u z)) (sym x.1) (on, route_goal x.0 x.2 (behind_router v (route_names x.0) (subst (λ z. have_rows applied (names_of (key.Route v prefix) z) ≡ true) x.1 names)))
  fits_by (key.Other text) fields r u on h names = other_bad (split_once 58 text) r h

  pub fits-good : (k : Key) (fields : Pairs) (r : Row) (u : Vrf) → IsOnSwitch k → good_row plan k (Some fields) ≡ Some r → have_rows applied (names_of k r) ≡ true → Fits plan k (place u r)
  fits-good k fields r u on h names = fits_by k fields r u on (row_read_ok (row_of plan k fields) r h) names

-- what a row names are proper keys
use Rattle.std.proofs.Common.{◌≡◌, ℕ, ◌&&◌, ◌||◌, Bool, true, false, cond, ltb, List, [], ◌∷◌, ◌++◌, length, map, Option, None, Some, option_map, unwrap_or, Result, Ok, Err, codes, bytes_eq, refl, subst}
use Rattle.std.specs.List.{AllByRecursion}
use Rattle.swss_types.specs.Address.{IsProperIp}
use Rattle.swss_types.specs.Interface.{if_name_of, IsProperIfName}
use Rattle.swss_types.specs.Ip.{ip_of}
use Rattle.swss_types.specs.Parts.{parts_at}
use Rattle.swss_types.specs.declared.address.Ip.{Ip}
use Rattle.swss_types.specs.declared.interface.IfName.{IfName}
use Rattle.swss_types.specs.declared.interface.IfName.TheVariants as name
use Rattle.swss_types.specs.VrfNames.{first_part, vrf_name_of, IsProperVrfName}
use Rattle.swss_types.specs.declared.vrf.Vrf.{Vrf}
use Rattle.swss_types.specs.declared.vrf.Vrf.TheVariants as vrf
use Rattle.swss_types.specs.declared.vrf.VrfName.{VrfName}
use Rattle.swss_types.proofs.Proper.{IsProperIp-ip_of}
use Rattle.swss_types.proofs.VrfNames.{IsProperVrfName-vrf_name_of}
use Rattle.table_schema.specs.Broken.{and_then}
use Rattle.table_schema.specs.Fields.{Pairs, value_of}
use Rattle.table_schema.specs.Hop.{put_row_hop}
use Rattle.table_schema.specs.KeyText.{on_switch}
use Rattle.table_schema.specs.Names.{base_names, intf_names, names_of, names_of_intf, names_of_route, route_names, router_names}
use Rattle.table_schema.specs.Plan.{Ports}
use Rattle.table_schema.specs.ProperKey.{IsProperKey, IsProperVrf, AreProperKeys}
use Rattle.table_schema.specs.RouteRules.{counts_of, drops_of, field_filled, route_hops_of, hop_at, hop_of_texts, hop_or_why, hops_of_texts, hops_with, is_zero, other_parts, route_row_of, route_target, target_of_hops, weight_of, weighted_hop}
use Rattle.table_schema.specs.Rules.{in_router, intf_in, row_of, vrf_of}
use Rattle.table_schema.specs.declared.key.Key.{Key}
use Rattle.table_schema.specs.declared.key.Key.TheVariants as key
use Rattle.table_schema.specs.declared.row.BadRow.{BadRow}
use Rattle.table_schema.specs.declared.row.BadWhy.TheVariants.{BadValue}
use Rattle.table_schema.specs.declared.row.Row.{Row}
use Rattle.table_schema.specs.declared.row.Row.TheVariants as row
use Rattle.table_schema.specs.declared.row.RouteRow.{RouteRow}
use Rattle.table_schema.specs.declared.row.RouteRow.TheVariants as route
use Rattle.table_schema.specs.declared.row_hop.RowHop.{RowHop}
use Rattle.table_schema.proofs.Hops.{AllByRecursion-put_row_hop}
use Rattle.table_schema.proofs.KeyTexts.{IsTyped, IsProperKey-typed}
use Rattle.table_schema.proofs.ProperKeys.{proper_on_switch}

-- a rule that holds, and what stands behind it
pub both_hold : {T U : Type 0} (r : Result T BadRow) (f : T → Result U BadRow) (y : U) → and_then r f ≡ Ok y → (x : T) × (r ≡ Ok x) × (f x ≡ Ok y)
both_hold (Err e) f y h = cc
both_hold (Ok x) f y h = (x, refl, h)

-- the last of two answers, where the other is a broken rule
last_chosen : {T : Type 0} (b : Bool) (x : Result T BadRow) (e : BadRow) (y : T) → cond b (Err e) x ≡ Ok y → x ≡ Ok y
last_chosen true x e y h = cc
last_chosen false x e y h = h

abbrev good : {T : Type 0} → T → Result T BadRow
good x = Ok x

ok_is : {T : Type 0} (x y : T) → good x ≡ Ok y → x ≡ y
ok_is x y h = cc

-- a hop is an address on an interface of the switch
abbrev pub IsTypedHop : RowHop → Type 0
IsTypedHop hop = IsTyped (key.Neigh hop.on hop.ip)

-- and so is each of these
abbrev pub AreTypedHops : List (RowHop × ℕ) → Type 0
AreTypedHops hops = AllByRecursion (λ h. IsTypedHop h.0) hops

typed_hop_at : (several : Bool) (on : IfName) (o : Option Ip) (hop : RowHop) → IsProperIfName on × (on_switch (Some on) ≡ Some on) → ((ip : Ip) → o ≡ Some ip → IsProperIp ip) → hop_at several on o ≡ Ok hop → IsTypedHop hop
typed_hop_at several on None hop proper h e = cc
typed_hop_at several on (Some ip) hop proper h e =
    let made : RowHop = record { on = on; ip = ip } in
    let is : made ≡ hop = ok_is made hop (last_chosen (several && is_zero ip) (Ok made) (record { why = BadValue; field = 7 }) hop e) in
    subst IsTypedHop is ((proper.0, h ip refl), proper.1)

typed_hop_on : (several : Bool) (o : Option IfName) (a : Option Ip) (hop : RowHop) → ((on : IfName) → o ≡ Some on → IsProperIfName on × (on_switch (Some on) ≡ Some on)) → ((ip : Ip) → a ≡ Some ip → IsProperIp ip) → hop_or_why several o a ≡ Ok hop → IsTypedHop hop
typed_hop_on several None a hop proper h e = cc
typed_hop_on several (Some on) a hop proper h e = typed_hop_at several on a hop (proper on refl) h e

typed_hop : (several : Bool) (ip on : List ℕ) (hop : RowHop) → hop_of_texts several ip on ≡ Ok hop → IsTypedHop hop
typed_hop several ip on hop e = typed_hop_on several (on_switch (if_name_of on)) (ip_of ip) hop (proper_on_switch on) (IsProperIp-ip_of ip) e

typed_weighted : (several : Bool) (ip on weight : List ℕ) (hop : RowHop × ℕ) → weighted_hop several ip on weight ≡ Ok hop → IsTypedHop hop.0
typed_weighted several ip on weight hop e =
    let parts = both_hold (hop_of_texts several ip on) (λ hop. and_then (weight_of weight) (λ weight. Ok (hop, weight))) hop e in
    let weighed = both_hold (weight_of weight) (λ weight. Ok (parts.0, weight)) hop parts.2 in
    subst (λ h. IsTypedHop h.0) (ok_is (parts.0, weighed.0) hop weighed.2) (typed_hop several ip on parts.0 parts.1)

typed_hops : (several : Bool) (hops : List (RowHop × ℕ)) (ips names weights : List (List ℕ)) (all : List (RowHop × ℕ)) → AreTypedHops hops → hops_with several hops ips names weights ≡ Ok all → AreTypedHops all
typed_hops several hops [] names weights all h e = let is : hops ≡ all = cc in subst AreTypedHops is h
typed_hops several hops (ip ∷ ips) [] weights all h e = let is : hops ≡ all = cc in subst AreTypedHops is h
typed_hops several hops (ip ∷ ips) (on ∷ names) weights all h e =
    let parts = both_hold (weighted_hop several ip on (first_part weights)) (λ hop. hops_with several (put_row_hop hops hop.0 hop.1) ips names (other_parts weights)) all e in
    let hop = parts.0 in
    typed_hops several (put_row_hop hops hop.0 hop.1) ips names (other_parts weights) all (AllByRecursion-put_row_hop (λ h. IsTypedHop h.0) hops hop.0 hop.1 (typed_weighted several ip on (first_part weights) hop parts.1) (λ h typed. typed) h) parts.2

typed_hops_of : (ips names : List (List ℕ)) (weights : List ℕ) (all : List (RowHop × ℕ)) → hops_of_texts ips names weights ≡ Ok all → AreTypedHops all
typed_hops_of ips names weights all e =
    let parts = both_hold (counts_of (length ips) (length names) weights) (λ _. hops_with (ltb 1 (length ips)) [] ips names (parts_at 44 weights)) all e in
    typed_hops (ltb 1 (length ips)) [] ips names (parts_at 44 weights) all tt parts.2

-- a target whose interface or hops are proper
abbrev pub IsTypedTarget : RouteRow → Type 0
IsTypedTarget route.Drop = Unit {0}
IsTypedTarget (route.Direct on) = IsProperIfName on
IsTypedTarget (route.Hops hops) = AreTypedHops hops

typed_target : (hops : List (RowHop × ℕ)) → AreTypedHops hops → IsTypedTarget (target_of_hops hops)
typed_target [] h = h
typed_target (hop ∷ []) h = elim (is_zero hop.0.ip) as (λ b. IsTypedTarget (cond b (route.Direct hop.0.on) (route.Hops ((hop.0, 1) ∷ [])))) [ true ↦ h.0.0.0 | false ↦ h ]
typed_target (hop ∷ other ∷ others) h = h

typed_forwarding : (fields : Pairs) (target : RouteRow) → route_hops_of fields ≡ Ok target → IsTypedTarget target
typed_forwarding fields target e =
    let weights = unwrap_or (value_of (codes "weight") fields) [] in
    let ips = both_hold (field_filled 7 (value_of (codes "nexthop") fields)) (λ ips. and_then (field_filled 8 (value_of (codes "ifname") fields)) (λ names. and_then (hops_of_texts (parts_at 44 ips) (parts_at 44 names) weights) (λ hops. Ok (target_of_hops hops)))) target e in
    let names = both_hold (field_filled 8 (value_of (codes "ifname") fields)) (λ names. and_then (hops_of_texts (parts_at 44 ips.0) (parts_at 44 names) weights) (λ hops. Ok (target_of_hops hops))) target ips.2 in
    let hops = both_hold (hops_of_texts (parts_at 44 ips.0) (parts_at 44 names.0) weights) (λ hops. Ok (target_of_hops hops)) target names.2 in
    let is : target_of_hops hops.0 ≡ target = ok_is (target_of_hops hops.0) target hops.2 in
    subst IsTypedTarget is (typed_target hops.0 (typed_hops_of (parts_at 44 ips.0) (parts_at 44 names.0) weights hops.0 hops.1))

typed_route_target : (drops : Bool) (fields : Pairs) (target : RouteRow) → route_target drops fields ≡ Ok target → IsTypedTarget target
typed_route_target true fields target e = let is : route.Drop ≡ target = cc in subst IsTypedTarget is tt
typed_route_target false fields target e = typed_forwarding fields target e

typed_route : (fields : Pairs) (target : RouteRow) → route_row_of fields ≡ Ok target → IsTypedTarget target
typed_route fields target e = let drops = both_hold (drops_of fields) (λ d. route_target d fields) target e in typed_route_target drops.0 fields target drops.2

proper_hops : (hops : List (RowHop × ℕ)) → AreTypedHops hops → AreProperKeys (map (λ h. key.Neigh h.0.on h.0.ip) hops)
proper_hops [] h = tt
proper_hops (hop ∷ hops) h = (IsProperKey-typed (key.Neigh hop.0.on hop.0.ip) h.0, proper_hops hops h.1)

proper_targets : (target : RouteRow) → IsTypedTarget target → AreProperKeys (route_names target)
proper_targets route.Drop h = tt
proper_targets (route.Direct on) h = (IsProperKey-typed (key.Intf on) h, tt)
proper_targets (route.Hops hops) h = proper_hops hops h

AreProperKeys-append : (ks ls : List Key) → AreProperKeys ks → AreProperKeys ls → AreProperKeys (ks ++ ls)
AreProperKeys-append [] ls h more = more
AreProperKeys-append (k ∷ ks) ls h more = (h.0, AreProperKeys-append ks ls h.1 more)

proper_base : (on : IfName) → IsProperIfName on → AreProperKeys (base_names on)
proper_base (name.Ethernet port) h = (IsProperKey-typed (key.Port port) h, tt)
proper_base (name.Vlan vlan) h = (IsProperKey-typed (key.Vlan vlan) h, tt)
proper_base (name.Loopback number) h = tt

proper_router : (v : Vrf) → IsProperVrf v → AreProperKeys (router_names v)
proper_router vrf.Default h = tt
proper_router (vrf.Named n) h = (IsProperKey-typed (key.Vrf n) h, tt)

-- the router that a word names is proper
proper_named : (o : Option VrfName) (v : Vrf) → ((n : VrfName) → o ≡ Some n → IsProperVrfName n) → option_map vrf.Named o ≡ Some v → IsProperVrf v
proper_named None v proper e = cc
proper_named (Some n) v proper e = let is : vrf.Named n ≡ v = cc in subst IsProperVrf is (proper n refl)

proper_vrf_of : (text : List ℕ) (v : Vrf) → vrf_of text ≡ Some v → IsProperVrf v
proper_vrf_of text v e = by (bytes_eq text [] || bytes_eq text (codes "default")) e
  where
    by : (b : Bool) → cond b (Some vrf.Default) (option_map vrf.Named (vrf_name_of text)) ≡ Some v → IsProperVrf v
    by true e = let is : vrf.Default ≡ v = cc in subst IsProperVrf is tt
    by false e = proper_named (vrf_name_of text) v (IsProperVrfName-vrf_name_of text) e

proper_intf : (on : IfName) (v : Vrf) → IsProperIfName on → IsProperVrf v → AreProperKeys (intf_names on v)
proper_intf on v h routed = AreProperKeys-append (base_names on) (router_names v) (proper_base on h) (proper_router v routed)

intf_in-is : (o : Option Vrf) (r : Row) → intf_in o ≡ Ok r → (v : Vrf) × (o ≡ Some v) × (row.Intf v ≡ r)
intf_in-is None r e = cc
intf_in-is (Some v) r e = (v, refl, ok_is (row.Intf v) r e)

-- an interface's row has a proper router
in_proper : (o : Option (List ℕ)) (r : Row) → in_router o ≡ Ok r → (v : Vrf) × IsProperVrf v × (row.Intf v ≡ r)
in_proper None r e = (vrf.Default, tt, ok_is (row.Intf vrf.Default) r e)
in_proper (Some text) r e = let read = intf_in-is (vrf_of text) r e in (read.0, proper_vrf_of text read.0 read.1, read.2)

-- what a row of a proper key names are proper keys
pub AreProperKeys-names_of : (plan : Ports) (k : Key) (fields : Pairs) (r : Row) → IsProperKey k → row_of plan k fields ≡ Ok r → AreProperKeys (names_of k r)
AreProperKeys-names_of plan (key.Port port) fields r h e = tt
AreProperKeys-names_of plan (key.Vlan vlan) fields r h e = tt
AreProperKeys-names_of plan (key.Vrf n) fields r h e = tt
AreProperKeys-names_of plan (key.Member vlan port) fields r h e = (IsProperKey-typed (key.Vlan vlan) h.parts.0, (IsProperKey-typed (key.Port port) h.parts.1, tt))
AreProperKeys-names_of plan (key.Intf on) fields r h e = let read = in_proper (value_of (codes "vrf_name") fields) r e in subst (λ z. AreProperKeys (names_of_intf on z)) read.2 (proper_intf on read.0 h.parts read.1)
AreProperKeys-names_of plan (key.Addr on ip len) fields r h e = (IsProperKey-typed (key.Intf on) h.parts.0, tt)
AreProperKeys-names_of plan (key.Neigh on ip) fields r h e = (IsProperKey-typed (key.Intf on) h.parts.0, tt)
AreProperKeys-names_of plan (key.Route v prefix) fields r h e =
    let parts = both_hold (route_row_of fields) (λ target. Ok (row.Route target)) r e in
    let is : row.Route parts.0 ≡ r = ok_is (row.Route parts.0) r parts.2 in
    subst (λ x. AreProperKeys (router_names v ++ names_of_route x)) is (AreProperKeys-append (router_names v) (route_names parts.0) (proper_router v h.parts.0) (proper_targets parts.0 (typed_route fields parts.0 parts.1)))
AreProperKeys-names_of plan (key.Other text) fields r h e = tt

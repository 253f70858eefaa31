-- an operation makes few calls
use Rattle.std.proofs.Common.{◌≡◌, ◌+◌, ◌≤◌, ◌∷◌, ℕ, Bool, true, false, List, [], length, Option, None, Some, if◌then◌else◌, refl, ap, arith}
use Rattle.std.proofs.lemmas.List.{length-append}
use Rattle.std.proofs.lemmas.Option.{same_Some}
use Rattle.swss_types.specs.declared.interface.IfName.{IfName}
use Rattle.swss_types.specs.declared.interface.IfName.TheVariants as on
use Rattle.swss_types.specs.declared.address.Ip.{Ip}
use Rattle.swss_types.specs.declared.vrf.Vrf.{Vrf}
use Rattle.swss_types.specs.Vrf.{same_vrf}
use Rattle.table_schema.specs.Fields.{Pairs}
use Rattle.table_schema.specs.Plan.{Ports}
use Rattle.table_schema.specs.declared.key.Key.{Key}
use Rattle.table_schema.specs.declared.key.Key.TheVariants as key
use Rattle.table_schema.specs.declared.row.RouteRow.{RouteRow}
use Rattle.table_schema.specs.declared.row.RouteRow.TheVariants as route
use Rattle.table_schema.specs.declared.row_hop.RowHop.{RowHop}
use Rattle.sai_types.specs.declared.hop.Base.{Base}
use Rattle.sai_types.specs.declared.weight.WHop.{WHop}
use Rattle.sai_types.specs.declared.thing.Thing.{Thing}
use Rattle.sai_types.specs.declared.thing.Thing.TheVariants as thing
use Rattle.sai_types.specs.Alike.{IsIn}
use Rattle.sai_types.specs.Hop.{put_hop}
use Rattle.sai_types.proofs.Things.{both_mapped}
use Rattle.switch_model.specs.Good.{good_row}
use Rattle.switch_model.specs.Placed as row
use Rattle.switch_model.specs.Placed.{Placed as Row, bare}
use Rattle.switch_model.specs.Things.{base_of, hops_of, lane_of, members_of, whop_of}
use Rattle.switch_model.proofs.Members.{members_count}
use Rattle.row_layout.specs.Operations.{Change, Set, going, make_all, own_changes, own_sets, thing_of_port, same_thing, set_all, set_to, shared_going, take_all, uses_of}
use Rattle.row_layout.specs.Rows as owner
use Rattle.row_layout.specs.Rows.{Owner, from, goal_of, own_things}
use Rattle.row_layout.specs.Shared.{address_uses, group_by, route_uses, shared_things, uses}
use Rattle.row_layout.proofs.Members.{from_in, only}
use Rattle.switch_machine.specs.Flights.{MachineFlight, Machine}
use Rattle.switch_machine.specs.Operations.{MayBegin, built_first}
use Rattle.machine_laws.proofs.Completing.{going_length}
use Rattle.machine_laws.proofs.Fitting.{hop_count, hops-few, put-few}

-- ---- lists of changes

make_length : (ts : List Thing) (rest : List Change) → length (make_all ts rest) ≡ length ts + length rest
make_length [] rest = omega arith
make_length (t ∷ ts) rest = let more = make_length ts rest in omega (arith, more)

take_length : (ts : List Thing) (rest : List Change) → length (take_all ts rest) ≡ length ts + length rest
take_length [] rest = omega arith
take_length (t ∷ ts) rest = let more = take_length ts rest in omega (arith, more)

set_few : (t u : Thing) (rest : List Change) → length (set_to t u rest) ≤ length rest + 1
set_few t u rest = by (same_thing t u)
  where
    by : (b : Bool) → length (if b then rest else Set u ∷ rest) ≤ length rest + 1
    by true = omega arith
    by false = omega arith

sets_few : (ts us : List Thing) → length (set_all ts us) ≤ length ts
sets_few [] us = omega arith
sets_few (t ∷ ts) [] = omega arith
sets_few (t ∷ ts) (u ∷ us) =
    let one = set_few t u (set_all ts us) in
    let rest = sets_few ts us in
    omega (arith, one, rest)

from_few : {X Y : Type 0} (n : ℕ) (o : Option X) (f : X → List Y) → ((x : X) → length (f x) ≤ n) → length (from o f) ≤ n
from_few n None f few = omega arith
from_few n (Some x) f few = few x

-- ---- a row's own things

-- a port is set three times at most, a neighbour brings two things, and each other row one
abbrev most_own : Key → ℕ
most_own (key.Route v prefix) = 1
most_own _ = 3

own_few : (plan : Ports) (k : Key) (r : Row) → length (own_things plan k r) ≤ most_own k
own_few plan (key.Port port) (row.Port r) = from_few 3 (lane_of plan port) (λ lane. thing.Port (record { lanes = r.lanes; speed = r.speed; mtu = r.mtu; up = r.up }) ∷ []) (λ lane. omega arith)
own_few plan (key.Vlan vlan) row.Vlan = omega arith
own_few plan (key.Vrf n) row.Vrf = omega arith
own_few plan (key.Member vlan port) (row.Member tagging) = from_few 3 (lane_of plan port) (λ lane. thing.VlanMember vlan lane tagging ∷ []) (λ lane. omega arith)
own_few plan (key.Intf n) (row.Intf v) = from_few 3 (base_of plan n) (λ b. thing.Rif b v ∷ []) (λ b. omega arith)
own_few plan (key.Neigh n ip) (row.Neigh mac) = from_few 3 (base_of plan n) (λ b. thing.Neighbor (record { on = b; ip = ip }) mac ∷ thing.NextHop (record { on = b; ip = ip }) ∷ []) (λ b. omega arith)
own_few plan (key.Route v prefix) (row.Route r) = from_few 1 (goal_of plan r) (λ g. thing.Route v prefix g ∷ []) (λ g. omega arith)
own_few plan _ _ = omega arith

going_few : (plan : Ports) (k : Key) (r : Row) → length (going plan k r) ≤ most_own k
going_few plan (key.Neigh n ip) (row.Neigh mac) = from_few 3 (base_of plan n) (λ b. thing.NextHop (record { on = b; ip = ip }) ∷ thing.Neighbor (record { on = b; ip = ip }) mac ∷ []) (λ b. omega arith)
going_few plan k r = own_few plan k r

own_sets_few : (plan : Ports) (k : Key) (a r : Row) → length (own_sets plan k a r) ≤ most_own k
own_sets_few plan (key.Port port) (row.Port a) (row.Port r) =
    let last = set_to (thing_of_port a.lanes r.speed r.mtu a.up) (thing_of_port a.lanes r.speed r.mtu r.up) [] in
    let more = set_to (thing_of_port a.lanes r.speed a.mtu a.up) (thing_of_port a.lanes r.speed r.mtu a.up) last in
    let one = set_few (thing_of_port a.lanes r.speed r.mtu a.up) (thing_of_port a.lanes r.speed r.mtu r.up) [] in
    let two = set_few (thing_of_port a.lanes r.speed a.mtu a.up) (thing_of_port a.lanes r.speed r.mtu a.up) last in
    let three = set_few (thing_of_port a.lanes a.speed a.mtu a.up) (thing_of_port a.lanes r.speed a.mtu a.up) more in
    omega (arith, one, two, three)
own_sets_few plan (key.Intf n) (row.Intf v) (row.Intf w) = by (same_vrf v w) (base_of plan n)
  where
    by : (b : Bool) (o : Option Base) → length (if b then [] else take_all (from o (λ b. thing.Rif b v ∷ [])) (make_all (from o (λ b. thing.Rif b w ∷ [])) [])) ≤ 3
    by true o = omega arith
    by false None = omega arith
    by false (Some b) = omega arith
own_sets_few plan k a r =
    let sets = sets_few (own_things plan k a) (own_things plan k r) in
    let own = own_few plan k a in
    omega (arith, sets, own)

own_changes_few : (plan : Ports) (k : Key) (a r : Option Row) → length (own_changes plan k a r) ≤ most_own k
own_changes_few plan k None None = omega arith
own_changes_few plan k None (Some r) = let own = own_few plan k r in let number = make_length (own_things plan k r) [] in omega (arith, own, number)
own_changes_few plan k (Some a) None = let own = going_few plan k a in let number = take_length (going plan k a) [] in omega (arith, own, number)
own_changes_few plan k (Some a) (Some r) = own_sets_few plan k a r

-- ---- what a row shares

-- a group with a member for each hop; an own address or a bridge port
abbrev most_shared : Key → ℕ
most_shared (key.Route v prefix) = 129
most_shared _ = 1

-- a row reads
abbrev HasFields : Ports → Key → Row → Type 0
HasFields plan k r = (fields : Option Pairs) × (good_row plan k fields ≡ Some (bare r))

hops_length : (plan : Ports) (hops : List (RowHop × ℕ)) (out : List WHop) → hops_of plan hops ≡ Some out → length out ≤ length hops
hops_length plan [] out h = let same = ap length (same_Some [] out h) in omega (arith, same)
hops_length plan (x ∷ xs) out h =
    let m = both_mapped put_hop (hops_of plan xs) (whop_of plan x) out h in
    let rest = hops_length plan xs m.0 m.2 in
    let one = put-few m.0 m.1 in
    let same = ap length m.4 in
    omega (arith, rest, one, same)

group_few : (n : ℕ) (o : Option (List WHop)) (p : Owner) → ((out : List WHop) → o ≡ Some out → length out ≤ n) → IsIn p (group_by o) → length (shared_things p) ≤ n + 1
group_few n None p few h = elim h [ ]
group_few n (Some []) p few h = elim h [ ]
group_few n (Some (x ∷ [])) p few h = elim h [ ]
group_few n (Some (x ∷ y ∷ zs)) p few h = only (λ z. length (shared_things z) ≤ n + 1) p (owner.Group (x ∷ y ∷ zs)) bound h
  where
    bound : length (shared_things (owner.Group (x ∷ y ∷ zs))) ≤ n + 1
    bound =
        let number = members_count (x ∷ y ∷ zs) (x ∷ y ∷ zs) in
        let most = few (x ∷ y ∷ zs) refl in
        omega (arith, number, most)

route_few : (plan : Ports) (t : RouteRow) (p : Owner) → hop_count t ≤ 128 → IsIn p (route_uses plan t) → length (shared_things p) ≤ 129
route_few plan route.Drop p few h = elim h [ ]
route_few plan (route.Direct n) p few h = elim h [ ]
route_few plan (route.Hops hops) p few h = group_few 128 (hops_of plan hops) p (λ out e. let less = hops_length plan hops out e in omega (arith, less, few)) h

address_few : (plan : Ports) (n : IfName) (v : Vrf) (ip : Ip) (p : Owner) → IsIn p (address_uses plan n v ip) → length (shared_things p) ≤ 1
address_few plan (on.Ethernet port) v ip p h = let x = from_in (lane_of plan port) (λ lane. owner.Own v ip ∷ []) p h in only (λ z. length (shared_things z) ≤ 1) p (owner.Own v ip) (omega arith) x.2
address_few plan (on.Vlan vlan) v ip p h = only (λ z. length (shared_things z) ≤ 1) p (owner.Own v ip) (omega arith) h
address_few plan (on.Loopback number) v ip p h = only (λ z. length (shared_things z) ≤ 1) p (owner.Own v ip) (omega arith) h

uses_few : (plan : Ports) (k : Key) (r : Row) (p : Owner) → HasFields plan k r → IsIn p (uses plan k r) → length (shared_things p) ≤ most_shared k
uses_few plan (key.Member vlan port) (row.Member tagging) p reads h = let x = from_in (lane_of plan port) (λ lane. owner.Bridge lane ∷ []) p h in only (λ z. length (shared_things z) ≤ 1) p (owner.Bridge x.0) (omega arith) x.2
uses_few plan (key.Addr n ip len) (row.Addr v) p reads h = address_few plan n v ip p h
uses_few plan (key.Route v prefix) (row.Route t) p reads h = route_few plan t p (hops-few plan v prefix reads.0 t reads.1) h
uses_few plan _ _ p reads h = elim h [ ]

going_same : (p : Owner) → length (shared_going p) ≡ length (shared_things p)
going_same (owner.OfRow k) = refl
going_same (owner.Bridge lane) = refl
going_same (owner.Own v ip) = refl
going_same (owner.Group hops) = let sum = length-append (members_of hops hops) (thing.Group hops ∷ []) in omega (arith, sum)

-- each row that the key has, if it has one, reads
abbrev pub HasReadRow : Ports → Key → Option Row → Type 0
HasReadRow plan k o = (r : Row) → o ≡ Some r → HasFields plan k r

shared_few : (plan : Ports) (k : Key) (o : Option Row) (p : Owner) → HasReadRow plan k o → IsIn p (uses_of plan k o) → length (shared_things p) ≤ most_shared k
shared_few plan k None p reads h = elim h [ ]
shared_few plan k (Some r) p reads h = uses_few plan k r p (reads r refl) h

-- ---- an operation

total : (k : Key) → most_shared k + most_own k + most_shared k ≤ 259
total (key.Route v prefix) = omega arith
total _ = omega arith

module _ (plan : Ports) (k : Key) (old new : Option Row) (old_reads : HasReadRow plan k old) (new_reads : HasReadRow plan k new) where
  built_few : (builds : Option Owner) → ((p : Owner) → builds ≡ Some p → IsIn p (uses_of plan k new)) → length (built_first builds (own_changes plan k old new)) ≤ most_shared k + most_own k
  built_few None of = let own = own_changes_few plan k old new in omega (arith, own)
  built_few (Some p) of =
      let own = own_changes_few plan k old new in
      let number = make_length (shared_things p) (own_changes plan k old new) in
      let shared = shared_few plan k new p new_reads (of p refl) in
      omega (arith, own, number, shared)

  gone_few : (leaves : Option Owner) → ((p : Owner) → leaves ≡ Some p → IsIn p (uses_of plan k old)) → going_length leaves ≤ most_shared k
  gone_few None of = omega arith
  gone_few (Some p) of =
      let number = take_length (shared_going p) [] in
      let same = going_same p in
      let shared = shared_few plan k old p old_reads (of p refl) in
      omega (arith, number, same, shared)

-- what is due for an operation that begins, and what it may retire, are at most 259 changes
pub operation-few : (plan : Ports) (m : Machine) (w : ℕ) (f : MachineFlight) (due : List Change) → MayBegin plan m w f due → HasReadRow plan f.key (m.board.applied f.key) → HasReadRow plan f.key f.new → length due + going_length f.leaves ≤ 259
operation-few plan m w f due begins old new =
    let x = begins.operation in
    let built = built_few plan f.key (m.board.applied f.key) f.new old new x.builds (λ p e. (x.built p e).0) in
    let gone = gone_few plan f.key (m.board.applied f.key) f.new old new f.leaves (λ p e. (begins.leaves p e).0) in
    let number = ap length x.is in
    let most = total f.key in
    omega (arith, built, gone, number, most)

-- what some conditions are for: where one is left out there is a state at which what holds between events would fall
use Rattle.std.proofs.Common.{◌≡◌, ◌⊎◌, ◌+◌, ◌≤◌, ◌∷◌, ◌∙◌, inl, inr, ℕ, true, List, [], Option, None, Some, option_map, refl, ap, arith}
use Rattle.swss_types.specs.declared.address.Ip.{Ip}
use Rattle.swss_types.specs.declared.address.Prefix.{Prefix}
use Rattle.swss_types.specs.declared.address.Family.TheVariants.{V4}
use Rattle.swss_types.specs.declared.interface.IfName.TheVariants as on
use Rattle.swss_types.specs.declared.vrf.Vrf.TheVariants as vrf
use Rattle.swss_types.specs.declared.tagging.Tagging.TheVariants.{Tagged}
use Rattle.table_schema.specs.Plan.{Ports, port_named}
use Rattle.table_schema.specs.declared.key.Key.{Key}
use Rattle.table_schema.specs.declared.key.Key.TheVariants as key
use Rattle.table_schema.specs.declared.write.Write.TheVariants as write
use Rattle.sai_types.specs.declared.ids.Rid.{Rid}
use Rattle.sai_types.specs.declared.body.Body.TheVariants as body
use Rattle.sai_types.specs.declared.body.Call.TheVariants as call
use Rattle.sai_types.specs.declared.body.Entry.TheVariants as entry
use Rattle.sai_types.specs.declared.kind.Kind.TheVariants as kind
use Rattle.sai_types.specs.declared.hop.Base.TheVariants as base
use Rattle.sai_types.specs.declared.weight.WHop.{WHop}
use Rattle.sai_types.specs.declared.thing.Goal.TheVariants as goal
use Rattle.sai_types.specs.declared.thing.Thing.{Thing}
use Rattle.sai_types.specs.declared.thing.Thing.TheVariants as thing
use Rattle.sai_types.specs.Names as name
use Rattle.sai_types.specs.After.{after_call}
use Rattle.sai_types.specs.Alike.{IsIn}
use Rattle.sai_types.specs.Objects.{used}
use Rattle.chip_layout.specs.Layout.{IsLaidOut, listed}
use Rattle.switch_model.specs.Placed as row
use Rattle.switch_model.specs.Placed.{Placed as Row}
use Rattle.row_layout.specs.Operations.{Change, Make}
use Rattle.row_layout.specs.Rows as owner
use Rattle.switch_machine.specs.Consistent.{IsConsistent, IsCurrent, IsOrderly}
use Rattle.switch_machine.specs.Events.{empty_machine}
use Rattle.switch_machine.specs.Flights.{MachineBoard, MachineFlight, Machine, StandsIn, goes_over, put}
use Rattle.switch_machine.specs.Places.{makes, missing}
use Rattle.switch_machine.specs.Written.{Written, fields_after, good_of}
use Rattle.switch_machine.proofs.Splits.{IsPut, New, Old, put_by}

abbrev flight_of : Key → Option Row → MachineFlight
flight_of k new = record { key = k; new = new; leaves = None; retires = None; goes = goes_over k None new }

-- ---- a row goes although a row that is to come names it: VLAN 5, and a member of it

abbrev going_vlan : MachineBoard
going_vlan = record { applied = λ k. None; flights = put 1 (Some (flight_of (key.Vlan 5) None)) (put 0 (Some (flight_of (key.Member 5 0) (Some (row.Member Tagged)))) (λ w. None)) }

named-row_stays : (plan : Ports) → IsOrderly plan going_vlan → ⊥
named-row_stays plan x = (x.named (key.Member 5 0) (key.Vlan 5) (row.Member Tagged) (inr (0, flight_of (key.Member 5 0) (Some (row.Member Tagged)), refl, refl, refl)) (inl refl)).stays 1 (flight_of (key.Vlan 5) None) refl refl refl

-- ---- what rows share is retired although another row uses it: the address of VLAN 5 and of VLAN 6

abbrev one_ip : Ip
one_ip = record { family = V4; bits = 167772161 }

abbrev shared_address : Key → Option Row
shared_address (key.Addr (on.Vlan v) ip len) = Some (row.Addr vrf.Default)
shared_address _ = None

abbrev retiring_address : MachineBoard
retiring_address = record { applied = shared_address; flights = put 0 (Some (record { key = key.Addr (on.Vlan 5) one_ip 24; new = None; leaves = None; retires = Some (owner.Own vrf.Default one_ip); goes = true })) (λ w. None) }

other_rests : (w : ℕ) (f : MachineFlight) → IsPut 0 w (Some (record { key = key.Addr (on.Vlan 5) one_ip 24; new = None; leaves = None; retires = Some (owner.Own vrf.Default one_ip); goes = true })) (λ v. None) (Some f) → f.key ≡ key.Addr (on.Vlan 6) one_ip 24 → ⊥
other_rests w f (New same e) is = absurd (let one : key.Addr (on.Vlan 5) one_ip 24 ≡ f.key = cc in let two = one ∙ is in cc)
other_rests w f (Old other e) is = absurd cc

used-address_stays : (plan : Ports) → IsOrderly plan retiring_address → ⊥
used-address_stays plan x = x.unused 0 (record { key = key.Addr (on.Vlan 5) one_ip 24; new = None; leaves = None; retires = Some (owner.Own vrf.Default one_ip); goes = true }) (key.Addr (on.Vlan 6) one_ip 24) (owner.Own vrf.Default one_ip) refl refl (inr ((λ w f at is. other_rests w f (put_by 0 w (Some (record { key = key.Addr (on.Vlan 5) one_ip 24; new = None; leaves = None; retires = Some (owner.Own vrf.Default one_ip); goes = true })) (λ v. None) (Some f) at) is), inl refl))

-- ---- two operations have one key

abbrev two_flights : MachineBoard
two_flights = record { applied = λ k. None; flights = put 1 (Some (flight_of (key.Vlan 5) (Some row.Vlan))) (put 0 (Some (flight_of (key.Vlan 5) (Some row.Vlan))) (λ w. None)) }

one-flight_a_key : (plan : Ports) → IsOrderly plan two_flights → ⊥
one-flight_a_key plan x = let same = x.one 0 1 (flight_of (key.Vlan 5) (Some row.Vlan)) (flight_of (key.Vlan 5) (Some row.Vlan)) refl refl refl in absurd (omega (arith, same))

-- ---- the places that workers keep are not counted: room for one VLAN, and two workers that make one each

abbrev makes_vlan : ℕ → List Change
makes_vlan n = Make (thing.Vlan n) ∷ []

abbrev one_busy : Machine
one_busy = record { board = record { applied = λ k. None; flights = put 0 (Some (flight_of (key.Vlan 5) (Some row.Vlan))) (λ w. None) }; due = put 0 (makes_vlan 5) (λ w. []); reserved = put 0 (makes_vlan 5) (λ w. []); stands = [] }

kept-places_count : (used [] kind.Vlan + makes kind.Vlan (makes_vlan 6) ≤ 1) × (used [] kind.Vlan + missing 2 one_busy kind.Vlan + makes kind.Vlan (makes_vlan 6) ≤ 1 → ⊥)
kept-places_count = (omega arith, λ h. absurd (omega (arith, h)))

-- ---- a key of which a write was popped is not to sync: VLAN 5 has a row, but neither it nor an operation is there

abbrev popped_vlan : Written
popped_vlan = record { taken = write.Set (key.Vlan 5) [] ∷ []; rows = λ k. fields_after (write.Set (key.Vlan 5) []) k None; waiting = λ k o. o }

popped-key_is_to_sync : (plan : Ports) → IsIn (key.Vlan 5) [] ⊎ IsCurrent empty_machine.board (good_of plan popped_vlan) (key.Vlan 5) → ⊥
popped-key_is_to_sync plan (inl h) = elim h [ ]
popped-key_is_to_sync plan (inr (inl x)) = let no = x.1 in absurd cc
popped-key_is_to_sync plan (inr (inr x)) = let no = x.2 in absurd cc

-- ---- a call that failed took effect, and the core goes on as if it had not: VLAN 5 stands on the chip, and nowhere else

fault-is_told : IsLaidOut (listed []) (after_call 1 [] (call.Create (body.Vlan 5))) → ⊥
fault-is_told x = elim (x.tied (entry.Oid (record { 0 = 1 })) (body.Vlan 5) refl).2 [ ]

-- ---- a route points at its group before the last member is made: the second of two neighbours on VLAN 5

abbrev hop_on : ℕ → WHop
hop_on n = record { hop = record { on = base.Vlan 5; ip = record { family = V4; bits = n } }; weight = 1 }

abbrev two_hops : List WHop
two_hops = hop_on 1 ∷ hop_on 2 ∷ []

abbrev all_routes : Prefix
all_routes = record { ip = record { family = V4; bits = 0 }; len = 0 }

abbrev id_of : ℕ → Rid
id_of n = record { 0 = n }

abbrev half_built : Machine
half_built = record { board = empty_machine.board; due = λ w. []; reserved = λ w. []; stands = (id_of 0, thing.Route vrf.Default all_routes (goal.Group two_hops)) ∷ (id_of 1, thing.Group two_hops) ∷ (id_of 2, thing.GroupMember two_hops (hop_on 1)) ∷ [] }

last-member_stands : (plan : Ports) → IsConsistent plan half_built → ⊥
last-member_stands plan x = none (x.steady (key.Route vrf.Default all_routes) (owner.Group two_hops) (thing.Route vrf.Default all_routes (goal.Group two_hops)) (thing.GroupMember two_hops (hop_on 2)) (name.Group two_hops) (id_of 0, inl refl) refl (inl refl) refl tt (inr (inr (inl refl))))
  where
    none : StandsIn half_built (thing.GroupMember two_hops (hop_on 2)) → ⊥
    none (i, inl e) = let t = ap (λ (z : Rid × Thing). z.1) e in cc
    none (i, inr (inl e)) = let t = ap (λ (z : Rid × Thing). z.1) e in cc
    none (i, inr (inr (inl e))) = let t : thing.GroupMember two_hops (hop_on 2) ≡ thing.GroupMember two_hops (hop_on 1) = ap (λ (z : Rid × Thing). z.1) e in let h : hop_on 2 ≡ hop_on 1 = cc in let n = ap (λ (z : WHop). z.hop.ip.bits) h in absurd (omega (arith, n))
    none (i, inr (inr (inr h))) = elim h [ ]

-- ---- a bridge port goes before its member: the first port, in VLAN 5

abbrev no_bridge_port : Machine
no_bridge_port = record { board = empty_machine.board; due = λ w. []; reserved = λ w. []; stands = (id_of 0, thing.VlanMember 5 0 Tagged) ∷ [] }

bridge-port_stands : (plan : Ports) (port : ℕ) → port_named plan 0 ≡ Some port → IsConsistent plan no_bridge_port → ⊥
bridge-port_stands plan port named x = none (x.steady (key.Member 5 port) (owner.Bridge 0) (thing.VlanMember 5 0 Tagged) (thing.BridgePort 0) (name.BridgePort 0) (id_of 0, inl refl) (ap (option_map (λ p. owner.OfRow (key.Member 5 p))) named) (inr (inl refl)) refl tt (inl refl))
  where
    none : StandsIn no_bridge_port (thing.BridgePort 0) → ⊥
    none (i, inl e) = let t = ap (λ (z : Rid × Thing). z.1) e in cc
    none (i, inr h) = elim h [ ]

-- ---- an operation is kept over a restart: the VLAN that it is about to make stands already in the view

abbrev kept_flight : Machine
kept_flight = record { board = record { applied = λ k. None; flights = put 0 (Some (flight_of (key.Vlan 5) (Some row.Vlan))) (λ w. None) }; due = put 0 (makes_vlan 5) (λ w. []); reserved = put 0 (makes_vlan 5) (λ w. []); stands = (id_of 1, thing.Vlan 5) ∷ [] }

no-flight_over_restarts : (plan : Ports) → IsConsistent plan kept_flight → ⊥
no-flight_over_restarts plan x = (x.runs 0 (flight_of (key.Vlan 5) (Some row.Vlan)) refl).0.fresh (thing.Vlan 5) (id_of 1, inl refl) refl

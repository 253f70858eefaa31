-- ports that stand have lanes of the plan, and routes have proper prefixes; so it is with the calls that are due
use Rattle.std.proofs.Common.{◌≡◌, inl, inr, ℕ, List, Some, sym, subst}
use Rattle.swss_types.specs.Address.{IsProperPrefix}
use Rattle.swss_types.specs.declared.address.Prefix.{Prefix}
use Rattle.swss_types.specs.declared.vrf.Vrf.{Vrf}
use Rattle.table_schema.specs.Plan.{Ports, IsPlan}
use Rattle.table_schema.specs.declared.key.Key.{Key}
use Rattle.table_schema.specs.declared.key.Key.TheVariants as key
use Rattle.sai_types.specs.declared.ids.Rid.{Rid}
use Rattle.sai_types.specs.declared.body.Body.{Body}
use Rattle.sai_types.specs.declared.body.Call.{Call}
use Rattle.sai_types.specs.declared.thing.Goal.{Goal}
use Rattle.sai_types.specs.declared.thing.Thing.{Thing}
use Rattle.sai_types.specs.declared.thing.Thing.TheVariants as thing
use Rattle.sai_types.specs.Alike.{IsIn}
use Rattle.chip_layout.specs.Bodies.{IsBody, body_with}
use Rattle.chip_layout.specs.Layout.{Has, Layout, listed}
use Rattle.row_layout.specs.Rows as owner
use Rattle.row_layout.specs.Rows.{Owner, OfRow, own_things}
use Rattle.row_layout.specs.Shared.{shared_things}
use Rattle.switch_model.specs.Placed as row
use Rattle.switch_model.specs.Placed.{Placed as Row}
use Rattle.row_layout.specs.Operations.{Change, Make, Set, Take}
use Rattle.switch_machine.specs.Changes.{IsCall}
use Rattle.switch_machine.specs.Events.{SwitchState, IsDueCall, IsSafe}
use Rattle.switch_machine.specs.Flights.{Can, Fits, IsFinal, StandsIn}
use Rattle.switch_machine.specs.Tables.{TableLaws}
use Rattle.switch_machine.proofs.Calling.{IsPlannedPort, port_planned, shared_no_port}
use Rattle.switch_machine.proofs.Kept.{it_can}
use Rattle.switch_machine.proofs.Moving.{fit_of}
use Rattle.switch_machine.proofs.Splits.{own_row_in}
use Rattle.switch_machine.proofs.Tabled.{tabled}
use Rattle.restart_laws.specs.Chips.{IsPlannedBody, IsPlannedCall}

abbrev pub IsPlannedThing : Ports → Thing → Type 0
IsPlannedThing plan (thing.Port p) = IsPlannedPort plan p.lanes
IsPlannedThing plan (thing.Route v prefix g) = IsProperPrefix prefix
IsPlannedThing plan _ = Unit {0}

pub body-planned : (plan : Ports) (t : Thing) (i j : Rid) → IsPlannedThing plan t → IsPlannedBody plan (body_with t i j)
body-planned plan (thing.Port p) i j h = h
body-planned plan (thing.Rif on v) i j h = tt
body-planned plan (thing.Route v prefix g) i j h = h
body-planned plan (thing.Vlan v) i j h = tt
body-planned plan (thing.VirtualRouter label) i j h = tt
body-planned plan (thing.BridgePort v) i j h = tt
body-planned plan (thing.VlanMember v w x) i j h = tt
body-planned plan (thing.Own v ip) i j h = tt
body-planned plan (thing.Neighbor v w) i j h = tt
body-planned plan (thing.NextHop v) i j h = tt
body-planned plan (thing.Group v) i j h = tt
body-planned plan (thing.GroupMember v w) i j h = tt

pub planned-body : (plan : Ports) (t : Thing) (i j : Rid) → IsPlannedBody plan (body_with t i j) → IsPlannedThing plan t
planned-body plan (thing.Port p) i j h = h
planned-body plan (thing.Rif on v) i j h = tt
planned-body plan (thing.Route v prefix g) i j h = h
planned-body plan (thing.Vlan v) i j h = tt
planned-body plan (thing.VirtualRouter label) i j h = tt
planned-body plan (thing.BridgePort v) i j h = tt
planned-body plan (thing.VlanMember v w x) i j h = tt
planned-body plan (thing.Own v ip) i j h = tt
planned-body plan (thing.Neighbor v w) i j h = tt
planned-body plan (thing.NextHop v) i j h = tt
planned-body plan (thing.Group v) i j h = tt
planned-body plan (thing.GroupMember v w) i j h = tt

pub of-body : (plan : Ports) (layout : Layout Rid) (t : Thing) (b : Body Rid) → IsBody (Has layout) t b → IsPlannedThing plan t → IsPlannedBody plan b
of-body plan layout t b of h = subst (IsPlannedBody plan) (sym of.body_is) (body-planned plan t of.first of.second h)

pub by-body : (plan : Ports) (layout : Layout Rid) (t : Thing) (b : Body Rid) → IsBody (Has layout) t b → IsPlannedBody plan b → IsPlannedThing plan t
by-body plan layout t b of h = planned-body plan t of.first of.second (subst (IsPlannedBody plan) of.body_is h)

route_fits : (plan : Ports) (v : Vrf) (prefix : Prefix) (r : Row) → Fits plan (key.Route v prefix) r → IsProperPrefix prefix
route_fits plan v prefix (row.Route r) h = h.0
route_fits plan v prefix _ h = elim h [ ]

route_key : (v : Vrf) (prefix : Prefix) (k : Key) → Some (OfRow (key.Route v prefix)) ≡ Some (OfRow k) → key.Route v prefix ≡ k
route_key v prefix k h = cc

route_owner : (v : Vrf) (prefix : Prefix) (g : Goal) (o : Owner) → Some (OfRow (key.Route v prefix)) ≡ Some o → IsIn (thing.Route v prefix g) (shared_things o) → ⊥
route_owner v prefix g (owner.OfRow k) e h = elim h [ ]
route_owner v prefix g (owner.Bridge lane) e h = absurd cc
route_owner v prefix g (owner.Own w ip) e h = absurd cc
route_owner v prefix g (owner.Group hops) e h = absurd cc

module _ (plan : Ports) (tables : TableLaws plan) where
  pub own-planned : (k : Key) (r : Row) (t : Thing) → Fits plan k r → IsIn t (own_things plan k r) → IsPlannedThing plan t
  own-planned k r (thing.Port p) fit h = port_planned plan k r p fit h
  own-planned k r (thing.Rif on v) fit h = tt
  own-planned k r (thing.Route v prefix g) fit h = route_fits plan v prefix r (subst (λ z. Fits plan z r) (sym (route_key v prefix k (tables.own k r (thing.Route v prefix g) fit h))) fit)
  own-planned k r (thing.Vlan v) fit h = tt
  own-planned k r (thing.VirtualRouter label) fit h = tt
  own-planned k r (thing.BridgePort v) fit h = tt
  own-planned k r (thing.VlanMember v w x) fit h = tt
  own-planned k r (thing.Own v ip) fit h = tt
  own-planned k r (thing.Neighbor v w) fit h = tt
  own-planned k r (thing.NextHop v) fit h = tt
  own-planned k r (thing.Group v) fit h = tt
  own-planned k r (thing.GroupMember v w) fit h = tt

  pub shared-planned : (o : Owner) (t : Thing) → IsIn t (shared_things o) → IsPlannedThing plan t
  shared-planned o (thing.Port p) h = absurd (shared_no_port o p h)
  shared-planned o (thing.Rif on v) h = tt
  shared-planned o (thing.Route v prefix g) h = absurd (route_owner v prefix g o (tables.shared o (thing.Route v prefix g) h) h)
  shared-planned o (thing.Vlan v) h = tt
  shared-planned o (thing.VirtualRouter label) h = tt
  shared-planned o (thing.BridgePort v) h = tt
  shared-planned o (thing.VlanMember v w x) h = tt
  shared-planned o (thing.Own v ip) h = tt
  shared-planned o (thing.Neighbor v w) h = tt
  shared-planned o (thing.NextHop v) h = tt
  shared-planned o (thing.Group v) h = tt
  shared-planned o (thing.GroupMember v w) h = tt

-- the call that is due
module _ (plan : Ports) (is : IsPlan plan) (workers : ℕ) (capacities : List ℕ) (s : SwitchState) (kept : IsSafe plan workers capacities s) (c : Call Rid) (x : IsDueCall workers c s) where
  fits : (r : Row) → x.flight.new ≡ Some r → Fits plan x.flight.key r
  fits = fit_of plan (tabled plan is) s.machine kept.sound x.worker x.flight x.flying

  final_planned : (t : Thing) → IsFinal plan x.flight t → IsPlannedThing plan t
  final_planned t (inl h) = let r = own_row_in plan x.flight.key x.flight.new t h in own-planned plan (tabled plan is) x.flight.key r.0 t (fits r.0 r.1) r.2
  final_planned t (inr h) = shared-planned plan (tabled plan is) h.0 t h.2

  due_by : (d : Change) → Can plan x.flight (StandsIn s.machine) d → IsCall (listed s.machine.stands) d c → IsPlannedCall plan c
  due_by (Make t) can of = subst (IsPlannedCall plan) (sym of.is) (of-body plan (listed s.machine.stands) t of.body of.of (final_planned t can.final))
  due_by (Set t) can of = subst (IsPlannedCall plan) (sym of.is) tt
  due_by (Take n) can of = subst (IsPlannedCall plan) (sym of.is) tt

  pub due-planned : IsPlannedCall plan c
  due-planned = due_by x.change (it_can plan is workers capacities s kept c x) x.of

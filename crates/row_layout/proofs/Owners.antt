-- the name of a row's thing tells the row
use Rattle.std.proofs.Common.{◌≡◌, ◌==◌, inl, inr, ℕ, Bool, true, false, cond, List, [], ◌∷◌, slice_index, Some, option_map, if◌then◌else◌, refl, sym, ap, ◌∙◌}
use Rattle.std.specs.BTreeMap.{is_at}
use Rattle.std.specs.List.{AllByRecursion}
use Rattle.std.specs.Ordering.{nat_cmp}
use Rattle.std.proofs.lemmas.Bool.{eq-eqb, eqb-true, false≢true}
use Rattle.std.proofs.lemmas.Option.{same_Some}
use Rattle.swss_types.specs.Lanes.{IsLaneList}
use Rattle.swss_types.specs.declared.interface.IfName.{IfName}
use Rattle.swss_types.specs.declared.interface.IfName.TheVariants as on
use Rattle.swss_types.proofs.Proper.{mapped}
use Rattle.table_schema.specs.Plan.{Ports, IsPlan, HaveOwnLanes, has, has_lane, lanes_in_plan, port_named}
use Rattle.table_schema.specs.declared.key.Key.{Key}
use Rattle.table_schema.specs.declared.key.Key.TheVariants as key
use Rattle.sai_types.specs.declared.hop.Base.{Base}
use Rattle.sai_types.specs.declared.hop.Base.TheVariants as base
use Rattle.sai_types.specs.declared.weight.WHop.{WHop}
use Rattle.sai_types.specs.declared.thing.Thing.{Thing}
use Rattle.sai_types.specs.declared.thing.Thing.TheVariants as thing
use Rattle.sai_types.specs.Alike.{IsIn}
use Rattle.sai_types.specs.Named.{first_lane}
use Rattle.switch_model.specs.Placed as row
use Rattle.switch_model.specs.Placed.{Placed as Row}
use Rattle.switch_model.specs.Things.{base_of, lane_of, members_of}
use Rattle.sai_types.specs.Names.{name_of}
use Rattle.row_layout.specs.Rows as owner
use Rattle.row_layout.specs.Rows.{IsPlanned, Owner, goal_of, interface_on, own_things, owner_of}
use Rattle.row_layout.specs.Shared.{CanHold, shared_things}
use Rattle.row_layout.proofs.Members.{from_in, only, two}
use Rattle.switch_model.proofs.Planned.{has-first, lanes-planned, number-is, planned_lane}

named_step : (s t : Bool) (p : ℕ) (q : ℕ × List ℕ) (qs : Ports) (xs : List ℕ) → is_at (nat_cmp p) q.0 ≡ s → (slice_index q.1 0 == slice_index xs 0) ≡ t → IsLaneList q.1 → ((lane : ℕ) → has q.1 lane ≡ true → has_lane qs lane ≡ false) → (lanes_in_plan qs p ≡ Some xs → port_named qs (slice_index xs 0) ≡ Some p) → (lanes_in_plan qs p ≡ Some xs → has_lane qs (slice_index xs 0) ≡ true) → cond s (Some q.1) (lanes_in_plan qs p) ≡ Some xs → (if t then Some q.0 else port_named qs (slice_index xs 0)) ≡ Some p
named_step true true p q qs xs at first list apart rest there h = ap Some (sym (number-is p q.0 at))
named_step true false p q qs xs at first list apart rest there h = let is : q.1 ≡ xs = cc in absurd (false≢true (sym first ∙ eq-eqb (slice_index q.1 0) (slice_index xs 0) (ap (λ l. slice_index l 0) is)))
named_step false true p q qs xs at first list apart rest there h =
    let lane : slice_index q.1 0 ≡ slice_index xs 0 = eqb-true (slice_index q.1 0) (slice_index xs 0) first in
    absurd (false≢true (sym (apart (slice_index q.1 0) (has-first q.1 list)) ∙ ap (has_lane qs) lane ∙ there h))
named_step false false p q qs xs at first list apart rest there h = rest h

named_by : (plan : Ports) (p : ℕ) (xs : List ℕ) → AllByRecursion (λ q. IsLaneList q.1) plan → HaveOwnLanes plan → IsLaneList xs → lanes_in_plan plan p ≡ Some xs → port_named plan (slice_index xs 0) ≡ Some p
named_by [] p xs lists apart list h = absurd cc
named_by (q ∷ qs) p xs lists apart list h =
    named_step (is_at (nat_cmp p) q.0) (slice_index q.1 0 == slice_index xs 0) p q qs xs refl refl lists.0 apart.0
    (named_by qs p xs lists.1 apart.1 list)
    (λ g. planned_lane qs p xs (slice_index xs 0) g (has-first xs list)) h

module _ (plan : Ports) (is : IsPlan plan) where
  -- a port's first lane tells the port
  pub port_by : (p lane : ℕ) → lane_of plan p ≡ Some lane → port_named plan lane ≡ Some p
  port_by p lane h =
      let m = mapped first_lane (lanes_in_plan plan p) lane h in
      ap (port_named plan) (sym m.2) ∙ named_by plan p m.0 is.lanes is.apart (lanes-planned plan p m.0 is m.1) m.1

  pub interface_by : (n : IfName) (b : Base) → base_of plan n ≡ Some b → interface_on plan b ≡ Some n
  interface_by (on.Ethernet p) b h =
      let m = mapped base.Port (lane_of plan p) b h in
      ap (interface_on plan) (sym m.2) ∙ ap (option_map on.Ethernet) (port_by p m.0 m.1)
  interface_by (on.Vlan v) b h = let same : b ≡ base.Vlan v = cc in ap (interface_on plan) same
  interface_by (on.Loopback n) b h = absurd cc

  abbrev IsOwn : Key → Thing → Type 0
  IsOwn k t = owner_of plan (name_of t) ≡ Some (owner.OfRow k)

  -- a row's things are its own
  pub own : (k : Key) (r : Row) (t : Thing) → IsPlanned plan k r → IsIn t (own_things plan k r) → IsOwn k t
  own (key.Port port) (row.Port r) t planned h =
      only (IsOwn (key.Port port)) t _ (ap (option_map (λ p. owner.OfRow (key.Port p))) (port_by port (first_lane r.lanes) (ap (option_map first_lane) planned))) (from_in (lane_of plan port) _ t h).2
  own (key.Vlan vlan) row.Vlan t planned h = only (IsOwn (key.Vlan vlan)) t (thing.Vlan vlan) refl h
  own (key.Vrf label) row.Vrf t planned h = only (IsOwn (key.Vrf label)) t (thing.VirtualRouter label) refl h
  own (key.Member vlan port) (row.Member tagging) t planned h =
      let m = from_in (lane_of plan port) _ t h in
      only (IsOwn (key.Member vlan port)) t (thing.VlanMember vlan m.0 tagging) (ap (option_map (λ p. owner.OfRow (key.Member vlan p))) (port_by port m.0 m.1)) m.2
  own (key.Intf n) (row.Intf v) t planned h =
      let m = from_in (base_of plan n) _ t h in
      only (IsOwn (key.Intf n)) t (thing.Rif m.0 v) (ap (option_map (λ x. owner.OfRow (key.Intf x))) (interface_by n m.0 m.1)) m.2
  own (key.Neigh n ip) (row.Neigh mac) t planned h =
      let m = from_in (base_of plan n) _ t h in
      let named = ap (option_map (λ x. owner.OfRow (key.Neigh x ip))) (interface_by n m.0 m.1) in
      two (IsOwn (key.Neigh n ip)) t (thing.Neighbor (record { on = m.0; ip = ip }) mac) (thing.NextHop (record { on = m.0; ip = ip })) named named m.2
  own (key.Route v prefix) (row.Route r) t planned h =
      let m = from_in (goal_of plan r) _ t h in
      only (IsOwn (key.Route v prefix)) t (thing.Route v prefix m.0) refl m.2
  own _ _ t planned h = elim h [ ]

  member_own : (hops some : List WHop) (t : Thing) → IsIn t (members_of hops some) → owner_of plan (name_of t) ≡ Some (owner.Group hops)
  member_own hops [] t h = elim h [ ]
  member_own hops (hop ∷ some) t (inl same) = ap (λ z. owner_of plan (name_of z)) same
  member_own hops (hop ∷ some) t (inr h) = member_own hops some t h

  -- what rows share holds its own things
  pub shared-own : (o : Owner) (t : Thing) → IsIn t (shared_things o) → owner_of plan (name_of t) ≡ Some o
  shared-own (owner.OfRow k) t h = elim h [ ]
  shared-own (owner.Bridge lane) t h = only (λ z. owner_of plan (name_of z) ≡ Some (owner.Bridge lane)) t _ refl h
  shared-own (owner.Own v ip) t h = only (λ z. owner_of plan (name_of z) ≡ Some (owner.Own v ip)) t _ refl h
  shared-own (owner.Group hops) t (inl same) = ap (λ z. owner_of plan (name_of z)) same
  shared-own (owner.Group hops) t (inr h) = member_own hops hops t h

  pub held-own : (o : Owner) (t : Thing) → CanHold plan o t → owner_of plan (name_of t) ≡ Some o
  held-own (owner.OfRow k) t (r, planned, h) = own k r t planned h
  held-own (owner.Bridge lane) t h = shared-own (owner.Bridge lane) t h
  held-own (owner.Own v ip) t h = shared-own (owner.Own v ip) t h
  held-own (owner.Group hops) t h = shared-own (owner.Group hops) t h

  -- two owners never hold one name
  pub owners-apart : (o p : Owner) (t u : Thing) → CanHold plan o t → CanHold plan p u → name_of t ≡ name_of u → o ≡ p
  owners-apart o p t u x y same = same_Some o p (sym (held-own o t x) ∙ ap (owner_of plan) same ∙ held-own p u y)

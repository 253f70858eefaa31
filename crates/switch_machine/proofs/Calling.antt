-- the call of a change that is due is legal, and leaves the layout of what stands then
use Rattle.std.proofs.Common.{◌≡◌, ◌⊎◌, ◌+◌, ◌∷◌, ◌∙◌, inl, inr, ℕ, true, List, [], Option, None, Some, refl, sym, ap, ap₂, subst}
use Rattle.swss_types.specs.declared.address.Mac.{Mac}
use Rattle.table_schema.specs.Plan.{Ports, IsPlan, lanes_in_plan}
use Rattle.table_schema.specs.declared.key.Key.{Key}
use Rattle.table_schema.specs.declared.key.Key.TheVariants as key
use Rattle.sai_types.specs.declared.ids.Rid.{Rid}
use Rattle.sai_types.specs.declared.body.Attr.{Attr}
use Rattle.sai_types.specs.declared.body.Attr.TheVariants as attr
use Rattle.sai_types.specs.declared.body.Call.{Call}
use Rattle.sai_types.specs.declared.body.Call.TheVariants as call
use Rattle.sai_types.specs.declared.hop.Hop.{Hop}
use Rattle.sai_types.specs.declared.weight.WHop.{WHop}
use Rattle.sai_types.specs.declared.thing.PortThing.{PortThing}
use Rattle.sai_types.specs.declared.thing.Thing.{Thing}
use Rattle.sai_types.specs.declared.thing.Thing.TheVariants as thing
use Rattle.sai_types.specs.After.{after_call, entry_of}
use Rattle.sai_types.specs.Alike.{IsIn}
use Rattle.sai_types.specs.Hop.{AreRisingHops}
use Rattle.sai_types.specs.Made.{IsWhole}
use Rattle.sai_types.specs.Named.{first_lane}
use Rattle.sai_types.specs.Objects.{Objects}
use Rattle.sai_types.specs.Refusal.{IsLegal}
use Rattle.switch_model.specs.Placed as row
use Rattle.switch_model.specs.Placed.{Placed as Row}
use Rattle.switch_model.specs.Things.{base_of, lane_of, members_of}
use Rattle.chip_layout.specs.Bodies.{IsAt, IsChange, to_with, goal_name}
use Rattle.chip_layout.specs.Layout.{Has, HasRoom, IsFree, IsLaidOut, IsUnused, Layout, has_number, listed, next_rid, with_changed, with_thing, without}
use Rattle.sai_types.specs.Names as name
use Rattle.sai_types.specs.Names.{Meet, Overlap, ThingName, Refers, name_of}
use Rattle.sai_types.proofs.Weights.{one-weight}
use Rattle.chip_layout.proofs.Bodies.{first-refers}
use Rattle.chip_layout.proofs.Making.{make-laid, make-legal}
use Rattle.chip_layout.proofs.Removing.{remove-laid, remove-legal}
use Rattle.chip_layout.proofs.Setting.{set-laid, set-legal}
use Rattle.chip_layout.proofs.Shapes.{has-body}
use Rattle.row_layout.specs.Rows as owner
use Rattle.row_layout.specs.Rows.{Owner, OfRow, from, goal_of, own_things}
use Rattle.row_layout.specs.Shared.{shared_things, uses}
use Rattle.row_layout.proofs.Members.{from_in}
use Rattle.switch_model.proofs.Planned.{one-planned}
use Rattle.switch_machine.specs.Changes.{IsMakeCall, IsSamePort, IsSetCall, IsSettable, IsTakeCall}
use Rattle.switch_machine.specs.Flights.{CanMake, CanSet, CanTake, Fits, MachineFlight, Goes, HasName, IsConcern, IsFinal, IsOwnedBy, IsShared, IsRow, Machine, StandsIn}
use Rattle.row_layout.specs.Operations.{uses_of}
use Rattle.switch_machine.specs.Consistent.{IsLike, IsConsistent}
use Rattle.switch_machine.specs.Tables.{IsNamed, TableLaws}
use Rattle.switch_machine.proofs.Running.{one_owner, row_keys, shared_row}
use Rattle.switch_machine.proofs.Moving.{fit_of}
use Rattle.switch_machine.proofs.Splits.{own_row_in, use_row_in}
use Rattle.switch_machine.proofs.Ordered.{group_rising}
use Rattle.switch_machine.proofs.Standing.{held_row}
use Rattle.switch_machine.proofs.Tabled.{member_hop}

pub sort_of : (o : Owner) → IsShared o ⊎ ((k : Key) × (o ≡ OfRow k))
sort_of (owner.OfRow k) = inr (k, refl)
sort_of (owner.Bridge lane) = inl tt
sort_of (owner.Own v ip) = inl tt
sort_of (owner.Group hops) = inl tt

-- ---- ports and their lanes

port_in : (p q : PortThing) → IsIn (thing.Port p) (thing.Port q ∷ []) → p.lanes ≡ q.lanes
port_in p q (inl h) = let same : p ≡ q = cc in ap (λ (z : PortThing). z.lanes) same
port_in p q (inr h) = elim h [ ]

not_this_port : {X : Type 0} (p : PortThing) (u : Thing) → IsIn (thing.Port p) (u ∷ []) → (thing.Port p ≡ u → ⊥) → X
not_this_port p u (inl h) other = absurd (other h)
not_this_port p u (inr h) other = elim h [ ]

no_member : (all hops : List WHop) (p : PortThing) → IsIn (thing.Port p) (members_of all hops) → ⊥
no_member all [] p h = elim h [ ]
no_member all (hop ∷ hops) p (inl h) = cc
no_member all (hop ∷ hops) p (inr h) = no_member all hops p h

pub shared_no_port : (o : Owner) (p : PortThing) → IsIn (thing.Port p) (shared_things o) → ⊥
shared_no_port (owner.OfRow k) p h = elim h [ ]
shared_no_port (owner.Bridge lane) p h = not_this_port p (thing.BridgePort lane) h (λ e. cc)
shared_no_port (owner.Own v ip) p h = not_this_port p (thing.Own v ip) h (λ e. cc)
shared_no_port (owner.Group hops) p (inl h) = cc
shared_no_port (owner.Group hops) p (inr h) = no_member hops hops p h

-- a port's lanes are those of a port of the plan
abbrev pub IsPlannedPort : Ports → List ℕ → Type 0
IsPlannedPort plan lanes = (q : ℕ) × (lanes_in_plan plan q ≡ Some lanes)

none_from : {X Y : Type 0} (o : Option X) (f : X → List Y) (y : Y) → ((x : X) → IsIn y (f x) → ⊥) → IsIn y (from o f) → ⊥
none_from None f y each h = elim h [ ]
none_from (Some x) f y each h = each x h

pub port_planned : (plan : Ports) (k : Key) (r : Row) (p : PortThing) → Fits plan k r → IsIn (thing.Port p) (own_things plan k r) → IsPlannedPort plan p.lanes
port_planned plan (key.Port q) (row.Port r) p fit h = (q, fit ∙ ap Some (sym (port_in p (record { lanes = r.lanes; speed = r.speed; mtu = r.mtu; up = r.up }) (from_in (lane_of plan q) _ (thing.Port p) h).2)))
port_planned plan (key.Vlan v) row.Vlan p fit h = not_this_port p (thing.Vlan v) h (λ e. cc)
port_planned plan (key.Vrf label) row.Vrf p fit h = not_this_port p (thing.VirtualRouter label) h (λ e. cc)
port_planned plan (key.Member v q) (row.Member t) p fit h = absurd (none_from (lane_of plan q) (λ lane. thing.VlanMember v lane t ∷ []) (thing.Port p) (λ lane x. not_this_port p (thing.VlanMember v lane t) x (λ e. cc)) h)
port_planned plan (key.Intf n) (row.Intf v) p fit h = absurd (none_from (base_of plan n) (λ b. thing.Rif b v ∷ []) (thing.Port p) (λ b x. not_this_port p (thing.Rif b v) x (λ e. cc)) h)
port_planned plan (key.Neigh n ip) (row.Neigh mac) p fit h = absurd (none_from (base_of plan n) (λ b. thing.Neighbor (record { on = b; ip = ip }) mac ∷ thing.NextHop (record { on = b; ip = ip }) ∷ []) (thing.Port p) (λ b x. neither (record { on = b; ip = ip }) mac x) h)
  where
    neither : (hop : Hop) (mac : Mac) → IsIn (thing.Port p) (thing.Neighbor hop mac ∷ thing.NextHop hop ∷ []) → ⊥
    neither hop mac (inl h) = cc
    neither hop mac (inr h) = not_this_port p (thing.NextHop hop) h (λ e. cc)
port_planned plan (key.Route v prefix) (row.Route r) p fit h = absurd (none_from (goal_of plan r) (λ g. thing.Route v prefix g ∷ []) (thing.Port p) (λ g x. not_this_port p (thing.Route v prefix g) x (λ e. cc)) h)
port_planned plan _ _ p fit h = elim h [ ]

pub port_like : (plan : Ports) (k : Key) (r : Row) (t : Thing) (q : PortThing) → Fits plan k r → IsIn t (own_things plan k r) → (thing.Port q ≡ t) ⊎ IsSamePort (thing.Port q) t → IsPlannedPort plan q.lanes
port_like plan k r t q fit h (inl e) = port_planned plan k r q fit (subst (λ z. IsIn z (own_things plan k r)) (sym e) h)
port_like plan k r (thing.Port p) q fit h (inr same) = subst (IsPlannedPort plan) (sym same) (port_planned plan k r p fit h)
port_like plan k r _ q fit h (inr same) = elim same [ ]

pub lanes_name : (plan : Ports) (is : IsPlan plan) (xs ys : List ℕ) → IsPlannedPort plan xs → IsPlannedPort plan ys → (one : (p q : ℕ) → lanes_in_plan plan p ≡ Some xs → lanes_in_plan plan q ≡ Some ys → p ≡ q) → xs ≡ ys
lanes_name plan is xs ys x y one =
    let same = one x.0 y.0 x.1 y.1 in
    let both : Some xs ≡ Some ys = sym x.1 ∙ ap (lanes_in_plan plan) same ∙ y.1 in
    cc

at_goal : (layout : Layout Rid) (o : Option ThingName) → ((n : ThingName) → o ≡ Some n → (i : Rid) × Has layout n i) → (i : Rid) × IsAt (Has layout) o i
at_goal layout None f = (record { 0 = 0 }, tt)
at_goal layout (Some n) f = f n refl

module _ (plan : Ports) (is : IsPlan plan) (tables : TableLaws plan) (m : Machine) (sound : IsConsistent plan m) (w : ℕ) (f : MachineFlight) (flying : m.board.flights w ≡ Some f) (made : ℕ) (objects : Objects) (whole : IsWhole made objects) (laid : IsLaidOut (listed m.stands) objects) where
  abbrev L : Layout Rid
  L = listed m.stands

  fits : (r : Row) → f.new ≡ Some r → Fits plan f.key r
  fits = fit_of plan tables m sound w f flying

  has_id : (n : ThingName) → HasName (StandsIn m) n → (i : Rid) × Has L n i
  has_id n (u, (i, h), e) = (i, (u, h, e))

  -- what a row names stands
  named_stands : (k : Key) (r : Row) (n : ThingName) → IsRow m.board k r → IsNamed plan k r n → (i : Rid) × Has L n i
  named_stands k r n is named = has_id n (sound.present named.by n (sound.board.named k named.by r is named.named) named.own)

  -- what a thing of the new row refers to stands
  reaches : (t : Thing) → IsFinal plan f t → ((n : ThingName) → Refers t n → IsConcern plan f n → HasName (StandsIn m) n) → (n : ThingName) → Refers t n → (i : Rid) × Has L n i
  reaches t (inl h) near n refers = by (own_row_in plan f.key f.new t h)
    where
      leads : (r : Row) → f.new ≡ Some r → IsNamed plan f.key r n ⊎ (IsOwnedBy plan n (OfRow f.key) ⊎ ((o : Owner) × IsOwnedBy plan n o × IsIn o (uses plan f.key r))) → (i : Rid) × Has L n i
      leads r new (inl named) = named_stands f.key r n (inr (w, f, flying, refl, new)) named
      leads r new (inr (inl own)) = has_id n (near n refers (OfRow f.key, own, inl refl))
      leads r new (inr (inr x)) = has_id n (near n refers (x.0, x.1, inr (inl (subst (λ z. IsIn x.0 (uses_of plan f.key z)) (sym new) x.2))))

      by : (r : Row) × (f.new ≡ Some r) × IsIn t (own_things plan f.key r) → (i : Rid) × Has L n i
      by (r, new, at) = leads r new (tables.own_refers f.key r t n (fits r new) at refers)
  reaches t (inr (o, h, in_it)) near n refers = by (use_row_in plan f.key f.new o h)
    where
      leads : (r : Row) → f.new ≡ Some r → IsNamed plan f.key r n ⊎ IsOwnedBy plan n o → (i : Rid) × Has L n i
      leads r new (inl named) = named_stands f.key r n (inr (w, f, flying, refl, new)) named
      leads r new (inr of) = has_id n (near n refers (o, of, inr (inl h)))

      by : (r : Row) × (f.new ≡ Some r) × IsIn o (uses plan f.key r) → (i : Rid) × Has L n i
      by (r, new, at) = leads r new (tables.shared_refers f.key r o t n (fits r new) at in_it refers)

  -- ---- a thing is made

  -- lanes of ports that stand are planned
  stands_planned : (q : PortThing) → StandsIn m (thing.Port q) → IsPlannedPort plan q.lanes
  stands_planned q h = by (sound.owned (thing.Port q) h).0 (sound.owned (thing.Port q) h).1
    where
      of_like : (k : Key) → IsLike plan m.board k (thing.Port q) → IsPlannedPort plan q.lanes
      of_like k x = port_like plan k x.row x.thing q (sound.board.fit k x.row x.is) x.of x.resembles.same

      by : (o : Owner) → IsOwnedBy plan (name_of (thing.Port q)) o → IsPlannedPort plan q.lanes
      by (owner.OfRow k) of = of_like k (sound.like k (thing.Port q) h of)
      by (owner.Bridge lane) of = absurd (shared_no_port (owner.Bridge lane) q (sound.held (owner.Bridge lane) (thing.Port q) h of tt).0)
      by (owner.Own v ip) of = absurd (shared_no_port (owner.Own v ip) q (sound.held (owner.Own v ip) (thing.Port q) h of tt).0)
      by (owner.Group hops) of = absurd (shared_no_port (owner.Group hops) q (sound.held (owner.Group hops) (thing.Port q) h of tt).0)

  final_planned : (p : PortThing) → IsFinal plan f (thing.Port p) → IsPlannedPort plan p.lanes
  final_planned p (inl h) = let r = own_row_in plan f.key f.new (thing.Port p) h in port_planned plan f.key r.0 p (fits r.0 r.1) r.2
  final_planned p (inr h) = absurd (shared_no_port h.0 p h.2)

  -- a member that stands is one of a group that a row uses, whose hops rise
  hops_rising : (all : List WHop) (x : WHop) → StandsIn m (thing.GroupMember all x) → AreRisingHops all
  hops_rising all x h =
      let held = sound.held (owner.Group all) (thing.GroupMember all x) h refl tt in
      let r = held_row plan m sound (owner.Group all) held.1 in
      group_rising plan r.0 r.1 (owner.Group all) all r.3 refl

  in_things : (all : List WHop) (x : WHop) → IsIn (thing.GroupMember all x) (shared_things (owner.Group all)) → IsIn x all
  in_things all x (inl e) = absurd cc
  in_things all x (inr g) = member_hop all all x g

  in_group : (all : List WHop) (x : WHop) → StandsIn m (thing.GroupMember all x) → IsIn x all
  in_group all x h = in_things all x (sound.held (owner.Group all) (thing.GroupMember all x) h refl tt).0

  final_group : (all : List WHop) (x : WHop) → IsFinal plan f (thing.GroupMember all x) → IsIn x all
  final_group all x (inl h) = let r = own_row_in plan f.key f.new (thing.GroupMember all x) h in let of = tables.own f.key r.0 (thing.GroupMember all x) (fits r.0 r.1) r.2 in absurd cc
  final_group all x (inr (o, h, in_it)) =
      let of : Some (owner.Group all) ≡ Some o = tables.shared o (thing.GroupMember all x) in_it in
      let same : owner.Group all ≡ o = cc in
      in_things all x (subst (λ p. IsIn (thing.GroupMember all x) (shared_things p)) (sym same) in_it)

  -- two members of one group with one hop have one weight, and so one name
  members_same : (all others : List WHop) (x y : WHop) → Overlap (thing.GroupMember all x) (thing.GroupMember others y) → AreRisingHops others → IsIn x all → IsIn y others → name.GroupMember others y ≡ name.GroupMember all x
  members_same all others x y (same, hop) rising mine there = ap₂ name.GroupMember (sym same) (one-weight others y x rising there (subst (IsIn x) same mine) (sym hop))

  apart_by : (t u : Thing) → CanMake plan f (StandsIn m) t → StandsIn m u → Overlap t u → ⊥
  apart_by (thing.Port p) (thing.Port q) can h share =
      let one = lanes_name plan is q.lanes p.lanes (stands_planned q h) (final_planned p can.final) (λ x y hx hy. sym (one-planned plan y x p.lanes q.lanes is hy hx share)) in
      can.fresh (thing.Port q) h (ap (λ l. name.Port (first_lane l)) one)
  apart_by (thing.GroupMember all x) (thing.GroupMember others y) can h share = can.fresh (thing.GroupMember others y) h (members_same all others x y share (hops_rising others y h) (final_group all x can.final) (in_group others y h))
  apart_by t u can h share = elim share [ ]

  free : (t : Thing) → CanMake plan f (StandsIn m) t → IsFree L t
  free t can i u h (inl same) = can.fresh u (i, h) (sym same)
  free t can i u h (inr share) = apart_by t u can (i, h) share

  pub make-is_legal : (t : Thing) (c : Call Rid) (capacities : List ℕ) → CanMake plan f (StandsIn m) t → IsMakeCall L t c → HasRoom capacities objects t → IsLegal capacities objects c
  make-is_legal t c capacities can x room = subst (IsLegal capacities objects) (sym x.is) (make-legal L made objects whole laid t x.body x.of (free t can) capacities (reaches t can.final can.near) room)

  pub make-is_laid : (t : Thing) (c : Call Rid) (i : Rid) → CanMake plan f (StandsIn m) t → IsMakeCall L t c → (has_number t ≡ true → i ≡ next_rid made) → IsLaidOut (with_thing L i t) (after_call (made + 1) objects c)
  make-is_laid t c i can x number = subst (λ z. IsLaidOut (with_thing L i t) (after_call (made + 1) objects z)) (sym x.is) (make-laid L made objects whole laid t x.body x.of (free t can) i number)

  pub make-has_call : (t : Thing) → CanMake plan f (StandsIn m) t → (c : Call Rid) × IsMakeCall L t c
  make-has_call t can = let b = has-body L t (record { 0 = 0 }) (reaches t can.final can.near) in (call.Create b.0, record { body = b.0; of = b.1; is = refl })

  -- ---- an attribute is set

  pub set-is_legal : (u : Thing) (c : Call Rid) (capacities : List ℕ) → IsSetCall L u c → IsLegal capacities objects c
  set-is_legal u c capacities x = subst (IsLegal capacities objects) (sym x.is) (set-legal L made objects laid x.id x.old u x.body x.attr x.stands x.of x.change capacities)

  pub set-is_laid : (u : Thing) (c : Call Rid) (x : IsSetCall L u c) → IsLaidOut (with_changed L x.id u) (after_call (made + 1) objects c)
  set-is_laid u c x = subst (λ z. IsLaidOut (with_changed L x.id u) (after_call (made + 1) objects z)) (sym x.is) (set-laid L made objects laid x.id x.old u x.body x.attr x.stands x.of x.change)

  has_attr : (t u : Thing) → IsSettable t u → ((n : ThingName) → Refers u n → (i : Rid) × Has L n i) → (a : Attr Rid) × IsChange (Has L) t a u
  has_attr (thing.Port p) u (inl h) f = (attr.Speed h.0, h.1)
  has_attr (thing.Port p) u (inr (inl h)) f = (attr.Mtu h.0, h.1)
  has_attr (thing.Port p) u (inr (inr h)) f = (attr.Up h.0, h.1)
  has_attr (thing.VlanMember v l x) u h f = (attr.Tagging h.0, h.1)
  has_attr (thing.Neighbor hop mac) u h f = (attr.Mac h.0, h.1)
  has_attr (thing.Route v prefix g) u h f =
      let at = at_goal L (goal_name h.0) (λ n e. f n (subst (λ z. Refers z n) (sym h.1) (first-refers (thing.Route v prefix h.0) n e))) in
      (attr.To (to_with h.0 at.0), (h.0, at.0, at.1, refl, h.1))
  has_attr _ u h f = elim h [ ]

  pub set-has_call : (u : Thing) → CanSet plan f (StandsIn m) u → (c : Call Rid) × IsSetCall L u c
  set-has_call u can =
      let b = laid.stand can.stands.0 can.old can.stands.1 in
      let a = has_attr can.old u can.settable (reaches_like u can) in
      (call.Set (entry_of can.stands.0.0 b.0) a.0, record { id = can.stands.0; old = can.old; stands = can.stands.1; body = b.0; of = b.1; attr = a.0; change = a.1; is = refl })
    where
      reaches_like : (u : Thing) (can : CanSet plan f (StandsIn m) u) (n : ThingName) → Refers u n → (i : Rid) × Has L n i
      reaches_like u can n refers = by (own_row_in plan f.key f.new can.like can.final)
        where
          leads : (r : Row) → f.new ≡ Some r → IsNamed plan f.key r n ⊎ (IsOwnedBy plan n (OfRow f.key) ⊎ ((o : Owner) × IsOwnedBy plan n o × IsIn o (uses plan f.key r))) → (i : Rid) × Has L n i
          leads r new (inl named) = named_stands f.key r n (inr (w, f, flying, refl, new)) named
          leads r new (inr (inl own)) = has_id n (can.near n refers (OfRow f.key, own, inl refl))
          leads r new (inr (inr x)) = has_id n (can.near n refers (x.0, x.1, inr (inl (subst (λ z. IsIn x.0 (uses_of plan f.key z)) (sym new) x.2))))

          by : (r : Row) × (f.new ≡ Some r) × IsIn can.like (own_things plan f.key r) → (i : Rid) × Has L n i
          by (r, new, at) = leads r new (tables.own_refers f.key r can.like n (fits r new) at (can.resembles.refers n refers))

  -- ---- a thing is taken away

  -- what a firm row gives does not go
  no_firm : (n : ThingName) (k : Key) (r : Row) → Goes plan f n → IsRow m.board k r → IsNamed plan k r n → ⊥
  no_firm n k r (inl (own, none)) row named =
      let same = row_keys f.key named.by (one_owner plan n (OfRow f.key) (OfRow named.by) own (tables.names_own named.by n named.own)) in
      (sound.board.named k named.by r row named.named).stays w f flying same none
  no_firm n k r (inr (o, of, retires)) row named =
      let was = sound.board.left w f o flying retires in
      shared_row o named.by (tables.are_shared f.key was.row o was.used) (one_owner plan n o (OfRow named.by) of (tables.names_own named.by n named.own))

  unused_by : (n : ThingName) (u : Thing) → CanTake plan f (StandsIn m) n → StandsIn m u → Refers u n → (o : Owner) → IsOwnedBy plan (name_of u) o → IsShared o ⊎ ((k : Key) × (o ≡ OfRow k)) → ⊥
  unused_by n u can h refers o of (inl shared) =
      let x = sound.held o u h of shared in
      let r = held_row plan m sound o x.1 in
      by can.goes r (tables.shared_refers r.0 r.1 o u n (sound.board.fit r.0 r.1 r.2) r.3 x.0 refers)
    where
      at_own : Goes plan f n → IsOwnedBy plan n o → ⊥
      at_own (inl (own, none)) is = shared_row o f.key shared (one_owner plan n o (OfRow f.key) is own)
      at_own (inr (p, ofp, retires)) is = can.unused u (o, of, inr (inr (retires ∙ ap Some (one_owner plan n p o ofp is)))) h refers

      by : Goes plan f n → (r : (k : Key) × (r : Row) × IsRow m.board k r × IsIn o (uses plan k r)) → IsNamed plan r.0 r.1 n ⊎ IsOwnedBy plan n o → ⊥
      by goes r (inl named) = no_firm n r.0 r.1 goes r.2 named
      by goes r (inr is) = at_own goes is
  unused_by n u can h refers o of (inr (k, same)) =
      let x = sound.like k u h (of ∙ ap Some same) in
      by can.goes x (tables.own_refers k x.row x.thing n (sound.board.fit k x.row x.is) x.of (x.resembles.refers n refers))
    where
      of_k : IsOwnedBy plan (name_of u) (OfRow k)
      of_k = of ∙ ap Some same

      at_own : Goes plan f n → IsOwnedBy plan n (OfRow k) → ⊥
      at_own (inl (own, none)) is = can.unused u (OfRow k, of_k, inl (one_owner plan n (OfRow k) (OfRow f.key) is own)) h refers
      at_own (inr (p, ofp, retires)) is =
          let was = sound.board.left w f p flying retires in
          shared_row p k (tables.are_shared f.key was.row p was.used) (one_owner plan n p (OfRow k) ofp is)

      at_shared : Goes plan f n → (p : Owner) → IsOwnedBy plan n p → IsShared p → ⊥
      at_shared (inl (own, none)) p is shared = shared_row p f.key shared (one_owner plan n p (OfRow f.key) is own)
      at_shared (inr (q, ofq, retires)) p is shared =
          sound.board.unused w f k p flying (retires ∙ ap Some (one_owner plan n q p ofq is)) (sound.used k p u n h of_k refers is shared)

      by : Goes plan f n → (x : IsLike plan m.board k u) → IsNamed plan k x.row n ⊎ (IsOwnedBy plan n (OfRow k) ⊎ ((p : Owner) × IsOwnedBy plan n p × IsIn p (uses plan k x.row))) → ⊥
      by goes x (inl named) = no_firm n k x.row goes x.is named
      by goes x (inr (inl own)) = at_own goes own
      by goes x (inr (inr y)) = at_shared goes y.0 y.1 (tables.are_shared k x.row y.0 y.2)

  unused : (n : ThingName) → CanTake plan f (StandsIn m) n → IsUnused L n
  unused n can i u h refers = let o = sound.owned u (i, h) in unused_by n u can (i, h) refers o.0 o.1 (sort_of o.0)

  pub take-is_legal : (n : ThingName) (c : Call Rid) (capacities : List ℕ) → CanTake plan f (StandsIn m) n → IsTakeCall L n c → IsLegal capacities objects c
  take-is_legal n c capacities can x = subst (IsLegal capacities objects) (sym x.is) (remove-legal L made objects whole laid x.id x.old x.body x.stands x.of (subst (IsUnused L) (sym x.named) (unused n can)) capacities)

  pub take-is_laid : (n : ThingName) (c : Call Rid) → CanTake plan f (StandsIn m) n → IsTakeCall L n c → IsLaidOut (without L n) (after_call (made + 1) objects c)
  take-is_laid n c can x =
      subst (λ z. IsLaidOut (without L n) (after_call (made + 1) objects z)) (sym x.is)
      (subst (λ k. IsLaidOut (without L k) (after_call (made + 1) objects (call.Remove (entry_of x.id.0 x.body)))) x.named (remove-laid L made objects whole laid x.id x.old x.body x.stands x.of (subst (IsUnused L) (sym x.named) (unused n can))))

  pub take-has_call : (n : ThingName) → CanTake plan f (StandsIn m) n → (c : Call Rid) × IsTakeCall L n c
  take-has_call n can =
      let t = can.there in
      let b = laid.stand t.1.0 t.0 t.1.1 in
      (call.Remove (entry_of t.1.0.0 b.0), record { id = t.1.0; old = t.0; stands = t.1.1; named = t.2; body = b.0; of = b.1; is = refl })

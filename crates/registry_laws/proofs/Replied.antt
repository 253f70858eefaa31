-- what workers have under way stands for the machine when a change of a row's operation has taken effect
use Rattle.std.proofs.Common.{◌≡◌, ◌⊎◌, ◌∷◌, ◌++◌, ◌∙◌, inl, inr, ℕ, List, [], Option, None, Some, refl, sym, ap, subst, Bool, false, not, ◌-◌, ap₂}
use Rattle.std.proofs.lemmas.List.{append_assoc}
use Rattle.std.proofs.lemmas.Option.{same_Some}
use Rattle.swss_types.proofs.Proper.{mapped}
use Rattle.swss_types.specs.declared.vrf.Vrf.{Vrf}
use Rattle.swss_types.proofs.Routers.{vrf-refl}
use Rattle.table_schema.specs.Plan.{IsPlan, Ports, port_named}
use Rattle.table_schema.specs.declared.key.Key.{Key}
use Rattle.table_schema.specs.declared.key.Key.TheVariants as key
use Rattle.table_schema.specs.declared.row.PortRow.{PortRow}
use Rattle.sai_types.specs.declared.ids.Rid.{Rid}
use Rattle.sai_types.specs.declared.ids.Vid.{Vid}
use Rattle.sai_types.specs.declared.thing.Thing.{Thing}
use Rattle.sai_types.specs.declared.thing.Thing.TheVariants as thing
use Rattle.sai_types.specs.Alike.{IsIn}
use Rattle.sai_types.specs.Names.{name_of}
use Rattle.sai_types.proofs.Membership.{in-right}
use Rattle.sai_types.specs.declared.hop.Base.{Base}
use Rattle.sai_types.specs.declared.kind.Kind.{Kind}
use Rattle.sai_types.specs.Names as thing_name
use Rattle.switch_model.specs.Things.{lane_of}
use Rattle.switch_model.specs.Placed as row
use Rattle.switch_model.specs.Placed.{Placed as Row}
use Rattle.row_layout.specs.Operations.{Change, Make, Set, Take, own_changes, uses_of}
use Rattle.row_layout.specs.Rows as owner
use Rattle.row_layout.specs.Rows.{Owner, own_things, interface_on}
use Rattle.row_layout.proofs.Members.{from_in, only}
use Rattle.row_layout.specs.Shared.{shared_things}
use Rattle.switch_machine.specs.Changes.{IsSamePort, Resembles, after, Disturbs}
use Rattle.switch_machine.specs.Consistent.{IsConsistent}
use Rattle.switch_machine.specs.Events.{Follows}
use Rattle.switch_machine.specs.Flights.{Can, CanSet, Fits, MachineFlight, Machine, Runs, StandsIn, own_of, put, IsOwnedBy, goes_over}
use Rattle.switch_machine.specs.Operations.{built_first}
use Rattle.switch_machine.specs.Steps.{Moves, moved}
use Rattle.switch_machine.proofs.Moving.{fit_of, sound-moved}
use Rattle.switch_machine.proofs.Running.{row_keys}
use Rattle.switch_machine.proofs.Splits.{own_row_in, put_at, use_row_in}
use Rattle.switch_machine.proofs.Tabled.{tabled, are_shared_by}
use Rattle.switch_machine.specs.Places.{makes}
use Rattle.ref_counts.specs.Registry as registry
use Rattle.ref_counts.specs.Room.{GivesBack, RoomState}
use Rattle.orch_flight.specs.Operation.{Operation, is_between_for}
use Rattle.orch_flight.specs.Starting.{built_here, taken_here}
use Rattle.orch_flight.specs.Taking.{IsTook, names_after, names_by, now_after, operation_by, row_set}
use Rattle.orch_flight.specs.Calling.{IsChangeFor}
use Rattle.registry_laws.specs.Answering.{MakesRowLive}
use Rattle.registry_laws.specs.Ending.{ended_names}
use Rattle.registry_laws.specs.Flown.{Flown, due_for, flight_of, group_to_build, group_to_take, still_there}
use Rattle.registry_laws.specs.Flying.{HasStanding, IsBetween, IsFlown, IsRestFrom, IsRestOf, KnowsBoard, flown_as}
use Rattle.registry_laws.specs.Registers.{OthersHaveDue, Registers, kept_beyond}
use Rattle.registry_laws.proofs.Answered.{registers_answered, mapped_row}
use Rattle.registry_laws.proofs.Aside.{IsAside, aside_moved, aside_then, board_with, board_without}
use Rattle.registry_laws.proofs.Between.{due_moved}
use Rattle.registry_laws.proofs.Fine.{AreFine, after_fine, fine_of}
use Rattle.registry_laws.proofs.Lasting.{lasting}
use Rattle.registry_laws.proofs.Listing.{never_none, not_some}
use Rattle.registry_laws.proofs.Nexts.{next_now, sets_by}
use Rattle.registry_laws.proofs.Rests.{AreInOrder, IsPort, none_of_group, rest_order}
use Rattle.registry_laws.proofs.Settled.{Both, IsLater, both, not_built, settled, settled_by, settled_names, settled_names_by}
use Rattle.registry_laws.proofs.Taking.{row_due}
use Rattle.registry_laws.proofs.Going.{GoesOver, goes_by}
use Rattle.registry_laws.proofs.Beyond.{after_beyond, place_if}

-- ---- lists of changes

pub rest_next : (all due : List Change) (c : Change) (cs : List Change) → due ≡ c ∷ cs → IsRestOf all due → IsRestOf all cs
rest_next all due c cs e (before, h) = (before ++ c ∷ [], h ∙ ap (λ l. before ++ l) e ∙ sym (append_assoc before (c ∷ []) cs))

pub same_first : {X : Type 0} (x y : X) (xs ys : List X) → x ∷ xs ≡ y ∷ ys → x ≡ y
same_first x y xs ys h = cc

pub same_rest : {X : Type 0} (x y : X) (xs ys : List X) → x ∷ xs ≡ y ∷ ys → xs ≡ ys
same_rest x y xs ys h = cc

-- ---- the change that makes a row's name live is its last

here_first : (x : Option Owner) (own : List Change) → (z : Option Owner) × (built_here x own ≡ built_first z own)
here_first None own = (None, refl)
here_first (Some (owner.OfRow k)) own = (Some (owner.OfRow k), refl)
here_first (Some (owner.Bridge lane)) own = (Some (owner.Bridge lane), refl)
here_first (Some (owner.Own v ip)) own = (Some (owner.Own v ip), refl)
here_first (Some (owner.Group hops)) own = (None, refl)

not_live : (x : Option Owner) (c : Change) → IsIn c (taken_here x) → MakesRowLive c → ⊥
not_live None c h live = h
not_live (Some (owner.OfRow k)) c h live = h
not_live (Some (owner.Bridge lane)) c (inl e) live = subst MakesRowLive e live
not_live (Some (owner.Bridge lane)) c (inr h) live = h
not_live (Some (owner.Own v ip)) c (inl e) live = subst MakesRowLive e live
not_live (Some (owner.Own v ip)) c (inr h) live = h
not_live (Some (owner.Group hops)) c h live = h

live_last : (plan : Ports) (old : Option Row) (f : Operation) (c : Change) (cs : List Change) → f.due ≡ c ∷ cs → IsRestFrom plan old f → MakesRowLive c → (cs ≡ []) × (r : Row) × (f.new ≡ Some r)
live_last plan old f c cs due (inl (none, (builds, (before, e)))) live =
    let z = here_first builds (own_changes plan f.key old f.new) in
    lasting f.new plan f.key old z.0 before c cs (sym z.1 ∙ e ∙ ap (λ l. before ++ l) due) live
live_last plan old f c cs due (inr (before, e)) live = absurd (not_live f.retires c (subst (IsIn c) (sym (e ∙ ap (λ l. before ++ l) due)) (in-right c before (c ∷ cs) (inl refl))) live)

-- ---- a port's values are set

port_thing : (plan : Ports) (k : Key) (q : PortRow) (t : Thing) → IsIn t (own_things plan k (row.Port q)) → t ≡ thing.Port (record { lanes = q.lanes; speed = q.speed; mtu = q.mtu; up = q.up })
port_thing plan (key.Port p) q t h = only (λ z. z ≡ thing.Port (record { lanes = q.lanes; speed = q.speed; mtu = q.mtu; up = q.up })) t (thing.Port (record { lanes = q.lanes; speed = q.speed; mtu = q.mtu; up = q.up })) refl (from_in (lane_of plan p) (λ lane. thing.Port (record { lanes = q.lanes; speed = q.speed; mtu = q.mtu; up = q.up }) ∷ []) t h).2
port_thing plan _ q t h = elim h [ ]

port_lanes : (t u : Thing) → t ≡ u → IsSamePort t t → IsSamePort t u
port_lanes t u e h = subst (IsSamePort t) e h

port_fits : (plan : Ports) (i : ℕ) (r : Row) (u like : Thing) (q : PortRow) → u ≡ thing.Port (record { lanes = q.lanes; speed = q.speed; mtu = q.mtu; up = q.up }) → Fits plan (key.Port i) r → IsIn like (own_things plan (key.Port i) r) → Resembles u like → Fits plan (key.Port i) (row.Port q)
port_fits plan i (row.Port b) u like q is fits h resembles = fits ∙ ap Some (sym lanes)
  where
    its : like ≡ thing.Port (record { lanes = b.lanes; speed = b.speed; mtu = b.mtu; up = b.up })
    its = port_thing plan (key.Port i) b like h

    by : (u ≡ like) ⊎ IsSamePort u like → q.lanes ≡ b.lanes
    by (inl e) =
        let same : thing.Port (record { lanes = q.lanes; speed = q.speed; mtu = q.mtu; up = q.up }) ≡ thing.Port (record { lanes = b.lanes; speed = b.speed; mtu = b.mtu; up = b.up }) = sym is ∙ e ∙ its in
        port_lanes (thing.Port (record { lanes = q.lanes; speed = q.speed; mtu = q.mtu; up = q.up })) (thing.Port (record { lanes = b.lanes; speed = b.speed; mtu = b.mtu; up = b.up })) same refl
    by (inr e) = subst (λ z. IsSamePort (thing.Port (record { lanes = q.lanes; speed = q.speed; mtu = q.mtu; up = q.up })) z) its (subst (λ z. IsSamePort z like) is e)

    lanes : q.lanes ≡ b.lanes
    lanes = by resembles.same
port_fits plan i r u like q is fits h resembles = elim fits [ ]

-- a row that is to be again does not go
same_stays : (k : Key) (r : Row) → goes_over k (Some r) (Some r) ≡ false
same_stays (key.Intf n) (row.Intf v) = ap not (vrf-refl v)
same_stays k r = refl

set_stays : (k : Key) (u : Thing) (new : Option Row) (r : Row) → new ≡ Some r → (IsPort u → (i : ℕ) × (key.Port i ≡ k)) → goes_over k (row_set u new) new ≡ false
set_stays k (thing.Port q) new r e port = let i = port tt in ap₂ (λ z y. goes_over z (row_set (thing.Port q) new) y) (sym i.1) e
set_stays k _ new r e port = ap₂ (goes_over k) e e ∙ same_stays k r

module _ (plan : Ports) (is : IsPlan plan) (m : Machine) (sound : IsConsistent plan m) (p : Operation) (old : Option Row) (new_fits : (r : Row) → p.new ≡ Some r → Fits plan p.key r) (now_fits : (r : Row) → p.now ≡ Some r → Fits plan p.key r) (between : IsBetween old p.new p.now) where
  abbrev f : MachineFlight
  f = flight_of p

  abbrev k : Key
  k = p.key

  -- ---- the row that there is now, after a change

  set_fits : (u : Thing) → CanSet plan f (StandsIn m) u → (r : Row) → row_set u p.new ≡ Some r → Fits plan k r
  set_fits (thing.Port q) can r e =
      let i = mapped (λ z. owner.OfRow (key.Port z)) (port_named plan _) (owner.OfRow k) can.own in
      let its = own_row_in plan k p.new can.like can.final in
      let same : key.Port i.0 ≡ k = row_keys (key.Port i.0) k i.2 in
      let at : Fits plan (key.Port i.0) (row.Port (record { lanes = q.lanes; speed = q.speed; mtu = q.mtu; up = q.up })) =
      port_fits plan i.0 its.0 (thing.Port q) can.like (record { lanes = q.lanes; speed = q.speed; mtu = q.mtu; up = q.up }) refl (subst (λ z. Fits plan z its.0) (sym same) (new_fits its.0 its.1)) (subst (λ z. IsIn can.like (own_things plan z its.0)) (sym same) its.2) can.resembles in
      subst (Fits plan k) (same_Some (row.Port (record { lanes = q.lanes; speed = q.speed; mtu = q.mtu; up = q.up })) r e) (subst (λ z. Fits plan z (row.Port (record { lanes = q.lanes; speed = q.speed; mtu = q.mtu; up = q.up }))) same at)
  set_fits _ can r e = new_fits r e

  set_between : (u : Thing) → (old ≡ None → ⊥) → CanSet plan f (StandsIn m) u → IsBetween old p.new (row_set u p.new)
  set_between u some can = by old refl (own_row_in plan k p.new can.like can.final) u
    where
      now : (r : Row) → p.new ≡ Some r → (u : Thing) → (n : Row) × (row_set u p.new ≡ Some n)
      now r e (thing.Port q) = (row.Port (record { lanes = q.lanes; speed = q.speed; mtu = q.mtu; up = q.up }), refl)
      now r e _ = (r, e)

      by : (x : Option Row) → old ≡ x → (r : Row) × (p.new ≡ Some r) × IsIn can.like (own_things plan k r) → (u : Thing) → IsBetween old p.new (row_set u p.new)
      by None e its v = absurd (some e)
      by (Some a) e its v = let n = now its.0 its.1 v in inr (a, its.0, n.0, e, its.1, n.1)

  pub after_fits : (c : Change) → Can plan f (StandsIn m) c → (r : Row) → now_after c p.now p.new ≡ Some r → Fits plan k r
  after_fits (Make t) can r e = now_fits r e
  after_fits (Set u) can r e = set_fits u can r e
  after_fits (Take n) can r e = now_fits r e

  pub after_between : (c : Change) (cs : List Change) → AreInOrder plan k old p.new (c ∷ cs) → Can plan f (StandsIn m) c → IsBetween old p.new (now_after c p.now p.new)
  after_between (Make t) cs order can = between
  after_between (Set u) cs order can = set_between u order.1.0 can
  after_between (Take n) cs order can = between

  -- ---- what stands of it

  set_standing : (u : Thing) (cs : List Change) → IsPort u ⊎ (cs ≡ []) → (t : Thing) (d : Change) → IsIn t (own_of plan k (row_set u p.new)) → IsIn d cs → t ≡ u
  set_standing u cs (inr none) t d i j = elim (subst (IsIn d) none j) [ ]
  set_standing (thing.Port q) cs (inl port) t d i j = port_thing plan k (record { lanes = q.lanes; speed = q.speed; mtu = q.mtu; up = q.up }) t i
  set_standing _ cs (inl port) t d i j = elim port [ ]

  pub after_standing : (c : Change) (cs : List Change) → AreInOrder plan k old p.new (c ∷ cs) → ((t : Thing) (d : Change) → IsIn t (own_of plan k p.now) → IsIn d cs → Disturbs d (name_of t) → StandsIn m t) → (t : Thing) (d : Change) → IsIn t (own_of plan k (now_after c p.now p.new)) → IsIn d cs → Disturbs d (name_of t) → after c (StandsIn m t) t
  after_standing (Make u) cs order stands t d i j e = inl (stands t d i j e)
  after_standing (Set u) cs order stands t d i j e = inr (set_standing u cs order.1.1 t d i j)
  after_standing (Take n) cs order stands t d i j e = (stands t d i j e, λ same. order.1.0 d j (subst (Disturbs d) same e))

-- ---- a change of a row's operation takes effect

module _ (plan : Ports) (is : IsPlan plan) (capacities : List ℕ) (m : Machine) (sound : IsConsistent plan m) (names : registry.Names) (room : RoomState) (flown : ℕ → Option Flown) (board : KnowsBoard plan capacities names room flown m) (x : Flown) (at : flown x.operation.worker ≡ Some x) (none : x.group ≡ None) (builds : group_to_build plan names x.operation ≡ None) (takes : group_to_take x.operation ≡ None) (c : Change) (cs : List Change) (stands : List (Rid × Thing)) (moves : Moves m x.operation.worker (flight_of x.operation) c cs stands) (made : Option Vid) where
  abbrev p : Operation
  p = x.operation

  abbrev w : ℕ
  w = x.operation.worker

  abbrev g : MachineFlight
  g = flight_of x.operation

  y : IsFlown plan names m w x
  y = board.flying w x at

  due : p.due ≡ c ∷ cs
  due = sym (y.due ∙ row_due plan names x none builds takes) ∙ moves.due

  new_fits : (r : Row) → p.new ≡ Some r → Fits plan p.key r
  new_fits = fit_of plan (tabled plan is) m sound w g moves.flying

  in_order : AreInOrder plan p.key (m.board.applied p.key) p.new (c ∷ cs)
  in_order = subst (AreInOrder plan p.key (m.board.applied p.key) p.new) due (rest_order plan is (m.board.applied p.key) p (λ r e. sound.board.fit p.key r (inl e)) new_fits y.rest)

  can : Can plan g (StandsIn m) c
  can = (subst (Runs plan g (StandsIn m)) moves.due (sound.runs w g moves.flying)).0

  -- ---- the machine and the names

  abbrev later : Machine
  later = moved m w cs stands

  abbrev names' : registry.Names
  names' = names_after names p.key c made

  -- the operation before it leaves anything
  abbrev now : Operation
  now = record { worker = p.worker; key = p.key; now = now_after c p.now p.new; new = p.new; due = cs; leaves = p.leaves; retires = p.retires }

  known' : Registers plan 4 capacities names' room later
  known' = registers_answered plan is 4 capacities m sound names room board.registers board.rising w g cs stands c moves made (none_of_group plan p.key (m.board.applied p.key) p.new (c ∷ cs) c in_order (inl refl)) (live_last plan (m.board.applied p.key) p c cs due y.rest)

  sound' : IsConsistent plan later
  sound' = sound-moved plan (tabled plan is) m sound w g c cs stands moves

  fine' : AreFine names'
  fine' = after_fine names p.key c made (fine_of names board.rising board.placed board.there)

  due_now : later.due w ≡ cs
  due_now = put_at w w cs m.due refl

  not_now : group_to_build plan names' now ≡ None
  not_now = not_built plan names' later now (λ hops. (known'.names_known.shared (owner.Group hops) tt).stands) (λ hops t other. none_of_group plan p.key (m.board.applied p.key) p.new cs t.0 in_order.2 (subst (IsIn t.0) due_now t.1) (hops, t.2))

  now_fits : (r : Row) → now.now ≡ Some r → Fits plan p.key r
  now_fits = after_fits plan is m sound p (m.board.applied p.key) new_fits y.over.now y.between c can

  between : IsBetween (m.board.applied p.key) p.new now.now
  between = after_between plan is m sound p (m.board.applied p.key) new_fits y.over.now y.between c cs in_order can

  rest : IsRestFrom plan (m.board.applied p.key) now
  rest = by y.rest
    where
      by : IsRestFrom plan (m.board.applied p.key) p → IsRestFrom plan (m.board.applied p.key) now
      by (inl (retires, (b, r))) = inl (retires, (b, rest_next (built_here b (own_changes plan p.key (m.board.applied p.key) p.new)) p.due c cs due r))
      by (inr r) = inr (rest_next (taken_here p.retires) p.due c cs due r)

  standing : HasStanding plan later now
  standing t d i j e = moves.back t (after_standing plan is m sound p (m.board.applied p.key) new_fits y.over.now y.between c cs in_order (λ u z a b same. y.standing u z a (subst (IsIn z) (sym due) (inr b)) same) t d i j e)

  -- it goes as before
  goes_same : g.goes ≡ goes_over p.key now.now p.new
  goes_same = by c in_order can
    where
      port_key : (u : Thing) → IsOwnedBy plan (name_of u) (owner.OfRow p.key) → IsPort u → (i : ℕ) × (key.Port i ≡ p.key)
      port_key (thing.Port q) own port = let i = mapped (λ z. owner.OfRow (key.Port z)) (port_named plan _) (owner.OfRow p.key) own in (i.0, row_keys (key.Port i.0) p.key i.2)
      port_key u own port = elim port [ ]

      by : (d : Change) → AreInOrder plan p.key (m.board.applied p.key) p.new (d ∷ cs) → Can plan g (StandsIn m) d → g.goes ≡ goes_over p.key (now_after d p.now p.new) p.new
      by (Make t) order able = refl
      by (Take n) order able = refl
      by (Set u) order able =
          let r = own_row_in plan p.key p.new able.like able.final in
          sound.board.goes w g moves.flying ∙ order.1.2 ∙ sym (set_stays p.key u p.new r.0 r.1 (port_key u able.own))

  now_flying : later.board.flights w ≡ Some (flight_of now)
  now_flying = moves.flying ∙ ap (λ b. Some (told b)) goes_same
    where
      told : Bool → MachineFlight
      told goes = record { key = p.key; new = p.new; leaves = p.leaves; retires = p.retires; goes = goes }

  runs_now : Runs plan (flight_of now) (StandsIn later) cs
  runs_now = subst (Runs plan (flight_of now) (StandsIn later)) due_now (sound'.runs w (flight_of now) now_flying)

  next : IsChangeFor plan now cs
  next = next_now plan is later sound' w now now_flying now_fits between cs in_order.2 runs_now

  -- ---- the places that it keeps

  kept_none : GoesOver p.key (m.board.applied p.key) p.new → (q : Kind) → makes q (m.reserved w) ≡ 0
  kept_none x = y.reserves (row.Intf x.router_is) x.new_is (sound.board.goes w g moves.flying ∙ goes_by p.key (m.board.applied p.key) p.new x)

  now_there : (m.board.applied p.key ≡ None → ⊥) → (a : Row) × (now.now ≡ Some a)
  now_there some = by between
    where
      of : (o : Option Row) → m.board.applied p.key ≡ o → now.now ≡ m.board.applied p.key → (a : Row) × (now.now ≡ Some a)
      of None e same = absurd (some e)
      of (Some a) e same = (a, same ∙ e)

      by : IsBetween (m.board.applied p.key) p.new now.now → (a : Row) × (now.now ≡ Some a)
      by (inl same) = of (m.board.applied p.key) refl same
      by (inr (a, r, n, old, new, at)) = (n, at)

  now_stays : (a : Row) → now.now ≡ Some a → m.board.applied p.key ≡ None → ⊥
  now_stays a at none = by between
    where
      by : IsBetween (m.board.applied p.key) p.new now.now → ⊥
      by (inl same) = not_some a (sym none ∙ sym same ∙ at)
      by (inr (b, r, n, old, new, _)) = not_some b (sym none ∙ old)

  rif_own : (b : Base) (v : Vrf) (ds : List Change) → cs ≡ Make (thing.Rif b v) ∷ ds → p.key ≡ p.key → IsOwnedBy plan (thing_name.Rif b) (owner.OfRow p.key)
  rif_own b v ds e _ = by (subst (IsChangeFor plan now) e next)
    where
      by : IsIn (thing.Rif b v) (own_of plan p.key p.new) ⊎ ((o : Owner) × IsIn o (uses_of plan p.key p.new) × IsIn (thing.Rif b v) (shared_things o)) → IsOwnedBy plan (thing_name.Rif b) (owner.OfRow p.key)
      by (inl i) = let r = own_row_in plan p.key p.new (thing.Rif b v) i in (tabled plan is).own p.key r.0 (thing.Rif b v) (new_fits r.0 r.1) r.2
      by (inr (o, i, h)) =
          let r = use_row_in plan p.key p.new o i in
          absurd (mapped_row plan key.Intf (interface_on plan b) o (are_shared_by plan is p.key r.0 o r.2) ((tabled plan is).shared o (thing.Rif b v) h))

  beyond : (q : Kind) → kept_beyond later q w ≡ still_there q (Some (flown_as now None))
  beyond q =
      ap (λ l. makes q l - makes q (m.reserved w)) due_now
      ∙ after_beyond plan p.key (m.board.applied p.key) p.new p.now now.now c cs in_order (λ s. makes s (m.reserved w))
      (λ s. ap (λ l. makes s l - makes s (m.reserved w)) (sym moves.due) ∙ y.beyond s ∙ ap (λ l. place_if (is_between_for p.key p.now l) s) due)
      kept_none
      (λ live. (live_last plan (m.board.applied p.key) p c cs due y.rest live).0)
      now_there now_stays (λ b v ds e. rif_own b v ds e refl) q

  now_flown : IsFlown plan names' later w (flown_as now None)
  now_flown = record {
    flying = now_flying;
    worker = refl;
    due = due_now ∙ sym (row_due plan names' (flown_as now None) refl not_now takes);
    over = record {
      plans = is;
      now = now_fits;
      new = new_fits;
      next = next;
      sets = sets_by plan now (StandsIn later) cs runs_now;
    };
    some = y.some;
    rest = rest;
    between = between;
    standing = standing;
    later = λ hops h. never_none hops (sym h ∙ not_now);
    group = λ h e. not_some h e;
    beyond = beyond;
    reserves = λ r e goes q. y.reserves r e (goes_same ∙ goes) q;
  }

  busy' : OthersHaveDue later w
  busy' = due_moved m w cs stands board.busy

  -- ---- and what follows

  abbrev OnAs : Operation → registry.Names → Type 0
  OnAs f ns = (due_for plan ns (flown_as f None) ≡ [] → ⊥) → (t : Machine) × Follows plan w later t × (t.stands ≡ stands) × KnowsBoard plan capacities ns room (put w (Some (flown_as f None)) flown) t

  abbrev OverAs : Operation → registry.Names → Type 0
  OverAs f ns = (room' : RoomState) → due_for plan ns (flown_as f None) ≡ [] → GivesBack room w room' → (t : Machine) × Follows plan w later t × (t.stands ≡ stands) × KnowsBoard plan capacities (ended_names ns w p.key (m.board.applied p.key) p.new) room' (put w None flown) t

  its : OnAs (settled names' now) (settled_names names' now) × OverAs (settled names' now) (settled_names names' now)
  its = by (both plan is capacities later sound' names' room known' fine' now busy' now_flown)
    where
      aside : (t : Machine) (ns : registry.Names) (r : RoomState) → IsLater plan capacities w later t ns r → IsAside plan w m t
      aside t ns r z = aside_then plan w m later t (aside_moved plan is m sound w g c cs stands moves) z.aside

      by : Both plan is capacities later sound' names' room known' fine' now busy' now_flown (settled names' now) (settled_names names' now) → OnAs (settled names' now) (settled_names names' now) × OverAs (settled names' now) (settled_names names' now)
      by (on, over) = (
        (λ some.
            let z = on some in
            let ns = settled_names names' now in
            (z.0, z.1.follows, z.1.stands, board_with plan is capacities names room m board.registers sound w z.0 z.1.sound (aside z.0 ns room z.1) ns room z.1.known flown board.idle board.flying z.1.busy z.1.fine (flown_as (settled names' now) None) z.2)),
        (λ room' empty gives.
            let z = over room' empty gives in
            let ns = ended_names (settled_names names' now) w p.key (m.board.applied p.key) p.new in
            (z.0, z.1.follows, z.1.stands, board_without plan is capacities names room m board.registers sound w z.0 z.1.sound (aside z.0 ns room' z.1) ns room' z.1.known flown board.idle board.flying z.1.busy z.1.fine z.2)),
      )

  -- the code's operation is the one that has left what it had to
  by_is : (rest : List Change) (leaves : Option Owner) → operation_by names' p c rest leaves ≡ settled_by names' (record { worker = p.worker; key = p.key; now = now_after c p.now p.new; new = p.new; due = rest; leaves = leaves; retires = p.retires }) rest leaves
  by_is [] (Some o) = refl
  by_is [] None = refl
  by_is (d ∷ ds) leaves = refl

  by_names : (rest : List Change) (leaves : Option Owner) → names_by names' p rest leaves ≡ settled_names_by names' (record { worker = p.worker; key = p.key; now = now_after c p.now p.new; new = p.new; due = rest; leaves = leaves; retires = p.retires }) rest leaves
  by_names [] (Some o) = refl
  by_names [] None = refl
  by_names (d ∷ ds) leaves = refl

  module _ (f : Operation) (ns : registry.Names) (took : IsTook p made names f ns) where
    same_change : took.change ≡ c
    same_change = same_first took.change c took.rest cs (sym took.due ∙ due)

    same_changes : took.rest ≡ cs
    same_changes = same_rest took.change c took.rest cs (sym took.due ∙ due)

    operation_is : settled names' now ≡ f
    operation_is = sym (took.operation ∙ ap (λ z. operation_by (names_after names p.key z made) p z took.rest p.leaves) same_change ∙ ap (λ z. operation_by names' p c z p.leaves) same_changes ∙ by_is cs p.leaves)

    names_are : settled_names names' now ≡ ns
    names_are = sym (took.names_are ∙ ap (λ z. names_by (names_after names p.key z made) p took.rest p.leaves) same_change ∙ ap (λ z. names_by names' p z p.leaves) same_changes ∙ by_names cs p.leaves)

    pub row_goes_on : OnAs f ns
    row_goes_on = subst (λ z. OnAs z ns) operation_is (subst (OnAs (settled names' now)) names_are its.0)

    pub row_ends : OverAs f ns
    row_ends = subst (λ z. OverAs z ns) operation_is (subst (OverAs (settled names' now)) names_are its.1)

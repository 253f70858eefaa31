-- a port for which an operation's key has a row now stands so
use Rattle.std.proofs.Common.{◌≡◌, ◌⊎◌, ◌∷◌, ◌∙◌, inl, inr, ℕ, List, [], Option, None, Some, option_map, refl, sym, ap, subst}
use Rattle.swss_types.proofs.Proper.{mapped}
use Rattle.table_schema.specs.Plan.{IsPlan, Ports, port_named}
use Rattle.table_schema.specs.declared.key.Key.{Key}
use Rattle.table_schema.specs.declared.key.Key.TheVariants as key
use Rattle.sai_types.specs.declared.body.Call.{Call}
use Rattle.sai_types.specs.declared.weight.WHop.{WHop}
use Rattle.sai_types.specs.declared.ids.Rid.{Rid}
use Rattle.sai_types.specs.declared.ids.Vid.{Vid}
use Rattle.sai_types.specs.declared.thing.PortThing.{PortThing}
use Rattle.sai_types.specs.declared.thing.Thing.{Thing}
use Rattle.sai_types.specs.declared.thing.Thing.TheVariants as thing
use Rattle.sai_types.specs.Alike.{IsIn}
use Rattle.sai_types.specs.Named.{first_lane}
use Rattle.sai_types.specs.Names as thing_name
use Rattle.sai_types.specs.Names.{ThingName, name_of}
use Rattle.sai_types.proofs.Membership.{in-either}
use Rattle.switch_model.specs.Things.{lane_of}
use Rattle.chip_layout.specs.Layout.{listed}
use Rattle.switch_model.specs.Placed as row
use Rattle.switch_model.specs.Placed.{Placed as Row}
use Rattle.row_layout.specs.Operations.{Change, Make, Set, Take}
use Rattle.row_layout.specs.Rows as owner
use Rattle.row_layout.specs.Rows.{Owner, from, interface_on, own_things}
use Rattle.row_layout.proofs.Members.{from_in, only}
use Rattle.switch_machine.specs.Changes.{changed_by, changed_name}
use Rattle.switch_machine.specs.Consistent.{IsConsistent}
use Rattle.switch_machine.specs.Events.{IsAnswer, IsSafe, SwitchState}
use Rattle.switch_machine.specs.Flights.{Can, CanSet, MachineFlight, Goes, IsFinal, IsOwnedBy, IsResting, IsShared, Machine, Runs, StandsIn, own_of}
use Rattle.switch_machine.specs.Steps.{moved}
use Rattle.switch_machine.specs.Tables.{TableLaws}
use Rattle.switch_machine.proofs.Calling.{shared_no_port}
use Rattle.switch_machine.proofs.Kept.{same_stands}
use Rattle.switch_machine.proofs.Moving.{fit_of}
use Rattle.switch_machine.proofs.Running.{one_owner, shared_row, row_keys}
use Rattle.switch_machine.proofs.Splits.{own_row_in, use_row_in}
use Rattle.switch_machine.proofs.Tabled.{tabled}
use Rattle.ref_counts.specs.Registry.{Names}
use Rattle.orch_flight.specs.Calling.{IsOver, things_held, things_retired}
use Rattle.orch_flight.specs.Operation.{Operation}
use Rattle.orch_flight.specs.Starting.{begun_names, first_due, leaving, started_by, started_operation}
use Rattle.orch_flight.specs.Taking.{IsTook, names_after, now_after, operation_by, row_set}
use Rattle.registry_laws.specs.Answering.{IsOfGroup}
use Rattle.registry_laws.specs.Flown.{flight_of}
use Rattle.registry_laws.specs.Identified.{HoldsPort, PortsStand}
use Rattle.registry_laws.proofs.Going.{GoesOver, going_how}

-- ---- what is told by a name

port_key : (plan : Ports) (lane : ℕ) (k : Key) → IsOwnedBy plan (thing_name.Port lane) (owner.OfRow k) → (q : ℕ) × (k ≡ key.Port q)
port_key plan lane k h =
    let m = mapped (λ p. owner.OfRow (key.Port p)) (port_named plan lane) (owner.OfRow k) h in
    let keys : owner.OfRow (key.Port m.0) ≡ owner.OfRow k = m.2 in
    let same : k ≡ key.Port m.0 = cc in
    (m.0, same)

not_port : {X : Type 0} (x : Option X) (g : X → Key) (q : ℕ) {Y : Type 0} → ((z : X) → g z ≡ key.Port q → ⊥) → option_map (λ z. owner.OfRow (g z)) x ≡ Some (owner.OfRow (key.Port q)) → Y
not_port None g q other h = absurd cc
not_port (Some z) g q other h = let same : g z ≡ key.Port q = cc in absurd (other z same)

of_port : (plan : Ports) (u : Thing) (q : ℕ) → IsOwnedBy plan (name_of u) (owner.OfRow (key.Port q)) → (p : PortThing) × (u ≡ thing.Port p)
of_port plan (thing.Port p) q h = (p, refl)
of_port plan (thing.VlanMember vlan lane tagging) q h = not_port (port_named plan lane) (key.Member vlan) q (λ z e. cc) h
of_port plan (thing.Rif b v) q h = not_port (interface_on plan b) key.Intf q (λ z e. cc) h
of_port plan (thing.Neighbor hop mac) q h = not_port (interface_on plan hop.on) (λ i. key.Neigh i hop.ip) q (λ z e. cc) h
of_port plan (thing.NextHop hop) q h = not_port (interface_on plan hop.on) (λ i. key.Neigh i hop.ip) q (λ z e. cc) h
of_port plan _ q h = absurd cc

-- the port of a row
row_port : (plan : Ports) (k : Key) (p r : PortThing) → IsIn (thing.Port p) (own_things plan k (row.Port (record { lanes = r.lanes; speed = r.speed; mtu = r.mtu; up = r.up }))) → thing.Port p ≡ thing.Port r
row_port plan (key.Port q) p r h =
    let m = from_in (lane_of plan q) (λ lane. thing.Port r ∷ []) (thing.Port p) h in
    only (λ z. z ≡ thing.Port r) (thing.Port p) (thing.Port r) refl m.2
row_port plan k p r h = elim h [ ]

-- ---- at the start

module _ (plan : Ports) (is : IsPlan plan) (m : Machine) (sound : IsConsistent plan m) (k : Key) (rests : IsResting m.board k) where
  T : TableLaws plan
  T = tabled plan is

  applied_stands : (u : Thing) → IsIn u (own_of plan k (m.board.applied k)) → StandsIn m u
  applied_stands u h =
      let r = own_row_in plan k (m.board.applied k) u h in
      (sound.rest k u rests (T.own k r.0 u (sound.board.fit k r.0 (inl r.1)) r.2)).1 h

  pub started_holds : (names : Names) (w : ℕ) (new : Option Row) → HoldsPort plan m (started_operation plan names w k (m.board.applied k) new)
  started_holds names w new = by (first_due plan names k (m.board.applied k) new) (leaving plan k (m.board.applied k) new)
    where
      by : (due : List Change) (leaves : Option Owner) → HoldsPort plan m (started_by (begun_names plan names w k (m.board.applied k) new) w k (m.board.applied k) new due leaves)
      by [] (Some o) p h some = applied_stands (thing.Port p) h
      by [] None p h some = applied_stands (thing.Port p) h
      by (c ∷ cs) leaves p h some = applied_stands (thing.Port p) h

-- ---- a call is made

module _ (plan : Ports) (is : IsPlan plan) (workers : ℕ) (capacities : List ℕ) (s t : SwitchState) (call : Call Rid) (x : IsAnswer plan workers call s t) (kept : IsSafe plan workers capacities s) where
  T' : TableLaws plan
  T' = tabled plan is

  abbrev F : MachineFlight
  F = x.next.flight

  can : Can plan F (StandsIn s.machine) x.next.change
  can = (subst (Runs plan F (StandsIn s.machine)) x.next.due (kept.sound.runs x.next.worker F x.next.flying)).0

  stands_then : x.stands ≡ t.machine.stands
  stands_then = same_stands plan is workers capacities x.next.worker (moved s.machine x.next.worker x.next.rest x.stands) t.machine x.follows

  -- what no change is about stands on
  stays_by : (c : Change) (i j : Rid) (u : Thing) → (changed_name c ≡ name_of u → ⊥) → IsIn (j, u) s.machine.stands → changed_by (listed s.machine.stands) c i j u
  stays_by (Make z) i j u other h = inl h
  stays_by (Set z) i j u other h = inl (h, λ e. other (sym e))
  stays_by (Take n) i j u other h = (h, λ e. other (sym e))

  thing_stays : (u : Thing) → (changed_name x.next.change ≡ name_of u → ⊥) → StandsIn s.machine u → StandsIn t.machine u
  thing_stays u other (j, h) = (j, subst (IsIn (j, u)) stands_then (x.into j u (stays_by x.next.change x.id j u other h)))

  -- whose a change is
  change_owner : (c : Change) → Can plan F (StandsIn s.machine) c → (o : Owner) × IsOwnedBy plan (changed_name c) o × ((o ≡ owner.OfRow F.key) ⊎ IsShared o)
  change_owner (Make z) h = by h.final
    where
      by : IsFinal plan F z → (o : Owner) × IsOwnedBy plan (name_of z) o × ((o ≡ owner.OfRow F.key) ⊎ IsShared o)
      by (inl own) = let r = own_row_in plan F.key F.new z own in (owner.OfRow F.key, T'.own F.key r.0 z (fit_of plan T' s.machine kept.sound x.next.worker F x.next.flying r.0 r.1) r.2, inl refl)
      by (inr (o, used, i)) = let r = use_row_in plan F.key F.new o used in (o, T'.shared o z i, inr (T'.are_shared F.key r.0 o r.2))
  change_owner (Set z) h = (owner.OfRow F.key, h.own, inl refl)
  change_owner (Take n) h = by h.goes
    where
      by : Goes plan F n → (o : Owner) × IsOwnedBy plan n o × ((o ≡ owner.OfRow F.key) ⊎ IsShared o)
      by (inl (of, none)) = (owner.OfRow F.key, of, inl refl)
      by (inr (o, of, retires)) = let was = kept.sound.board.left x.next.worker F o x.next.flying retires in (o, of, inr (T'.are_shared F.key was.row o was.used))

  -- of a group's call ports know nothing
  pub grouped_holds : (f : Operation) → IsOfGroup plan x.next.change → HoldsPort plan s.machine f → HoldsPort plan t.machine f
  grouped_holds f (hops, of) holds p h some = thing_stays (thing.Port p) (λ e. no_group (subst (λ n. IsOwnedBy plan n (owner.Group hops)) e of)) (holds p h some)
    where
      no_group : IsOwnedBy plan (thing_name.Port (first_lane p.lanes)) (owner.Group hops) → ⊥
      no_group h = let m = mapped (λ q. owner.OfRow (key.Port q)) (port_named plan (first_lane p.lanes)) (owner.Group hops) h in other m.0 hops m.2
        where
          other : (q : ℕ) (hops : List WHop) → owner.OfRow (key.Port q) ≡ owner.Group hops → ⊥
          other q hops e = cc

  -- nor of another worker's
  pub others_hold : (v : ℕ) (f : Operation) → (v ≡ x.next.worker → ⊥) → s.machine.board.flights v ≡ Some (flight_of f) → IsOver plan f → HoldsPort plan s.machine f → HoldsPort plan t.machine f
  others_hold v f apart flies over holds p h some = thing_stays (thing.Port p) (λ e. by e (change_owner x.next.change can)) (holds p h some)
    where
      its : IsOwnedBy plan (name_of (thing.Port p)) (owner.OfRow f.key)
      its = let r = own_row_in plan f.key f.now (thing.Port p) h in T'.own f.key r.0 (thing.Port p) (over.now r.0 r.1) r.2

      by : changed_name x.next.change ≡ name_of (thing.Port p) → (o : Owner) × IsOwnedBy plan (changed_name x.next.change) o × ((o ≡ owner.OfRow F.key) ⊎ IsShared o) → ⊥
      by e (o, of, whose) = whose_is (one_owner plan (name_of (thing.Port p)) o (owner.OfRow f.key) (subst (λ n. IsOwnedBy plan n o) e of) its) whose
        where
          whose_is : o ≡ owner.OfRow f.key → (o ≡ owner.OfRow F.key) ⊎ IsShared o → ⊥
          whose_is same (inr shared) = shared_row o f.key shared same
          whose_is same (inl mine) =
              let both : owner.OfRow f.key ≡ owner.OfRow F.key = sym same ∙ mine in
              let keys : f.key ≡ F.key = cc in
              apart (kept.sound.board.one v x.next.worker (flight_of f) F flies x.next.flying keys)

  -- ---- its own

  module _ (f : Operation) (flying : s.machine.board.flights x.next.worker ≡ Some (flight_of f)) (holds : HoldsPort plan s.machine f) where
    own_can : Can plan (flight_of f) (StandsIn s.machine) x.next.change
    own_can = (subst (Runs plan (flight_of f) (StandsIn s.machine)) x.next.due (kept.sound.runs x.next.worker (flight_of f) flying)).0

    -- the row that the key has now, once the change is made
    abbrev HoldsNow : Option Row → Type 0
    HoldsNow now = (p : PortThing) → IsIn (thing.Port p) (own_of plan f.key now) → (f.new ≡ None → ⊥) → StandsIn t.machine (thing.Port p)

    standing : (u : Thing) (j : Rid) → changed_by (listed s.machine.stands) x.next.change x.id j u → StandsIn t.machine u
    standing u j h = (j, subst (IsIn (j, u)) stands_then (x.into j u h))

    no_port : (u : Thing) → ((r : PortThing) → u ≡ thing.Port r → ⊥) → CanSet plan (flight_of f) (StandsIn s.machine) u → (p : PortThing) → IsIn (thing.Port p) (own_of plan f.key f.new) → ⊥
    no_port u other set p h =
        let r = own_row_in plan f.key f.new (thing.Port p) h in
        let q = port_key plan (first_lane p.lanes) f.key (T'.own f.key r.0 (thing.Port p) (fit_of plan T' s.machine kept.sound x.next.worker (flight_of f) flying r.0 r.1) r.2) in
        let port = of_port plan u q.0 (subst (λ k. IsOwnedBy plan (name_of u) (owner.OfRow k)) q.1 set.own) in
        other port.0 port.1

    set_holds : (u : Thing) → x.next.change ≡ Set u → CanSet plan (flight_of f) (StandsIn s.machine) u → HoldsNow (row_set u f.new)
    set_holds (thing.Port r) e set p h some = standing (thing.Port p) x.id (subst (λ c. changed_by (listed s.machine.stands) c x.id x.id (thing.Port p)) (sym e) (inr (refl, row_port plan f.key p r h)))
    set_holds u e set p h some = absurd (no_port u (λ r same. cc) set p h)

    take_apart : (n : ThingName) (p : PortThing) → (f.new ≡ None → ⊥) → Goes plan (flight_of f) n → n ≡ name_of (thing.Port p) → ⊥
    take_apart n p some (inl (of, goes)) e = by (going_how f.key f.now f.new goes)
      where
        by : (f.new ≡ None) ⊎ GoesOver f.key f.now f.new → ⊥
        by (inl none) = some none
        by (inr x) =
            let m = mapped (λ q. owner.OfRow (key.Port q)) (port_named plan (first_lane p.lanes)) (owner.OfRow f.key) (subst (λ l. IsOwnedBy plan l (owner.OfRow f.key)) e of) in
            let same : key.Port m.0 ≡ key.Intf x.on = row_keys (key.Port m.0) f.key m.2 ∙ x.key_is in
            cc
    take_apart n p some (inr (o, of, retires)) e =
        let was = kept.sound.board.left x.next.worker (flight_of f) o flying retires in
        let m = mapped (λ q. owner.OfRow (key.Port q)) (port_named plan (first_lane p.lanes)) o (subst (λ l. IsOwnedBy plan l o) e of) in
        shared_row o (key.Port m.0) (T'.are_shared f.key was.row o was.used) (sym m.2)

    change_holds : (c : Change) → x.next.change ≡ c → Can plan (flight_of f) (StandsIn s.machine) c → HoldsNow (now_after c f.now f.new)
    change_holds (Make z) e able p h some =
        let there = holds p h some in
        standing (thing.Port p) there.0 (subst (λ c. changed_by (listed s.machine.stands) c x.id there.0 (thing.Port p)) (sym e) (inl there.1))
    change_holds (Set u) e able p h some = set_holds u e able p h some
    change_holds (Take n) e able p h some = thing_stays (thing.Port p) (λ same. take_apart n p some able.goes (sym (ap changed_name e) ∙ same)) (holds p h some)

    pub took_holds : (names names' : Names) (f' : Operation) (made : Option Vid) (rest : List Change) → f.due ≡ x.next.change ∷ rest → IsTook f made names f' names' → HoldsPort plan t.machine f'
    took_holds names names' f' made rest due took = subst (HoldsPort plan t.machine) (sym took.operation) (by took.rest f.leaves)
      where
        change : x.next.change ≡ took.change
        change =
            let both : x.next.change ∷ rest ≡ took.change ∷ took.rest = sym due ∙ took.due in
            cc

        now : HoldsNow (now_after took.change f.now f.new)
        now = change_holds took.change change (subst (Can plan (flight_of f) (StandsIn s.machine)) change own_can)

        by : (cs : List Change) (leaves : Option Owner) → HoldsPort plan t.machine (operation_by (names_after names f.key took.change made) f took.change cs leaves)
        by [] (Some o) p h some = now p h some
        by [] None p h some = now p h some
        by (c ∷ cs) leaves p h some = now p h some

-- ---- an attribute of it is set

no_retired : (o : Option Owner) (p : PortThing) → IsIn (thing.Port p) (things_retired o) → ⊥
no_retired None p h = elim h [ ]
no_retired (Some o) p h = shared_no_port o p h

pub holds_stand : (plan : Ports) (m : Machine) (f : Operation) (c : Change) → Can plan (flight_of f) (StandsIn m) c → HoldsPort plan m f → PortsStand m (things_held plan f) c
holds_stand plan m f (Make t) able holds = tt
holds_stand plan m f (Take n) able holds = tt
holds_stand plan m f (Set u) able holds = λ p h same. by p (in-either (thing.Port p) (own_of plan f.key f.now) (things_retired f.retires) h)
  where
    some : f.new ≡ None → ⊥
    some none = elim (subst (λ z. IsIn able.like (own_of plan f.key z)) none able.final) [ ]

    by : (p : PortThing) → IsIn (thing.Port p) (own_of plan f.key f.now) ⊎ IsIn (thing.Port p) (things_retired f.retires) → StandsIn m (thing.Port p)
    by p (inl h) = holds p h some
    by p (inr h) = absurd (no_retired f.retires p h)

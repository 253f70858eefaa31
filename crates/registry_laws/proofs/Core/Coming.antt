-- an operation that is over has brought its interface back, or there was none to bring
use Rattle.std.proofs.Common.{◌≡◌, ◌⊎◌, ◌∷◌, ◌++◌, ◌∙◌, inl, inr, ℕ, Bool, true, false, if◌then◌else◌, List, [], length, Option, None, Some, option_map, refl, sym, ap, ap₂, subst}
use Rattle.std.proofs.lemmas.Bool.{false≢true}
use Rattle.std.proofs.lemmas.Option.{same_Some}
use Rattle.swss_types.specs.declared.interface.IfName.{IfName}
use Rattle.swss_types.specs.declared.interface.IfName.TheVariants as on
use Rattle.swss_types.specs.declared.vrf.Vrf.{Vrf}
use Rattle.table_schema.specs.Plan.{IsPlan, Ports}
use Rattle.table_schema.specs.declared.key.Key.{Key}
use Rattle.table_schema.specs.declared.key.Key.TheVariants as key
use Rattle.sai_types.specs.declared.hop.Base.{Base}
use Rattle.sai_types.specs.declared.ids.Rid.{Rid}
use Rattle.sai_types.specs.declared.ids.Vid.{Vid}
use Rattle.sai_types.specs.declared.thing.Thing.{Thing}
use Rattle.sai_types.specs.declared.thing.Thing.TheVariants as thing
use Rattle.sai_types.specs.Alike.{IsIn}
use Rattle.sai_types.specs.Names as thing_name
use Rattle.switch_model.specs.Placed as row
use Rattle.switch_model.specs.Placed.{Placed as Row}
use Rattle.switch_model.specs.Things.{base_of}
use Rattle.row_layout.specs.Operations.{Change, Make, Set, Take, make_all, own_changes, take_all, uses_of}
use Rattle.row_layout.specs.Rows as owner
use Rattle.row_layout.specs.Rows.{Owner, from}
use Rattle.row_layout.specs.Shared.{shared_things}
use Rattle.row_layout.proofs.Members.{from_in, only}
use Rattle.switch_machine.specs.Events.{SwitchState}
use Rattle.switch_machine.specs.Flights.{Can, Machine, MachineFlight, Runs, StandsIn, goes_over, own_of}
use Rattle.switch_machine.proofs.Tabled.{are_shared_by}
use Rattle.ref_counts.specs.declared.name.Name.TheVariants as name
use Rattle.ref_counts.specs.declared.name.NameState.TheVariants as state
use Rattle.ref_counts.specs.Registered.{Registered, begun, begun_to_go, made_live}
use Rattle.ref_counts.specs.Registry.{Names, changed, gone_from, ids_of, registered_at, state_in, state_of}
use Rattle.ref_counts.specs.Room.{RoomState}
use Rattle.orch_flight.specs.Grouping.{GroupOperation, IsGroupTook, group_names_by, members_with_made}
use Rattle.orch_flight.specs.Operation.{Operation}
use Rattle.orch_flight.specs.Sharing.{MayStart}
use Rattle.orch_flight.specs.Starting.{begun_names, built_here, ids_for_row, started_by, started_names, started_operation, taken_here, with_own, with_pins}
use Rattle.orch_flight.specs.Taking.{IsTook, names_after, names_by, operation_by, to_list}
use Rattle.registry_laws.specs.Ending.{MayEnd}
use Rattle.registry_laws.specs.Flown.{Flown, built_in, due_for, flight_of, group_in, group_to_build, group_to_take}
use Rattle.registry_laws.specs.Flying.{IsFlown, IsRestFrom}
use Rattle.registry_laws.specs.Identified.{is_live_or_going}
use Rattle.registry_laws.specs.Known.{RowStands}
use Rattle.registry_laws.specs.Making.{TookFor}
use Rattle.registry_laws.specs.Standing.{HasBegun, StandsFor}
use Rattle.registry_laws.proofs.Dues.{due_none}
use Rattle.registry_laws.proofs.Finding.{found_at, found_off, gone_off, pins_row, put_at_name}
use Rattle.registry_laws.proofs.Going.{GoesOver, goes_by, going_how, over_changes}
use Rattle.registry_laws.proofs.Listing.{not_some}
use Rattle.registry_laws.proofs.Rests.{AreInOrder, rest_order}
use Rattle.registry_laws.proofs.Core.Nexts.{row_due_is}
use Rattle.registry_laws.proofs.Identifier.Interfaces.{left_row, on_base, started_row}
use Rattle.registry_laws.proofs.Identifier.Starting.{ids_started}

-- ---- it starts

due_of : (names : Names) (w : ℕ) (k : Key) (old new : Option Row) (due : List Change) → (started_by names w k old new due None).due ≡ due
due_of names w k old new [] = refl
due_of names w k old new (c ∷ cs) = refl

no_base : (o : Option Base) (v u : Vrf) → take_all (from o (λ b. thing.Rif b v ∷ [])) (make_all (from o (λ b. thing.Rif b u ∷ [])) []) ≡ [] → o ≡ None
no_base None v u e = refl
no_base (Some b) v u e = absurd cc

-- what is due for an interface that goes over is that of its router interface
over_due : (plan : Ports) (names : Names) (w : ℕ) (k : Key) (old new : Option Row) (x : GoesOver k old new) → (started_operation plan names w k old new).due ≡ own_changes plan k old new
over_due plan names w k old new x = ap (λ z. (started_operation plan names w z old new).due) x.key_is ∙ ap₂ (λ a b. (started_operation plan names w (key.Intf x.on) a b).due) x.old_is x.new_is ∙ due_of (begun_names plan names w (key.Intf x.on) (Some (row.Intf x.router_was)) (Some (row.Intf x.router_is))) w (key.Intf x.on) (Some (row.Intf x.router_was)) (Some (row.Intf x.router_is)) (own_changes plan (key.Intf x.on) (Some (row.Intf x.router_was)) (Some (row.Intf x.router_is))) ∙ sym (ap (λ z. own_changes plan z old new) x.key_is ∙ ap₂ (own_changes plan (key.Intf x.on)) x.old_is x.new_is)

nothing_in : {X : Type 0} (xs : List X) → length xs ≡ 0 → xs ≡ []
nothing_in [] e = refl
nothing_in (x ∷ xs) e = absurd cc

to_go : (w v : ℕ) (x : Option Registered) → state_in (option_map (begun_to_go w) x) ≡ state.Retiring v → v ≡ w
to_go w v None e = absurd cc
to_go w v (Some r) e = cc

module _ (plan : Ports) (is : IsPlan plan) (capacities : List ℕ) (names : Names) (room : RoomState) (flown : ℕ → Option Flown) (rid : Vid → Option Rid) (s : SwitchState) (stands : StandsFor plan capacities names room flown rid s) where
  module _ (w : ℕ) (k : Key) (new : Option Row) (may : MayStart plan names w k (s.machine.board.applied k) new) (nothing : (started_operation plan names w k (s.machine.board.applied k) new).due ≡ []) where
    abbrev old : Option Row
    old = s.machine.board.applied k

    abbrev later : Names
    later = started_names plan names w k old new

    abbrev pinned_names : Names
    pinned_names = with_pins names w k new

    module _ (r : Row) (some : new ≡ Some r) (v : ℕ) (st : state_of later (name.Row k) ≡ state.Retiring v) where
      -- so it goes over
      own : state_of (with_own pinned_names w k old new) (name.Row k) ≡ state.Retiring v
      own = sym (ap state_in (started_row plan is names w k old new may k)) ∙ st

      how : (v ≡ w) × ((a : Row) × (old ≡ Some a)) × (goes_over k old new ≡ true)
      how = by old refl own
        where
          by : (x : Option Row) → old ≡ x → state_of (with_own pinned_names w k x new) (name.Row k) ≡ state.Retiring v → (v ≡ w) × ((a : Row) × (old ≡ Some a)) × (goes_over k old new ≡ true)
          by None e h =
              let begins = ap state_in (put_at_name pinned_names (owner.OfRow k) (begun w (ids_for_row k))) in
              absurd (let both = sym begins ∙ h in cc)
          by (Some a) e h = of (goes_over k (Some a) new) refl
            where
              of : (b : Bool) → goes_over k (Some a) new ≡ b → (v ≡ w) × ((a : Row) × (old ≡ Some a)) × (goes_over k old new ≡ true)
              of true goes =
                  let now = sym (ap (λ (b : Bool). state_of (if b then changed pinned_names (name.Row k) (begun_to_go w) else pinned_names) (name.Row k)) goes) ∙ h in
                  (to_go w v (registered_at pinned_names (name.Row k)) (sym (ap state_in (found_at pinned_names (owner.OfRow k) (begun_to_go w))) ∙ now), (a, e), ap (λ z. goes_over k z new) e ∙ goes)
              of false stays =
                  let now = sym (ap (λ (b : Bool). state_of (if b then changed pinned_names (name.Row k) (begun_to_go w) else pinned_names) (name.Row k)) stays) ∙ h in
                  let both = sym (may.applied a e) ∙ sym (pins_row w k names new k).state ∙ now in
                  absurd cc

      over : GoesOver k old new
      over = by (going_how k old new how.2)
        where
          by : (new ≡ None) ⊎ GoesOver k old new → GoesOver k old new
          by (inl none) = not_some r (sym none ∙ some)
          by (inr x) = x

      on_nothing : base_of plan over.on ≡ None
      on_nothing = no_base (base_of plan over.on) over.router_was over.router_is (sym (over_changes plan k old new over) ∙ sym (over_due plan names w k old new over) ∙ nothing)

      loopback : (n : IfName) → over.on ≡ n → ids_for_row (key.Intf n) ≡ 0
      loopback (on.Loopback l) e = refl
      loopback (on.Vlan l) e = absurd (let x = on_base plan s.machine stands.safe.sound k how.1.0 how.1.1 over.on over.key_is (λ q h. let both = sym e ∙ h in cc) in not_some x.0 (sym on_nothing ∙ x.1))
      loopback (on.Ethernet p) e = absurd (let x = on_base plan s.machine stands.safe.sound k how.1.0 how.1.1 over.on over.key_is (λ q h. let both = sym e ∙ h in cc) in not_some x.0 (sym on_nothing ∙ x.1))

      no_ids : ids_of later (name.Row k) ≡ []
      no_ids =
          let live = may.applied how.1.0 how.1.1 in
          let count = stands.interfaces.each over.on (ap (λ q. is_live_or_going (state_of names (name.Row q))) (sym over.key_is) ∙ ap is_live_or_going live) in
          ids_started plan is names w k old new may (owner.OfRow k) ∙ nothing_in (ids_of names (name.Row k)) (ap (λ q. length (ids_of names (name.Row q))) over.key_is ∙ count ∙ loopback over.on refl)

      pub may_with : (v ≡ w) × (ids_of later (name.Row k) ≡ [])
      may_with = (how.0, no_ids)

    pub may_started : MayEnd later w k new
    may_started = by new refl
      where
        by : (x : Option Row) → new ≡ x → MayEnd later w k x
        by None e = tt
        by (Some r) e = λ v st. may_with r e v st

  -- ---- a call of it is made

  -- no change is the last that takes something away
  abbrev EndsOtherwise : List Change → Type 0
  EndsOtherwise [] = Unit {0}
  EndsOtherwise (Take n ∷ []) = ⊥
  EndsOtherwise (c ∷ []) = Unit {0}
  EndsOtherwise (c ∷ d ∷ cs) = EndsOtherwise (d ∷ cs)

  ends_behind : (before : List Change) (n : thing_name.ThingName) → EndsOtherwise (before ++ Take n ∷ []) → ⊥
  ends_behind [] n h = h
  ends_behind (c ∷ []) n h = h
  ends_behind (c ∷ d ∷ before) n h = ends_behind (d ∷ before) n h

  over_otherwise : (builds : Option Owner) (o : Option Base) (v u : Vrf) → EndsOtherwise (built_here builds (take_all (from o (λ b. thing.Rif b v ∷ [])) (make_all (from o (λ b. thing.Rif b u ∷ [])) [])))
  over_otherwise None None v u = tt
  over_otherwise (Some (owner.OfRow k)) None v u = tt
  over_otherwise (Some (owner.Bridge lane)) None v u = tt
  over_otherwise (Some (owner.Own w ip)) None v u = tt
  over_otherwise (Some (owner.Group hops)) None v u = tt
  over_otherwise None (Some b) v u = tt
  over_otherwise (Some (owner.OfRow k)) (Some b) v u = tt
  over_otherwise (Some (owner.Bridge lane)) (Some b) v u = tt
  over_otherwise (Some (owner.Own w ip)) (Some b) v u = tt
  over_otherwise (Some (owner.Group hops)) (Some b) v u = tt

  nothing_left : (before : List Change) (c : Change) → [] ≡ before ++ c ∷ [] → ⊥
  nothing_left [] c e = cc
  nothing_left (b ∷ before) c e = cc

  made_state : (ids : List Vid) (x : Option Registered) (v : ℕ) → state_in (option_map (made_live ids) x) ≡ state.Retiring v → ⊥
  made_state ids None v e = cc
  made_state ids (Some r) v e = cc

  module _ (w : ℕ) (x : Flown) (at : flown w ≡ Some x) where
    abbrev f : Operation
    f = x.operation

    abbrev m : Machine
    m = s.machine

    its : IsFlown plan names m w x
    its = stands.board.flying w x at

    goes_is : goes_over f.key f.now f.new ≡ goes_over f.key (m.board.applied f.key) f.new
    goes_is = stands.safe.sound.board.goes w (flight_of f) its.flying

    -- a name that is taken away is that of a row that goes
    retiring_goes : (v : ℕ) → state_of names (name.Row f.key) ≡ state.Retiring v → goes_over f.key (m.board.applied f.key) f.new ≡ true
    retiring_goes v st =
        let y = subst (RowStands m f.key) st (stands.board.registers.names_known.rows f.key).stands in
        let same = stands.safe.sound.board.one v w y.flight (flight_of f) y.flying its.flying y.key in
        let flight = same_Some y.flight (flight_of f) (sym y.flying ∙ ap m.board.flights same ∙ its.flying) in
        sym goes_is ∙ sym (ap (λ (g : MachineFlight). g.goes) flight) ∙ y.goes

    over_of : (r : Row) → f.new ≡ Some r → goes_over f.key (m.board.applied f.key) f.new ≡ true → GoesOver f.key (m.board.applied f.key) f.new
    over_of r some goes = by (going_how f.key (m.board.applied f.key) f.new goes)
      where
        by : (f.new ≡ None) ⊎ GoesOver f.key (m.board.applied f.key) f.new → GoesOver f.key (m.board.applied f.key) f.new
        by (inl none) = not_some r (sym none ∙ some)
        by (inr y) = y

    -- an interface shares nothing
    shares_nothing : GoesOver f.key (m.board.applied f.key) f.new → (o : Owner) → IsIn o (uses_of plan f.key f.new) → ⊥
    shares_nothing y o h = subst (IsIn o) (ap (λ z. uses_of plan z f.new) y.key_is ∙ ap (uses_of plan (key.Intf y.on)) y.new_is) h

    retires_nothing : GoesOver f.key (m.board.applied f.key) f.new → f.retires ≡ None
    retires_nothing y = by f.retires refl
      where
        by : (z : Option Owner) → f.retires ≡ z → f.retires ≡ None
        by None e = e
        by (Some o) e =
            let was = stands.safe.sound.board.left w (flight_of f) o its.flying e in
            let row_is : row.Intf y.router_was ≡ was.row = same_Some (row.Intf y.router_was) was.row (sym y.old_is ∙ was.was) in
            absurd (subst (IsIn o) (ap (λ z. uses_of plan z (Some was.row)) y.key_is ∙ ap (λ (z : Row). uses_of plan (key.Intf y.on) (Some z)) (sym row_is)) was.used)

    -- the name of the row when the call is made
    module _ (made : Option Vid) (v : ℕ) where
      row_made : (ids : List Vid) {X : Type 0} → state_of (changed names (name.Row f.key) (made_live ids)) (name.Row f.key) ≡ state.Retiring v → X
      row_made ids h = absurd (made_state ids (registered_at names (name.Row f.key)) v (sym (ap state_in (found_at names (owner.OfRow f.key) (made_live ids))) ∙ h))

      after : (c : Change) → state_of (names_after names f.key c made) (name.Row f.key) ≡ state.Retiring v → state_of names (name.Row f.key) ≡ state.Retiring v
      after (Make (thing.BridgePort lane)) h = sym (ap state_in (found_off names (owner.Bridge lane) (owner.OfRow f.key) (made_live (to_list made)) (λ e. cc))) ∙ h
      after (Make (thing.Own u ip)) h = sym (ap state_in (found_off names (owner.Own u ip) (owner.OfRow f.key) (made_live []) (λ e. cc))) ∙ h
      after (Make (thing.Neighbor hop mac)) h = h
      after (Make (thing.Route u prefix goal)) h = h
      after (Make (thing.Group hops)) h = h
      after (Make (thing.GroupMember hops hop)) h = h
      after (Make t) h = row_made (to_list made) h
      after (Set u) h = h
      after (Take (thing_name.BridgePort lane)) h = sym (ap state_in (gone_off names (owner.Bridge lane) (owner.OfRow f.key) (λ e. cc))) ∙ h
      after (Take (thing_name.Own u ip)) h = sym (ap state_in (gone_off names (owner.Own u ip) (owner.OfRow f.key) (λ e. cc))) ∙ h
      after (Take n) h = h

      later_by : (now : Names) (rest : List Change) (leaves : Option Owner) → f.leaves ≡ leaves → state_of (names_by now f rest leaves) (name.Row f.key) ≡ state.Retiring v → state_of now (name.Row f.key) ≡ state.Retiring v
      later_by now [] (Some o) e h =
          let was = (stands.safe.sound.board.leaves w (flight_of f) o its.flying e).0 in
          sym (ap state_in (left_row now f.worker f.key o (are_shared_by plan is f.key was.row o was.used) f.key)) ∙ h
      later_by now [] None e h = h
      later_by now (c ∷ cs) leaves e h = h

    module _ (begun_so : HasBegun plan names x) (none : x.group ≡ None) (y : GoesOver f.key (m.board.applied f.key) f.new) (c : Change) (due : f.due ≡ c ∷ []) where
      can : Can plan (flight_of f) (StandsIn m) c
      can = (subst (Runs plan (flight_of f) (StandsIn m)) (row_due_is plan is capacities names room flown rid s stands w x at begun_so none ∙ due) (stands.safe.sound.runs w (flight_of f) its.flying)).0

      -- the last change makes its router interface
      rest_not : (n : thing_name.ThingName) → c ≡ Take n → IsRestFrom plan (m.board.applied f.key) f → ⊥
      rest_not n taken (inl (_, (builds, (before, e)))) = ends_behind before n (subst EndsOtherwise (sym (ap (built_here builds) (over_changes plan f.key (m.board.applied f.key) f.new y)) ∙ e ∙ ap (λ l. before ++ l) (due ∙ ap (λ d. d ∷ []) taken)) (over_otherwise builds (base_of plan y.on) y.router_was y.router_is))
      rest_not n taken (inr (before, e)) = nothing_left before c (sym (ap taken_here (retires_nothing y)) ∙ e ∙ ap (λ l. before ++ l) due)

      final_thing : (t : Thing) → IsIn t (own_of plan f.key f.new) → (b : Base) × (t ≡ thing.Rif b y.router_is)
      final_thing t h =
          let z = from_in (base_of plan y.on) (λ b. thing.Rif b y.router_is ∷ []) t (subst (IsIn t) (ap (λ q. own_of plan q f.new) y.key_is ∙ ap (own_of plan (key.Intf y.on)) y.new_is) h) in
          (z.0, only (λ q. q ≡ thing.Rif z.0 y.router_is) t (thing.Rif z.0 y.router_is) refl z.2)

      pub made_last : (t : Thing) → c ≡ Make t → (b : Base) × (t ≡ thing.Rif b y.router_is)
      made_last t e = by (subst (Can plan (flight_of f) (StandsIn m)) e can).final
        where
          by : IsIn t (own_of plan f.key f.new) ⊎ ((o : Owner) × IsIn o (uses_of plan f.key f.new) × IsIn t (shared_things o)) → (b : Base) × (t ≡ thing.Rif b y.router_is)
          by (inl h) = final_thing t h
          by (inr (o, h, _)) = absurd (shares_nothing y o h)

      not_retiring : (made : Option Vid) (v : ℕ) → (d : Change) → c ≡ d → state_of (names_after names f.key d made) (name.Row f.key) ≡ state.Retiring v → ⊥
      not_retiring made v (Take n) e h = rest_not n e its.rest
      not_retiring made v (Set u) e h =
          let order = rest_order plan is (m.board.applied f.key) f (λ r at. stands.safe.sound.board.fit f.key r (inl at)) its.over.new its.rest in
          let now = subst (AreInOrder plan f.key (m.board.applied f.key) f.new) (due ∙ ap (λ z. z ∷ []) e) order in
          false≢true (sym now.1.2 ∙ goes_by f.key (m.board.applied f.key) f.new y)
      not_retiring made v (Make t) e h =
          let z = made_last t e in
          let now = subst (λ q. state_of (names_after names f.key (Make q) made) (name.Row f.key) ≡ state.Retiring v) z.1 h in
          made_state (to_list made) (registered_at names (name.Row f.key)) v (sym (ap state_in (found_at names (owner.OfRow f.key) (made_live (to_list made)))) ∙ now)

    -- ---- of a row

    module _ (begun_so : HasBegun plan names x) (none : x.group ≡ None) (made : Option Vid) (f' : Operation) (names' : Names) (took : IsTook f made names f' names') (nothing : f'.due ≡ []) where
      retiring_never : (r : Row) → f.new ≡ Some r → (v : ℕ) → state_of names' (name.Row f.key) ≡ state.Retiring v → ⊥
      retiring_never r some v st =
          let middle = later_by made v (names_after names f.key took.change made) took.rest f.leaves refl (subst (λ (z : Names). state_of z (name.Row f.key) ≡ state.Retiring v) took.names_are st) in
          let y = over_of r some (retiring_goes v (after made v took.change middle)) in
          not_retiring begun_so none y took.change (took.due ∙ ap (λ l. took.change ∷ l) (last took.rest f.leaves refl y (sym (ap (λ (z : Operation). z.due) took.operation) ∙ nothing))) made v took.change refl middle
        where
          last : (rest : List Change) (leaves : Option Owner) → f.leaves ≡ leaves → GoesOver f.key (m.board.applied f.key) f.new → (operation_by (names_after names f.key took.change made) f took.change rest leaves).due ≡ [] → rest ≡ []
          last [] leaves e y h = refl
          last (c ∷ cs) leaves e y h = absurd cc

      key_by : (now : Names) (c : Change) (rest : List Change) (leaves : Option Owner) → ((operation_by now f c rest leaves).key ≡ f.key) × ((operation_by now f c rest leaves).new ≡ f.new)
      key_by now c [] (Some o) = (refl, refl)
      key_by now c [] None = (refl, refl)
      key_by now c (d ∷ ds) leaves = (refl, refl)

      pub may_took : MayEnd names' w f'.key f'.new
      may_took =
          let same = key_by (names_after names f.key took.change made) took.change took.rest f.leaves in
          subst (λ k. MayEnd names' w k f'.new) (sym (ap (λ (z : Operation). z.key) took.operation ∙ same.0)) (subst (λ z. MayEnd names' w f.key z) (sym (ap (λ (z : Operation). z.new) took.operation ∙ same.1)) (by f.new refl))
        where
          by : (n : Option Row) → f.new ≡ n → MayEnd names' w f.key n
          by None e = tt
          by (Some r) e = λ v st. absurd (retiring_never r e v st)

    -- ---- of a group

    module _ (g : GroupOperation) (has : x.group ≡ Some g) (made : Option Vid) (g' : GroupOperation) (names' : Names) (took : IsGroupTook g made names g' names') where
      row_same : (rest : List Change) → state_of (group_names_by names g (members_with_made g made) rest) (name.Row f.key) ≡ state_of names (name.Row f.key)
      row_same [] = by g.builds
        where
          by : (b : Bool) → state_of (if b then changed names (name.Group g.hops) (made_live (members_with_made g made)) else gone_from names (name.Group g.hops)) (name.Row f.key) ≡ state_of names (name.Row f.key)
          by true = ap state_in (found_off names (owner.Group g.hops) (owner.OfRow f.key) (made_live (members_with_made g made)) (λ e. cc))
          by false = ap state_in (gone_off names (owner.Group g.hops) (owner.OfRow f.key) (λ e. cc))
      row_same (c ∷ cs) = refl

      no_group_over : GoesOver f.key (m.board.applied f.key) f.new → ⊥
      no_group_over y = by (its.group g has).is
        where
          uses_nothing : uses_of plan f.key f.new ≡ []
          uses_nothing = ap (λ z. uses_of plan z f.new) y.key_is ∙ ap (uses_of plan (key.Intf y.on)) y.new_is

          by : ((g.builds ≡ true) × (group_to_build plan names f ≡ Some g.hops)) ⊎ ((g.builds ≡ false) × (group_to_take f ≡ Some g.hops)) → ⊥
          by (inl (_, h)) = not_some g.hops (sym (ap (λ us. built_in names f.worker (group_in us)) uses_nothing) ∙ h)
          by (inr (_, h)) = not_some g.hops (sym (ap (λ z. group_in (to_list z)) (retires_nothing y)) ∙ h)

      pub may_grouped : MayEnd names' w f.key f.new
      may_grouped = by f.new refl
        where
          by : (n : Option Row) → f.new ≡ n → MayEnd names' w f.key n
          by None e = tt
          by (Some r) e = λ v st. absurd (no_group_over (over_of r e (retiring_goes v (sym (row_same took.rest) ∙ subst (λ (z : Names). state_of z (name.Row f.key) ≡ state.Retiring v) took.names_are st))))

  pub ends_took : (w : ℕ) (x x' : Flown) → flown w ≡ Some x → (made : Option Vid) (names' : Names) → HasBegun plan names x → TookFor x.operation x.group made names x' names' → due_for plan names' x' ≡ [] → MayEnd names' w x'.operation.key x'.operation.new
  ends_took w x x' at made names' begun_so took nothing = by x.group refl took
    where
      by : (g : Option GroupOperation) → x.group ≡ g → TookFor x.operation g made names x' names' → MayEnd names' w x'.operation.key x'.operation.new
      by None e (f', step, same) = subst (λ (z : Flown). MayEnd names' w z.operation.key z.operation.new) (sym same) (may_took w x at begun_so e made f' names' step (due_none plan names' f' (subst (λ z. due_for plan names' z ≡ []) same nothing)).0)
      by (Some g) e (g', step, same) = subst (λ (z : Flown). MayEnd names' w z.operation.key z.operation.new) (sym same) (may_grouped w x at g e made g' names' step)

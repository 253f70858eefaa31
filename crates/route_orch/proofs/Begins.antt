-- what begins for a route
use Rattle.std.proofs.Common.{◌≡◌, ◌+◌, ℕ, ◌==◌, Bool, true, false, cond, List, [], ◌∷◌, map, length, Option, Some, None, is_some, Result, OnOk, OnErr, IfOk, IfErr, if◌then◌else◌, refl, sym, ap, ap₂, subst, ◌∙◌, arith, Bor}
use Rattle.swss_types.specs.declared.out_of_memory.OutOfMemory.{OutOfMemory}
use Rattle.table_schema.specs.Plan.{Ports}
use Rattle.table_schema.specs.declared.key.Key.{Key}
use Rattle.table_schema.specs.declared.key.Key.TheVariants as key
use Rattle.table_schema.specs.declared.row.Row.{Row as BareRow}
use Rattle.switch_model.specs.Placed.{Placed as Row}
use Rattle.switch_model.specs.Placed as row
use Rattle.sai_types.specs.declared.weight.WHop.{WHop}
use Rattle.sai_types.specs.declared.thing.Thing.{Thing}
use Rattle.sai_types.specs.declared.thing.Thing.TheVariants as thing
use Rattle.sai_types.specs.declared.kind.Kind.TheVariants as kind
use Rattle.sai_types.specs.Objects.{level}
use Rattle.switch_model.specs.declared.wait.Wait.{Wait}
use Rattle.row_layout.specs.Operations.{Change, Make, Set, make_all, own_changes, same_thing, set_all, set_to, uses_of}
use Rattle.row_layout.specs.Rows.{Group, from, goal_of}
use Rattle.row_layout.specs.Shared.{shared_things}
use Rattle.switch_machine.specs.Flights.{Fits, goes_over}
use Rattle.switch_machine.specs.Operations.{built_first}
use Rattle.switch_machine.specs.Places.{makes}
use Rattle.ref_counts.specs.declared.name.Name.{Name}
use Rattle.ref_counts.specs.declared.name.Name.TheVariants as name
use Rattle.ref_counts.specs.declared.name.NameState.{NameState}
use Rattle.ref_counts.specs.declared.name.NameState.TheVariants as state
use Rattle.ref_counts.specs.Registered.{begun_to_go}
use Rattle.ref_counts.specs.Registry.{Names, changed, state_of}
use Rattle.sai_types.specs.Kinds.{all_kinds}
use Rattle.ref_counts.specs.Room.{Reserves, RoomState}
use Rattle.orch_flight.specs.Needing.{absent_or, first_absent, first_unapplied, places_for, row_names, row_reason, to_build}
use Rattle.orch_flight.specs.Sharing.{begun_by, is_absent, lacks_shared, owners_of}
use Rattle.orch_flight.specs.Starting.{IsBegunBy, begun_names, first_due, leaving, started_names}
use Rattle.orch_flight.specs.Taking.{to_list}
use Rattle.orch_flight.proofs.Begins.{begun-row-when, no_places, places-set, places-taken}
use Rattle.orch_flight.proofs.Rows.{row-names, row-waits}
use Rattle.route_orch.specs.Targets.{AreGroups, IsRouteKey}
use Rattle.route_orch.specs.Routes.{places_needed}
use Rattle.route_orch.proofs.Dues.{built-apart, none-left}
use Rattle.route_orch.proofs.Operations.{rows}
use Rattle.route_orch.proofs.Places.{places-built}
use Rattle.route_orch.proofs.Starts.{names-due}

-- ---- places

abbrev route_places : ℕ → List ℕ
route_places n = 0 ∷ 0 ∷ 0 ∷ 0 ∷ 0 ∷ 0 ∷ 0 ∷ 0 ∷ 0 ∷ 0 ∷ 0 ∷ n ∷ []

abbrev group_places : List WHop → ℕ → List ℕ
group_places hops n = 0 ∷ 0 ∷ 0 ∷ 0 ∷ 0 ∷ 0 ∷ 0 ∷ 0 ∷ 0 ∷ 1 ∷ length hops ∷ n ∷ []

group_counted : (hops : List WHop) (n : ℕ) → 0 ∷ 0 ∷ 0 ∷ 0 ∷ 0 ∷ 0 ∷ 0 ∷ 0 ∷ 0 ∷ 1 ∷ (0 + (length hops + 0)) ∷ n ∷ [] ≡ group_places hops n
group_counted hops n = ap (λ m. 0 ∷ 0 ∷ 0 ∷ 0 ∷ 0 ∷ 0 ∷ 0 ∷ 0 ∷ 0 ∷ 1 ∷ m ∷ n ∷ []) (omega arith)

set_group : (hops : List WHop) (t u : Thing) → places_for (make_all (shared_things (Group hops)) (set_to t u [])) ≡ group_places hops 0
set_group hops t u =
    places-built hops (set_to t u [])
    ∙ (elim (same_thing t u) as (λ b. map (λ k. cond (level kind.Group == level k) 1 0 + (cond (level kind.GroupMember == level k) (length hops) 0 + makes k (if b then [] else Set u ∷ []))) all_kinds ≡ group_places hops 0) [ true ↦ group_counted hops 0 | false ↦ group_counted hops 0 ])

by_state : (s : NameState) (hops : List WHop) (applied : Bool) (own : List Change) → places_for own ≡ route_places (if applied then 0 else 1) → places_for (make_all (shared_things (Group hops)) own) ≡ group_places hops (if applied then 0 else 1) → places_for (built_first (absent_or (Group hops) s None) own) ≡ places_needed (is_absent s) (Some (name.Group hops)) applied
by_state state.Absent hops applied own plain built = built
by_state state.Live hops applied own plain built = plain
by_state (state.Building w) hops applied own plain built = plain
by_state (state.Retiring w) hops applied own plain built = plain

by_group : (names : Names) (group : Option Name) (applied : Bool) (own : List Change) → AreGroups group → places_for own ≡ route_places (if applied then 0 else 1) → ((hops : List WHop) → places_for (make_all (shared_things (Group hops)) own) ≡ group_places hops (if applied then 0 else 1)) → places_for (built_first (first_absent names (owners_of group)) own) ≡ places_needed (lacks_shared names group) group applied
by_group names None applied own groups plain built = plain
by_group names (Some (name.Group hops)) applied own groups plain built = by_state (state_of names (name.Group hops)) hops applied own plain (built hops)
by_group names (Some (name.Row k)) applied own groups plain built = elim groups [ ]
by_group names (Some (name.BridgePort lane)) applied own groups plain built = elim groups [ ]
by_group names (Some (name.Own v ip)) applied own groups plain built = elim groups [ ]

-- ---- where nothing is missing

module _ (plan : Ports) (names : Names) (group : Option Name) (groups : AreGroups group) where
  places : (k : Key) (old : Option Row) (r : Row) → IsRouteKey k → ((a : Row) → old ≡ Some a → Fits plan k a) → Fits plan k r → uses_of plan k (Some r) ≡ owners_of group → places_for (built_first (to_build plan names k (Some r)) (own_changes plan k old (Some r))) ≡ places_needed (lacks_shared names group) group (is_some old)
  places (key.Route v p) None (row.Route r) is of_old fits shares =
      ap (λ us. places_for (built_first (first_absent names us) (own_changes plan (key.Route v p) None (Some (row.Route r))))) shares
      ∙ ap (λ o. places_for (built_first (first_absent names (owners_of group)) (make_all (from o (λ g. thing.Route v p g ∷ [])) []))) fits.1.1
      ∙ by_group names group false (Make (thing.Route v p fits.1.0) ∷ []) groups refl (λ hops. places-built hops (Make (thing.Route v p fits.1.0) ∷ []) ∙ group_counted hops 1)
  places (key.Route v p) (Some (row.Route a)) (row.Route r) is of_old fits shares =
      let was = (of_old (row.Route a) refl).1 in
      ap (λ us. places_for (built_first (first_absent names us) (own_changes plan (key.Route v p) (Some (row.Route a)) (Some (row.Route r))))) shares
      ∙ ap₂ (λ x y. places_for (built_first (first_absent names (owners_of group)) (set_all (from x (λ g. thing.Route v p g ∷ [])) (from y (λ g. thing.Route v p g ∷ []))))) was.1 fits.1.1
      ∙ by_group names group true (set_to (thing.Route v p was.0) (thing.Route v p fits.1.0) []) groups (places-set (thing.Route v p was.0) (thing.Route v p fits.1.0) []) (λ hops. set_group hops (thing.Route v p was.0) (thing.Route v p fits.1.0))
  places (key.Route v p) (Some (row.Route a)) _ is of_old fits shares = elim fits [ ]
  places (key.Route v p) (Some a) r is of_old fits shares = elim (of_old a refl) [ ]
  places (key.Route v p) None _ is of_old fits shares = elim fits [ ]
  places _ old r is of_old fits shares = elim is [ ]

  names_begun : (worker : ℕ) (k : Key) (old : Option Row) (r : Row) → IsRouteKey k → ((a : Row) → old ≡ Some a → Fits plan k a) → Fits plan k r → uses_of plan k (Some r) ≡ owners_of group → started_names plan names worker k old (Some r) ≡ begun_by names worker k (row_names k r) (is_some old) group (lacks_shared names group)
  names_begun worker (key.Route v p) None (row.Route r) is of_old fits shares =
      names-due (begun_names plan names worker (key.Route v p) None (Some (row.Route r))) worker (key.Route v p) (first_due plan names (key.Route v p) None (Some (row.Route r))) (leaving plan (key.Route v p) None (Some (row.Route r))) (λ none. refl)
      ∙ row-names plan names (key.Route v p) (row.Route r) group shares worker None refl
  names_begun worker (key.Route v p) (Some (row.Route a)) (row.Route r) is of_old fits shares =
      let k = key.Route v p in
      let own = own_changes plan k (Some (row.Route a)) (Some (row.Route r)) in
      names-due (begun_names plan names worker k (Some (row.Route a)) (Some (row.Route r))) worker k (first_due plan names k (Some (row.Route a)) (Some (row.Route r))) (leaving plan k (Some (row.Route a)) (Some (row.Route r)))
      (λ none. none-left plan v p (Some a) (Some r) (of_old (row.Route a) refl).1 fits.1 (sym (built-apart names (uses_of plan k (Some (row.Route r))) group own shares groups) ∙ none))
      ∙ row-names plan names k (row.Route r) group shares worker (Some (row.Route a)) refl
  names_begun worker (key.Route v p) (Some (row.Route a)) _ is of_old fits shares = elim fits [ ]
  names_begun worker (key.Route v p) (Some a) r is of_old fits shares = elim (of_old a refl) [ ]
  names_begun worker (key.Route v p) None _ is of_old fits shares = elim fits [ ]
  names_begun worker _ old r is of_old fits shares = elim is [ ]

-- a route goes over to no other router
stays : (k : Key) (old : Option Row) (r : Row) → IsRouteKey k → goes_over k old (Some r) ≡ false
stays (key.Route v p) old r is = refl
stays _ old r is = elim is [ ]

-- ---- the start of a route that is to be there

module _ (plan : Ports) (names : Names) (room : RoomState) (used : List ℕ) (worker : ℕ) (k : Key) (old : Option Row) (r : Row) (group : Option Name) (names' : Names) (room' : RoomState) (res : Result (Result (Unit {0}) Wait) OutOfMemory) where
  -- what the start of a row tells
  pub record IsRowStarted (ks : List Key) (applied : Bool) (need : List ℕ) : Type 0 where
    pub free : IfOk res (λ a. OnOk a (row_reason names room used ks (to_list group) need ≡ None))
    pub begun : IfOk res (λ a. OnOk a (names' ≡ begun_by names worker k ks applied group (lacks_shared names group)))
    pub places : IfOk res (λ a. OnOk a (Reserves room worker need room'))
    pub wait : IfOk res (λ a. IfErr a (λ wait. row_reason names room used ks (to_list group) need ≡ Some wait))
    pub none : IfOk res (λ a. OnErr a (names' ≡ names))
    pub none_room : IfOk res (λ a. OnErr a (room' ≡ room))

  pub brought : (ks : List Key) (applied : Bool) (need : List ℕ) → ks ≡ row_names k r → applied ≡ is_some old → need ≡ places_needed (lacks_shared names group) group applied
      → IsRouteKey k → ((a : Row) → old ≡ Some a → Fits plan k a) → (first_unapplied names (row_names k r) ≡ None → Fits plan k r) → uses_of plan k (Some r) ≡ owners_of group → AreGroups group
      → IsRowStarted ks applied need → IfOk res (λ a. IsBegunBy plan names room used worker k old (Some r) a names' room')
  brought ks applied need is_names is_applied is_need is of_old fits shares groups told =
      let places_are : first_unapplied names (row_names k r) ≡ None → places_for (built_first (to_build plan names k (Some r)) (own_changes plan k old (Some r))) ≡ places_needed (lacks_shared names group) group (is_some old) = λ none. places plan names group groups k old r is of_old (fits none) shares in
      let told : IsRowStarted (row_names k r) (is_some old) (places_needed (lacks_shared names group) group (is_some old)) =
      subst (λ z. IsRowStarted (row_names k r) (is_some old) z) (is_need ∙ ap (places_needed (lacks_shared names group) group) is_applied) (subst (λ z. IsRowStarted (row_names k r) z need) is_applied (subst (λ z. IsRowStarted z applied need) is_names told)) in
      begun-row-when plan names room used worker k old r (is_some old) group (places_needed (lacks_shared names group) group (is_some old)) names' room' res
      (λ none. row-waits plan names k r group shares room used worker old (places_needed (lacks_shared names group) group (is_some old)) (stays k old r is) (places_are none))
      (λ none. names_begun plan names group groups worker k old r is of_old (fits none) shares)
      places_are told.free told.begun told.places told.wait told.none told.none_room

pub some-row : (o : Option (Bor BareRow)) → is_some o ≡ is_some (rows o)
some-row None = refl
some-row (Some r) = refl

-- ---- the start of a route that is to go

pub removed-places : (plan : Ports) (k : Key) (a : Row) → IsRouteKey k → places_for (own_changes plan k (Some a) None) ≡ no_places
removed-places plan (key.Route v p) (row.Route a) is = places-taken (from (goal_of plan a) (λ g. thing.Route v p g ∷ []))
removed-places plan (key.Route v p) _ is = refl
removed-places plan _ a is = elim is [ ]

pub removed-names : (plan : Ports) (names : Names) (worker : ℕ) (k : Key) (a : Row) → IsRouteKey k → Fits plan k a → started_names plan names worker k (Some a) None ≡ changed names (name.Row k) (begun_to_go worker)
removed-names plan names worker (key.Route v p) (row.Route a) is fits =
    names-due (changed names (name.Row (key.Route v p)) (begun_to_go worker)) worker (key.Route v p) (first_due plan names (key.Route v p) (Some (row.Route a)) None) (leaving plan (key.Route v p) (Some (row.Route a)) None) (none-left plan v p (Some a) None fits.1 tt)
removed-names plan names worker (key.Route v p) _ is fits = elim fits [ ]
removed-names plan names worker _ a is fits = elim is [ ]

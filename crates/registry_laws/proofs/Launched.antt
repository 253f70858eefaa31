-- what a worker has under way when an operation has begun
use Rattle.std.proofs.Common.{◌≡◌, ◌∷◌, ◌++◌, ◌∙◌, inl, inr, ℕ, Bool, true, false, if◌then◌else◌, List, [], Option, None, Some, option_map, refl, sym, ap, subst, ◌⊎◌, ◌-◌, ap₂}
use Rattle.swss_types.specs.declared.vrf.Vrf.{Vrf}
use Rattle.table_schema.specs.Plan.{IsPlan, Ports}
use Rattle.table_schema.specs.declared.key.Key.{Key}
use Rattle.table_schema.specs.declared.key.Key.TheVariants as key
use Rattle.table_schema.specs.declared.row.RouteRow.{RouteRow}
use Rattle.table_schema.specs.declared.row.RouteRow.TheVariants as route
use Rattle.sai_types.specs.declared.hop.Base.{Base}
use Rattle.sai_types.specs.declared.weight.WHop.{WHop}
use Rattle.sai_types.specs.declared.thing.Goal.{Goal}
use Rattle.sai_types.specs.declared.thing.Goal.TheVariants as goal
use Rattle.sai_types.specs.declared.thing.Thing.{Thing}
use Rattle.sai_types.specs.declared.thing.Thing.TheVariants as thing
use Rattle.sai_types.specs.Alike.{IsIn}
use Rattle.swss_types.specs.declared.address.Prefix.{Prefix}
use Rattle.switch_model.specs.Things.{base_of, hops_of, lane_of}
use Rattle.switch_model.specs.Placed as row
use Rattle.switch_model.specs.Placed.{Placed as Row}
use Rattle.row_layout.specs.Operations.{Change, Make, Set, make_all, own_changes, same_thing, set_all, set_to, uses_of}
use Rattle.row_layout.specs.Rows as owner
use Rattle.row_layout.specs.Rows.{Owner, from, goal_to, goal_of, own_things}
use Rattle.row_layout.specs.Shared.{group_by, route_uses, uses}
use Rattle.row_layout.proofs.Members.{from_in, only}
use Rattle.switch_machine.specs.Consistent.{IsConsistent}
use Rattle.switch_machine.specs.Flights.{Fits, MachineFlight, HasChangeOf, Machine, Runs, StandsIn, goes_over}
use Rattle.switch_machine.specs.Operations.{MayBegin, built_first}
use Rattle.switch_machine.specs.Steps.{started}
use Rattle.switch_machine.proofs.Beginning.{sound-begun}
use Rattle.sai_types.proofs.Equal.{thing-exact}
use Rattle.sai_types.specs.declared.kind.Kind.{Kind}
use Rattle.switch_machine.proofs.Sequence.{IsShort, uses_short}
use Rattle.switch_machine.proofs.Splits.{own_row_in, put_at}
use Rattle.switch_machine.proofs.Tabled.{address_use, tabled}
use Rattle.switch_machine.specs.Places.{makes}
use Rattle.ref_counts.specs.declared.name.Name.TheVariants as name
use Rattle.ref_counts.specs.declared.name.NameState.TheVariants as state
use Rattle.ref_counts.specs.Registry as registry
use Rattle.ref_counts.specs.Registry.{state_of}
use Rattle.ref_counts.specs.Room.{RoomState}
use Rattle.orch_flight.specs.Calling.{IsChangeFor, SetsTo}
use Rattle.orch_flight.specs.Needing.{name_for, to_build}
use Rattle.orch_flight.specs.Operation.{Operation}
use Rattle.orch_flight.specs.Starting.{begun_names, built_here, first_due, leaving, started_by, started_names_by}
use Rattle.registry_laws.specs.Flown.{built_in, flight_of, group_in, group_to_build, whole_group}
use Rattle.registry_laws.specs.Flying.{IsFlown, IsRestFrom, flown_as}
use Rattle.registry_laws.specs.Known.{SharedStands}
use Rattle.registry_laws.specs.Registers.{Registers, beginning, due_first, group_built}
use Rattle.registry_laws.proofs.Apart.{built_apart}
use Rattle.registry_laws.proofs.Aside.{building_is, built_some}
use Rattle.registry_laws.proofs.Listing.{never_none, not_some, some_of_due}
use Rattle.registry_laws.proofs.Nexts.{next_later, next_now, runs_later, sets_by}
use Rattle.registry_laws.proofs.Rests.{AreInOrder, none_of_group, rest_order}
use Rattle.registry_laws.proofs.Settled.{not_built, settled_by, settled_names_by}
use Rattle.registry_laws.proofs.Sharing.{absent_first}
use Rattle.registry_laws.proofs.Going.{GoesOver, going_how, over_makes}
use Rattle.registry_laws.proofs.Beyond.{first_apart, less_itself, place_if}

-- ---- a route that comes to a group has a change of its own

goal_is : (x : Option (List WHop)) (hops : List WHop) → IsIn (owner.Group hops) (group_by x) → goal_to x ≡ Some (goal.Group hops)
goal_is None hops h = elim h [ ]
goal_is (Some []) hops h = elim h [ ]
goal_is (Some (a ∷ [])) hops h = elim h [ ]
goal_is (Some (a ∷ b ∷ rest)) hops (inl e) = let same : hops ≡ a ∷ b ∷ rest = cc in ap (λ z. Some (goal.Group z)) (sym same)
goal_is (Some (a ∷ b ∷ rest)) hops (inr h) = elim h [ ]

pub use_is : (x : Option (List WHop)) (hops : List WHop) → goal_to x ≡ Some (goal.Group hops) → IsIn (owner.Group hops) (group_by x)
use_is None hops h = not_some (goal.Group hops) h
use_is (Some []) hops h = not_some (goal.Group hops) h
use_is (Some (a ∷ [])) hops h = absurd cc
use_is (Some (a ∷ b ∷ rest)) hops h = let same : a ∷ b ∷ rest ≡ hops = cc in inl (ap owner.Group (sym same))

route_use : (plan : Ports) (r : RouteRow) (hops : List WHop) → goal_of plan r ≡ Some (goal.Group hops) → IsIn (owner.Group hops) (route_uses plan r)
route_use plan route.Drop hops h = absurd cc
route_use plan (route.Direct n) hops h = by (base_of plan n) h
  where
    by : (b : Option Base) → option_map goal.Direct b ≡ Some (goal.Group hops) → IsIn (owner.Group hops) []
    by None e = not_some (goal.Group hops) e
    by (Some b) e = absurd cc
route_use plan (route.Hops rows) hops h = use_is (hops_of plan rows) hops h

set_some : (t u : Thing) → (t ≡ u → ⊥) → set_to t u [] ≡ [] → ⊥
set_some t u apart = by (same_thing t u) refl
  where
    by : (b : Bool) → same_thing t u ≡ b → (if b then [] else Set u ∷ []) ≡ [] → ⊥
    by true e h = apart (thing-exact t u e)
    by false e h = some_of_due (Set u) [] h

module _ (plan : Ports) (hops : List WHop) where
  -- the route's thing that points at the group, in the place of another
  route_some : (v : Vrf) (prefix : Prefix) (rows : Option Goal) → rows ≡ Some (goal.Group hops) → (old : Option Row) → ((a : Row) → old ≡ Some a → Fits plan (key.Route v prefix) a) → (IsIn (owner.Group hops) (uses_of plan (key.Route v prefix) old) → ⊥) → (r : RouteRow) → goal_of plan r ≡ rows → own_changes plan (key.Route v prefix) old (Some (row.Route r)) ≡ [] → ⊥
  route_some v prefix rows is None fits unused r e h = some_of_due (Make (thing.Route v prefix (goal.Group hops))) [] (sym (ap (λ z. make_all (from z (λ g. thing.Route v prefix g ∷ [])) []) (e ∙ is)) ∙ h)
  route_some v prefix rows is (Some (row.Route a)) fits unused r e h =
      let was = (fits (row.Route a) refl).1 in
      set_some (thing.Route v prefix was.0) (thing.Route v prefix (goal.Group hops))
      (λ same. let one : was.0 ≡ goal.Group hops = cc in unused (route_use plan a hops (was.1 ∙ ap Some one)))
      (sym (ap (λ z. set_all (from z (λ g. thing.Route v prefix g ∷ [])) (from (goal_of plan r) (λ g. thing.Route v prefix g ∷ []))) was.1 ∙ ap (λ z. set_all (thing.Route v prefix was.0 ∷ []) (from z (λ g. thing.Route v prefix g ∷ []))) (e ∙ is)) ∙ h)
  route_some v prefix rows is (Some a) fits unused r e h = elim (fits a refl) [ ]

  own_some : (k : Key) (r : Row) (old : Option Row) → IsIn (owner.Group hops) (uses plan k r) → ((a : Row) → old ≡ Some a → Fits plan k a) → (IsIn (owner.Group hops) (uses_of plan k old) → ⊥) → own_changes plan k old (Some r) ≡ [] → ⊥
  own_some (key.Route v prefix) (row.Route (route.Hops rows)) old i fits unused h = route_some v prefix (goal_to (hops_of plan rows)) (goal_is (hops_of plan rows) hops i) old fits unused (route.Hops rows) refl h
  own_some (key.Route v prefix) (row.Route route.Drop) old i fits unused h = i
  own_some (key.Route v prefix) (row.Route (route.Direct n)) old i fits unused h = i
  own_some (key.Member v p) (row.Member t) old i fits unused h = only (λ o. owner.Group hops ≡ o → ⊥) (owner.Group hops) _ (λ z. cc) (from_in (lane_of plan p) (λ lane. owner.Bridge lane ∷ []) (owner.Group hops) i).2 refl
  own_some (key.Addr n ip len) (row.Addr v) old i fits unused h = let z = address_use plan n v ip (owner.Group hops) i in cc
  own_some _ _ old i fits unused h = elim i [ ]

-- ---- the operation before it leaves anything

module _ (plan : Ports) (is : IsPlan plan) (capacities : List ℕ) (m : Machine) (sound : IsConsistent plan m) (names : registry.Names) (room room' : RoomState) (known : Registers plan 4 capacities names room m) (w : ℕ) (k : Key) (new : Option Row) (begins : MayBegin plan m w (beginning plan k (m.board.applied k) new) (due_first plan names k (m.board.applied k) new)) (known' : Registers plan 4 capacities (begun_names plan names w k (m.board.applied k) new) room' (started m w (beginning plan k (m.board.applied k) new) (due_first plan names k (m.board.applied k) new))) (differs : m.board.applied k ≡ None → new ≡ None → ⊥) where
  abbrev old : Option Row
  old = m.board.applied k

  abbrev begun : MachineFlight
  begun = beginning plan k old new

  abbrev pub due : List Change
  due = due_first plan names k old new

  abbrev pub later : Machine
  later = started m w begun due

  abbrev pub names' : registry.Names
  names' = begun_names plan names w k old new

  abbrev own : List Change
  own = first_due plan names k old new

  abbrev builds : Option Owner
  builds = to_build plan names k new

  -- the operation before it leaves anything
  abbrev pub first : Operation
  first = record { worker = w; key = k; now = old; new = new; due = own; leaves = leaving plan k old new; retires = None }

  pub sound' : IsConsistent plan later
  sound' = sound-begun plan is m sound w begun due begins

  abbrev f : MachineFlight
  f = flight_of first

  here : later.board.flights w ≡ Some f
  here = put_at w w (Some begun) m.board.flights refl

  due_is : later.due w ≡ group_built builds ++ own
  due_is = put_at w w due m.due refl ∙ built_apart builds (own_changes plan k old new)

  old_fits : (r : Row) → old ≡ Some r → Fits plan k r
  old_fits r e = sound.board.fit k r (inl e)

  rest : IsRestFrom plan old first
  rest = inl (refl, (builds, ([], refl)))

  in_order : AreInOrder plan k old new own
  in_order = rest_order plan is old first old_fits begins.fit rest

  stands : (hops : List WHop) → SharedStands plan later (owner.Group hops) (state_of names' (name.Group hops))
  stands hops = (known'.names_known.shared (owner.Group hops) tt).stands

  -- ---- the group that it builds

  build_in : (o : Owner) → builds ≡ Some o → IsIn o (uses_of plan k new) × (state_of names (name_for o) ≡ state.Absent)
  build_in o h = by new h
    where
      by : (x : Option Row) → to_build plan names k x ≡ Some o → IsIn o (uses_of plan k x) × (state_of names (name_for o) ≡ state.Absent)
      by None e = not_some o e
      by (Some r) e = absent_first names (uses plan k r) o e

  only_group : (hops : List WHop) → IsIn (owner.Group hops) (uses_of plan k new) → group_in (uses_of plan k new) ≡ Some hops
  only_group hops i = by (uses_short plan k new)
    where
      by : IsShort (uses_of plan k new) → group_in (uses_of plan k new) ≡ Some hops
      by (inl e) = elim (subst (IsIn (owner.Group hops)) e i) [ ]
      by (inr (o, e)) = ap group_in e ∙ ap (λ z. group_in (z ∷ [])) (sym (one (subst (IsIn (owner.Group hops)) e i)))
        where
          one : IsIn (owner.Group hops) (o ∷ []) → owner.Group hops ≡ o
          one (inl same) = same
          one (inr none) = elim none [ ]

  builds_group : (hops : List WHop) → builds ≡ Some (owner.Group hops) → group_to_build plan names' first ≡ Some hops
  builds_group hops e = ap (built_in names' w) (only_group hops (build_in (owner.Group hops) e).0) ∙ built_some names' w hops (building_is plan is later sound' (owner.Group hops) w f (state_of names' (name.Group hops)) (stands hops) here touched (λ none. not_some (owner.Group hops) none))
    where
      touched : HasChangeOf plan (later.due w) (owner.Group hops)
      touched = (Make (thing.Group hops), subst (IsIn (Make (thing.Group hops))) (sym (due_is ∙ ap (λ b. group_built b ++ own) e)) (inl refl), refl)

  builds_none : group_built builds ≡ [] → group_to_build plan names' first ≡ None
  builds_none e = not_built plan names' later first stands (λ hops t other. none_of_group plan k old new own t.0 in_order (subst (IsIn t.0) (due_is ∙ ap (λ g. g ++ own) e) t.1) (hops, t.2))

  -- what is due of the group is what its operation is to make
  group_is : (x : Option Owner) → builds ≡ x → whole_group (group_to_build plan names' first) None ≡ group_built x
  group_is None e = ap (λ z. whole_group z None) (builds_none (ap group_built e))
  group_is (Some (owner.OfRow q)) e = ap (λ z. whole_group z None) (builds_none (ap group_built e))
  group_is (Some (owner.Bridge lane)) e = ap (λ z. whole_group z None) (builds_none (ap group_built e))
  group_is (Some (owner.Own v ip)) e = ap (λ z. whole_group z None) (builds_none (ap group_built e))
  group_is (Some (owner.Group hops)) e = ap (λ z. whole_group z None) (builds_group hops e)

  -- and it has changes of its own after it
  has_own : (hops : List WHop) → group_to_build plan names' first ≡ Some hops → own ≡ [] → ⊥
  has_own hops h none = by builds refl
    where
      nothing : group_built builds ≡ [] → ⊥
      nothing e = never_none hops (sym h ∙ builds_none e)

      by_row : (group : List WHop) → builds ≡ Some (owner.Group group) → (x : Option Row) → new ≡ x → ⊥
      by_row group e None is_new = not_some (owner.Group group) (sym (ap (to_build plan names k) is_new) ∙ e)
      by_row group e (Some r) is_new =
          let b = build_in (owner.Group group) e in
          let absent = subst (SharedStands plan m (owner.Group group)) b.1 (known.names_known.shared (owner.Group group) tt).stands in
          own_some plan group k r old (subst (λ z. IsIn (owner.Group group) (uses_of plan k z)) is_new b.0) old_fits
          (λ i. absent.0 k (inr (begins.rests, i)))
          (ap (λ z. own_changes plan k old z) (sym is_new) ∙ sym (ap (λ z. built_here z (own_changes plan k old new)) e) ∙ none)

      by : (x : Option Owner) → builds ≡ x → ⊥
      by None e = nothing (ap group_built e)
      by (Some (owner.OfRow q)) e = nothing (ap group_built e)
      by (Some (owner.Bridge lane)) e = nothing (ap group_built e)
      by (Some (owner.Own v ip)) e = nothing (ap group_built e)
      by (Some (owner.Group group)) e = by_row group e new refl

  -- ---- and its own changes

  now_runs : Runs plan f (StandsIn later) (group_built builds ++ own)
  now_runs = subst (Runs plan f (StandsIn later)) due_is (sound'.runs w f here)

  -- a row that goes builds nothing
  built_none : goes_over k old new ≡ true → builds ≡ None
  built_none goes = by (going_how k old new goes)
    where
      by : (new ≡ None) ⊎ GoesOver k old new → builds ≡ None
      by (inl none) = ap (to_build plan names k) none
      by (inr x) = ap₂ (to_build plan names) x.key_is x.new_is

  next : IsChangeFor plan first own
  next = by (goes_over k old new) refl
    where
      by : (b : Bool) → goes_over k old new ≡ b → IsChangeFor plan first own
      by false e =
          let runs = runs_later plan f (group_built builds) own (StandsIn later) now_runs in
          next_later plan is later sound' w first here old_fits (inl refl) runs.0 own in_order e refl runs.1
      by true e = next_now plan is later sound' w first here old_fits (inl refl) own in_order (subst (λ b. Runs plan f (StandsIn later) (group_built b ++ own)) (built_none e) now_runs)

  sets : SetsTo plan first own
  sets = let runs = runs_later plan f (group_built builds) own (StandsIn later) now_runs in sets_by plan first runs.0 own runs.1

  pub first_flown : IsFlown plan names' later w (flown_as first None)
  first_flown = record {
    flying = here;
    worker = refl;
    due = due_is ∙ ap (λ g. g ++ own) (sym (group_is builds refl));
    over = record { plans = is; now = old_fits; new = begins.fit; next = next; sets = sets };
    some = differs;
    rest = rest;
    between = inl refl;
    standing = λ t c i j e. let r = own_row_in plan k old t i in (sound.rest k t begins.rests ((tabled plan is).own k r.0 t (old_fits r.0 r.1) r.2)).1 i;
    later = has_own;
    group = λ g h. not_some g h;
    beyond = λ q. ap₂ (λ a b. makes q a - makes q b) (put_at w w due m.due refl) kept ∙ less_itself (makes q due) ∙ sym (ap (λ b. place_if b q) (first_apart plan names k old new old_fits begins.fit));
    reserves = λ r e goes q. ap (makes q) (kept ∙ ap (λ b. built_first b (own_changes plan k old new)) (built_none goes)) ∙ by_row r e q (going_how k old new goes);
  }
    where
      kept : later.reserved w ≡ due
      kept = put_at w w due m.reserved refl

      by_row : (r : Row) → new ≡ Some r → (q : Kind) → (new ≡ None) ⊎ GoesOver k old new → makes q (own_changes plan k old new) ≡ 0
      by_row r e q (inl none) = not_some r (sym none ∙ e)
      by_row r e q (inr x) = over_makes plan k old new x q

-- the operation that starts is the one that has left what it had to
pub started_is : (names : registry.Names) (w : ℕ) (k : Key) (was new : Option Row) (due : List Change) (leaves : Option Owner) → started_by names w k was new due leaves ≡ settled_by names (record { worker = w; key = k; now = was; new = new; due = due; leaves = leaves; retires = None }) due leaves
started_is names w k was new [] (Some o) = refl
started_is names w k was new [] None = refl
started_is names w k was new (c ∷ cs) leaves = refl

pub started_names_is : (names : registry.Names) (w : ℕ) (k : Key) (was new : Option Row) (due : List Change) (leaves : Option Owner) → started_names_by names w k due leaves ≡ settled_names_by names (record { worker = w; key = k; now = was; new = new; due = due; leaves = leaves; retires = None }) due leaves
started_names_is names w k was new [] (Some o) = refl
started_names_is names w k was new [] None = refl
started_names_is names w k was new (c ∷ cs) leaves = refl

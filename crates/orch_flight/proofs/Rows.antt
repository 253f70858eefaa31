-- the start of a row's operation, by the name of what the row shares
use Rattle.std.proofs.Common.{◌≡◌, inl, ℕ, Bool, true, false, List, [], ◌∷◌, ◌++◌, map, Option, Some, None, option_map, is_some, if◌then◌else◌, Result, Ok, Err, OnOk, OnErr, IfOk, IfErr, refl, sym, ap, ap₂, ◌∙◌, subst}
use Rattle.std.specs.Result.{result_and}
use Rattle.std.specs.BTreeMap.{insert_entry}
use Rattle.swss_types.specs.declared.out_of_memory.OutOfMemory.{OutOfMemory}
use Rattle.table_schema.specs.Plan.{Ports}
use Rattle.table_schema.specs.declared.key.Key.{Key}
use Rattle.sai_types.specs.Alike.{IsIn}
use Rattle.switch_model.specs.Placed.{Placed as Row}
use Rattle.switch_model.specs.declared.wait.Wait.{Wait}
use Rattle.switch_model.specs.declared.wait.Wait.TheVariants as wait
use Rattle.row_layout.specs.Operations.{own_changes}
use Rattle.row_layout.specs.Rows.{Owner}
use Rattle.row_layout.specs.Shared.{uses}
use Rattle.ref_counts.specs.declared.name.Name.{Name}
use Rattle.ref_counts.specs.declared.name.Name.TheVariants as name
use Rattle.ref_counts.specs.declared.name.NameState.{NameState}
use Rattle.ref_counts.specs.declared.name.NameState.TheVariants as state
use Rattle.ref_counts.specs.Registered.{begun, begun_to_go, first_of, with_user}
use Rattle.ref_counts.specs.Registry.{Names, changed, registered_at, registered_name_cmp, pinned, state_of, users_of}
use Rattle.ref_counts.specs.Room.{Reserves, RoomState, lacking}
use Rattle.switch_machine.specs.Flights.{goes_over}
use Rattle.switch_machine.specs.Operations.{built_first}
use Rattle.orch_flight.specs.Needing.{absent_or, crowded_for, first_absent, first_unapplied, holder_of, busy_for, least_of, least_with, name_for, names_needed, or_else, pinning, places_for, row_names, row_reason, to_build, wait_of, workers_on}
use Rattle.orch_flight.specs.Operation.{Operation}
use Rattle.orch_flight.specs.Sharing.{MayShare, begun_by, is_absent, lacks_shared, owner_for, owners_of, with_row_begun, with_shared}
use Rattle.orch_flight.specs.Starting.{IsBegunBy, IsStartedBy, answered, begun_names, first_due, ids_for, leaving, started_names_by, started_operation, used_by, with_building, with_own}
use Rattle.orch_flight.specs.Taking.{to_list}
use Rattle.orch_flight.proofs.Begins.{begun-row-when, names-plain, none-missing}

pub same-name : (n : Name) → name_for (owner_for n) ≡ n
same-name (name.Row k) = refl
same-name (name.BridgePort lane) = refl
same-name (name.Own v ip) = refl
same-name (name.Group hops) = refl

-- what a row shares may be shared
pub may-share : (names : Names) (us : List Owner) (shared : Option Name) → us ≡ owners_of shared → ((o : Owner) → IsIn o us → MayShare names (Some (name_for o))) → MayShare names shared
may-share names us None is may = tt
may-share names us (Some n) is may = subst (λ m. MayShare names (Some m)) (same-name n) (may (owner_for n) (subst (IsIn (owner_for n)) (sym is) (inl refl)))

names-shared : (shared : Option Name) → map name_for (owners_of shared) ≡ to_list shared
names-shared None = refl
names-shared (Some n) = ap (λ m. m ∷ []) (same-name n)

-- the owner that is to be built, where it is
abbrev pub built_of : Option Name → Bool → Option Owner
built_of None builds = None
built_of (Some n) true = Some (owner_for n)
built_of (Some n) false = None

absent-by : (n : Name) (s : NameState) → absent_or (owner_for n) s None ≡ built_of (Some n) (is_absent s)
absent-by n state.Absent = refl
absent-by n state.Live = refl
absent-by n (state.Building worker) = refl
absent-by n (state.Retiring worker) = refl

absent-shared : (names : Names) (shared : Option Name) → first_absent names (owners_of shared) ≡ built_of shared (lacks_shared names shared)
absent-shared names None = refl
absent-shared names (Some n) = ap (λ m. absent_or (owner_for n) (state_of names m) None) (same-name n) ∙ absent-by n (state_of names n)

shared-begun : (names : Names) (worker : ℕ) (k : Key) (shared : Option Name) (builds : Bool) → used_by (with_building names worker (built_of shared builds)) k (owners_of shared) ≡ with_shared names worker k shared builds
shared-begun names worker k None builds = refl
shared-begun names worker k (Some n) true = ap (λ m. changed (insert_entry registered_name_cmp names m (begun worker (ids_for (owner_for n)))) m (with_user k)) (same-name n)
shared-begun names worker k (Some n) false = ap (λ m. changed names m (with_user k)) (same-name n)

own-begun : (names : Names) (worker : ℕ) (k : Key) (old : Option Row) (r : Row) → goes_over k old (Some r) ≡ false → with_own names worker k old (Some r) ≡ with_row_begun names worker k (is_some old)
own-begun names worker k None r stays = refl
own-begun names worker k (Some a) r stays = ap (λ b. if b then changed names (name.Row k) (begun_to_go worker) else names) stays

module _ (plan : Ports) (names : Names) (k : Key) (r : Row) (shared : Option Name) (is : uses plan k r ≡ owners_of shared) where
  -- what is built is what the row shares, where nothing of it is there
  pub row-builds : to_build plan names k (Some r) ≡ built_of shared (lacks_shared names shared)
  row-builds = ap (first_absent names) is ∙ absent-shared names shared

  pub row-waits : (room : RoomState) (used : List ℕ) (worker : ℕ) (old : Option Row) (need : List ℕ) → goes_over k old (Some r) ≡ false → places_for (built_first (to_build plan names k (Some r)) (own_changes plan k old (Some r))) ≡ need → wait_of plan names room used worker k old (Some r) ≡ row_reason names room used (row_names k r) (to_list shared) need
  row-waits room used worker old need stays places =
      let missing = option_map wait.Missing (first_unapplied names (row_names k r)) in
      ap (λ b. or_else missing (or_else (if b then option_map wait.Held (first_of (users_of names (name.Row k))) else None) (or_else (option_map wait.Busy (least_with (if b then pinning worker (registered_at names (name.Row k)) else None) (least_of (workers_on names (names_needed plan k (Some r)))))) (crowded_for plan names room used k old (Some r))))) stays
      ∙ ap (λ ns. or_else missing (or_else (option_map wait.Busy (least_of (workers_on names (map name.Row (row_names k r) ++ ns)))) (crowded_for plan names room used k old (Some r)))) (ap (map name_for) is ∙ names-shared shared)
      ∙ ap (λ n. or_else missing (or_else (option_map wait.Busy (least_of (workers_on names (map name.Row (row_names k r) ++ to_list shared)))) (option_map wait.NoRoom (lacking room n used)))) places

  pub row-names : (worker : ℕ) (old : Option Row) → goes_over k old (Some r) ≡ false → begun_names plan names worker k old (Some r) ≡ begun_by names worker k (row_names k r) (is_some old) shared (lacks_shared names shared)
  row-names worker old stays =
      let own = with_own (pinned names worker k (row_names k r)) worker k old (Some r) in
      ap₂ (λ o os. used_by (with_building own worker o) k os) row-builds is
      ∙ shared-begun own worker k shared (lacks_shared names shared)
      ∙ ap (λ l. with_shared l worker k shared (lacks_shared names shared)) (own-begun (pinned names worker k (row_names k r)) worker k old r stays)

module _ (plan : Ports) (names : Names) (room : RoomState) (used : List ℕ) (worker : ℕ) (k : Key) (old : Option Row) (r : Row) where
  -- a row that leaves nothing that it shared begins, where its places are known once nothing is missing
  pub row-begins : (shared : Option Name) (need : List ℕ) (names' : Names) (room' : RoomState) (res : Result (Result (Unit {0}) Wait) OutOfMemory)
      → uses plan k r ≡ owners_of shared
      → goes_over k old (Some r) ≡ false
      → (first_unapplied names (row_names k r) ≡ None → leaving plan k old (Some r) ≡ None)
      → (first_unapplied names (row_names k r) ≡ None → places_for (built_first (to_build plan names k (Some r)) (own_changes plan k old (Some r))) ≡ need)
      → IfOk res (λ a. OnOk a (row_reason names room used (row_names k r) (to_list shared) need ≡ None))
      → IfOk res (λ a. OnOk a (names' ≡ begun_by names worker k (row_names k r) (is_some old) shared (lacks_shared names shared)))
      → IfOk res (λ a. OnOk a (Reserves room worker need room'))
      → IfOk res (λ a. IfErr a (λ w. row_reason names room used (row_names k r) (to_list shared) need ≡ Some w))
      → IfOk res (λ a. OnErr a (names' ≡ names))
      → IfOk res (λ a. OnErr a (room' ≡ room))
      → IfOk res (λ a. IsBegunBy plan names room used worker k old (Some r) a names' room')
  row-begins shared need names' room' res is stays leaves places free begins reserves waits same same_room =
      begun-row-when plan names room used worker k old r (is_some old) shared need names' room' res
      (λ none. row-waits plan names k r shared is room used worker old need stays (places none))
      (λ none. ap (started_names_by (begun_names plan names worker k old (Some r)) worker k (first_due plan names k old (Some r))) (leaves none) ∙ names-plain (begun_names plan names worker k old (Some r)) worker k (first_due plan names k old (Some r)) ∙ row-names plan names k r shared is worker old stays)
      places free begins reserves waits same same_room

  -- and its operation starts
  pub row-starts : {X : Type 0} (operation : X → Operation) (x : X) (names' : Names) (room' : RoomState) (begun : Result (Unit {0}) Wait) (answer : Result X Wait)
      → answer ≡ result_and begun (Ok x)
      → (first_unapplied names (row_names k r) ≡ None → operation x ≡ started_operation plan names worker k old (Some r))
      → IsBegunBy plan names room used worker k old (Some r) begun names' room'
      → IsStartedBy plan names room used worker k old (Some r) (answered operation answer) names' room'
  row-starts operation x names' room' begun answer is made begins = rw is (by begun begins)
    where
      by : (begun : Result (Unit {0}) Wait) → IsBegunBy plan names room used worker k old (Some r) begun names' room' → IsStartedBy plan names room used worker k old (Some r) (answered operation (result_and begun (Ok x))) names' room'
      by (Ok u) (free, is, places) = (free, made (none-missing (first_unapplied names (row_names k r)) (or_else (holder_of names k old (Some r)) (or_else (busy_for plan names worker k old (Some r)) (crowded_for plan names room used k old (Some r)))) free), is, places)
      by (Err w) h = h

-- a row that is to go, which leaves nothing that it shared
pub removal-starts : {X : Type 0} (plan : Ports) (names : Names) (room : RoomState) (used : List ℕ) (worker : ℕ) (k : Key) (old : Option Row) (operation : X → Operation) (x : X) (names' : Names) (room' : RoomState) (begun : Result (Unit {0}) Wait) (answer : Result X Wait)
    → answer ≡ result_and begun (Ok x)
    → operation x ≡ started_operation plan names worker k old None
    → IsBegunBy plan names room used worker k old None begun names' room'
    → IsStartedBy plan names room used worker k old None (answered operation answer) names' room'
removal-starts {X} plan names room used worker k old operation x names' room' begun answer is made begins = rw is (by begun begins)
  where
    by : (begun : Result (Unit {0}) Wait) → IsBegunBy plan names room used worker k old None begun names' room' → IsStartedBy plan names room used worker k old None (answered operation (result_and begun (Ok x))) names' room'
    by (Ok u) (free, is, places) = (free, made, is, places)
    by (Err w) h = h

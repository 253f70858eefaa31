-- What a row shares, by the names under which the registry keeps it, and what becomes of names when its operation begins. Own.
use Rattle.std.specs.Prelude.{◌≡◌, ◌<◌, ℕ, Bool, true, false, List, [], ◌∷◌, Option, Some, None, option_map}
use Rattle.std.specs.List.{AllByRecursion}
use Rattle.std.specs.BTreeMap.{insert_entry}
use Rattle.table_schema.specs.Plan.{Ports}
use Rattle.table_schema.specs.declared.key.Key.{Key}
use Rattle.sai_types.specs.Alike.{IsIn}
use Rattle.switch_model.specs.Placed.{Placed as Row}
use Rattle.row_layout.specs.Operations.{uses_of}
use Rattle.row_layout.specs.Rows.{Owner, OfRow, Bridge, Own, Group}
use Rattle.switch_machine.specs.Flights.{Fits}
use Rattle.ref_counts.specs.declared.name.Name.{Name}
use Rattle.ref_counts.specs.declared.name.Name.TheVariants as name
use Rattle.ref_counts.specs.declared.name.NameState.{NameState}
use Rattle.ref_counts.specs.declared.name.NameState.TheVariants as state
use Rattle.ref_counts.specs.Registered.{IsReadable, begun, pins_but, with_user}
use Rattle.ref_counts.specs.Registry.{Names, changed, registered_name_cmp, pinned, registered_at, state_of}
use Rattle.orch_flight.specs.Needing.{first_unapplied, name_for, row_names}
use Rattle.orch_flight.specs.Starting.{ids_for, ids_for_row}

-- the owner of what the registry keeps under a name
abbrev pub owner_for : Name → Owner
owner_for (name.Row k) = OfRow k
owner_for (name.BridgePort lane) = Bridge lane
owner_for (name.Own v ip) = Own v ip
owner_for (name.Group hops) = Group hops

abbrev pub owners_of : Option Name → List Owner
owners_of None = []
owners_of (Some n) = owner_for n ∷ []

abbrev pub is_absent : NameState → Bool
is_absent state.Absent = true
is_absent _ = false

-- how what is shared stands: where nothing is, nobody has to build it, as if it were live
abbrev pub shared_state : Names → Option Name → NameState
shared_state names None = state.Live
shared_state names (Some n) = state_of names n

-- nothing of what is shared is there
abbrev pub lacks_shared : Names → Option Name → Bool
lacks_shared names shared = is_absent (shared_state names shared)

-- the name of a key begins to be built, unless its row is applied
abbrev pub with_row_begun : Names → ℕ → Key → Bool → Names
with_row_begun names worker k true = names
with_row_begun names worker k false = insert_entry registered_name_cmp names (name.Row k) (begun worker (ids_for_row k))

abbrev pub with_shared_begun : Names → ℕ → Name → Bool → Names
with_shared_begun names worker n true = insert_entry registered_name_cmp names n (begun worker (ids_for (owner_for n)))
with_shared_begun names worker n false = names

-- what is shared begins to be built where it is to be, and the key uses it
abbrev pub with_shared : Names → ℕ → Key → Option Name → Bool → Names
with_shared names worker k None builds = names
with_shared names worker k (Some n) builds = changed (with_shared_begun names worker n builds) n (with_user k)

-- the rows that the new row names are pinned, its own name and what it shares begin to be built, and the key uses what it shares
abbrev pub begun_by : Names → ℕ → Key → List Key → Bool → Option Name → Bool → Names
begun_by names worker k ks applied shared builds = with_shared (with_row_begun (pinned names worker k ks) worker k applied) worker k shared builds

-- it is not the name of a row
abbrev pub IsOfShared : Name → Type 0
IsOfShared (name.Row k) = ⊥
IsOfShared _ = Unit {0}

abbrev pub AreOfShared : Option Name → Type 0
AreOfShared None = Unit {0}
AreOfShared (Some n) = IsOfShared n

-- what is known of a name's state, where it is registered
abbrev pub stage_of : Names → Name → Option NameState
stage_of names n = option_map (λ r. r.state) (registered_at names n)

-- it is live, or not registered: no operation builds it or takes it away
abbrev pub IsLiveOrAbsent : Option NameState → Type 0
IsLiveOrAbsent None = Unit {0}
IsLiveOrAbsent (Some stage) = stage ≡ state.Live

abbrev pub IsNameReady : Names → Option Name → Type 0
IsNameReady names None = Unit {0}
IsNameReady names (Some n) = IsOfShared n × IsLiveOrAbsent (stage_of names n)

-- it may be absent, but is not registered as that
abbrev pub MayShare : Names → Option Name → Type 0
MayShare names None = Unit {0}
MayShare names (Some n) = IsOfShared n × (stage_of names n ≡ Some state.Absent → ⊥)

-- each pin is another worker's
abbrev pub HasNoPins : Names → ℕ → Type 0
HasNoPins names worker = AllByRecursion (λ e. pins_but worker e.1.pins ≡ e.1.pins) names

-- when an operation may start: its worker has no pins, the key's row is applied or its name is not there, one of the rows is there, a new row fits its table where what it names is applied, and what the rows share is as it is between operations
pub record MayStart (plan : Ports) (names : Names) (worker : ℕ) (k : Key) (old new : Option Row) : Type 0 where
  pub below : worker < 4
  pub readable : IsReadable k
  pub unpinned : HasNoPins names worker
  pub absent : old ≡ None → registered_at names (name.Row k) ≡ None
  pub applied : (r : Row) → old ≡ Some r → state_of names (name.Row k) ≡ state.Live
  pub some : old ≡ None → new ≡ None → ⊥
  pub old_fits : (r : Row) → old ≡ Some r → Fits plan k r
  pub new_fits : (r : Row) → new ≡ Some r → first_unapplied names (row_names k r) ≡ None → Fits plan k r
  pub shares : (o : Owner) → IsIn o (uses_of plan k new) → MayShare names (Some (name_for o))
  pub shared : (o : Owner) → IsIn o (uses_of plan k old) → state_of names (name_for o) ≡ state.Live

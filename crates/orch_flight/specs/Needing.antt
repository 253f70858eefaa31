-- What the operation of a row needs of names, and why it has to wait. Own.
use Rattle.std.specs.Prelude.{ℕ, List, [], ◌∷◌, ◌++◌, map, Option, Some, None, option_map, if◌then◌else◌}
use Rattle.table_schema.specs.Names.{names_of}
use Rattle.table_schema.specs.Plan.{Ports}
use Rattle.table_schema.specs.declared.key.Key.{Key}
use Rattle.sai_types.specs.Named.{those}
use Rattle.switch_model.specs.Placed.{Placed as Row, bare}
use Rattle.switch_model.specs.declared.wait.Wait.{Wait}
use Rattle.switch_model.specs.declared.wait.Wait.TheVariants as wait
use Rattle.row_layout.specs.Operations.{Change, own_changes}
use Rattle.row_layout.specs.Rows.{Owner, OfRow, Bridge, Own, Group}
use Rattle.row_layout.specs.Shared.{uses}
use Rattle.switch_machine.specs.Flights.{goes_over}
use Rattle.switch_machine.specs.Operations.{built_first}
use Rattle.switch_machine.specs.Places.{makes}
use Rattle.ref_counts.specs.declared.name.Name.{Name}
use Rattle.ref_counts.specs.declared.name.Name.TheVariants as name
use Rattle.ref_counts.specs.declared.name.NameState.{NameState}
use Rattle.ref_counts.specs.declared.name.NameState.TheVariants as state
use Rattle.ref_counts.specs.Registered.{Registered, first_of, least_worker, lesser, pins_but}
use Rattle.ref_counts.specs.Registry.{Names, owner_in, registered_at, retire_refusal_at, state_of, users_of}
use Rattle.sai_types.specs.Kinds.{all_kinds}
use Rattle.ref_counts.specs.Room.{RoomState, lacking}

-- the name under which the registry keeps what belongs to an owner
abbrev pub name_for : Owner → Name
name_for (OfRow k) = name.Row k
name_for (Bridge lane) = name.BridgePort lane
name_for (Own v ip) = name.Own v ip
name_for (Group hops) = name.Group hops

-- the keys that a row in its place names in its table: an address its interface alone. Their rows are pinned for it, and it is one of their users
abbrev pub row_names : Key → Row → List Key
row_names k r = names_of k (bare r)

-- what a new row needs: the rows that it names, and what it shares
abbrev pub names_needed : Ports → Key → Option Row → List Name
names_needed plan k None = []
names_needed plan k (Some r) = map name.Row (row_names k r) ++ map name_for (uses plan k r)

-- ---- reasons

-- a key is applied while its row is live, or goes
abbrev pub unapplied_or : Key → NameState → Option Key → Option Key
unapplied_or k state.Live other = other
unapplied_or k (state.Retiring worker) other = other
unapplied_or k _ other = Some k

-- the first of these keys that is not applied
abbrev pub first_unapplied : Names → List Key → Option Key
first_unapplied names [] = None
first_unapplied names (k ∷ ks) = unapplied_or k (state_of names (name.Row k)) (first_unapplied names ks)

-- the first key that the new row names and that is not applied
abbrev pub missing_for : Names → Key → Option Row → Option Wait
missing_for names k None = None
missing_for names k (Some r) = option_map wait.Missing (first_unapplied names (row_names k r))

-- where the applied row is to go, the least key whose applied row names it
abbrev pub holder_of : Names → Key → Option Row → Option Row → Option Wait
holder_of names k old new = if goes_over k old new then option_map wait.Held (first_of (users_of names (name.Row k))) else None

abbrev pub least_of : List ℕ → Option ℕ
least_of [] = None
least_of (n ∷ ns) = Some (lesser n (least_of ns))

-- the workers whose operations build these names or take them away
abbrev pub workers_on : Names → List Name → List ℕ
workers_on names ns = those (map (λ n. owner_in (state_of names n)) ns)

abbrev pub pinning : ℕ → Option Registered → Option ℕ
pinning worker None = None
pinning worker (Some r) = least_worker (pins_but worker r.pins)

abbrev pub least_with : Option ℕ → Option ℕ → Option ℕ
least_with None other = other
least_with (Some n) other = Some (lesser n other)

-- the least other worker that pins the applied row, where that is to go
abbrev pub pinning_old : Names → ℕ → Key → Option Row → Option Row → Option ℕ
pinning_old names worker k old new = if goes_over k old new then pinning worker (registered_at names (name.Row k)) else None

-- the least other worker whose operation builds or takes away what the new row needs, or pins the row that is to go
abbrev pub busy_for : Ports → Names → ℕ → Key → Option Row → Option Row → Option Wait
busy_for plan names worker k old None = option_map wait.Busy (pinning worker (registered_at names (name.Row k)))
busy_for plan names worker k old (Some r) = option_map wait.Busy (least_with (pinning_old names worker k old (Some r)) (least_of (workers_on names (names_needed plan k (Some r)))))

-- ---- what is built, and the places for it

abbrev pub absent_or : Owner → NameState → Option Owner → Option Owner
absent_or o state.Absent other = Some o
absent_or o _ other = other

-- the first of these owners of which nothing is there
abbrev pub first_absent : Names → List Owner → Option Owner
first_absent names [] = None
first_absent names (o ∷ os) = absent_or o (state_of names (name_for o)) (first_absent names os)

-- what the new row shares, where nothing of it is there
abbrev pub to_build : Ports → Names → Key → Option Row → Option Owner
to_build plan names k None = None
to_build plan names k (Some r) = first_absent names (uses plan k r)

-- how many objects of each kind changes make
abbrev pub places_for : List Change → List ℕ
places_for due = map (λ kind. makes kind due) all_kinds

-- the first kind of which there is too little room for what the operation makes
abbrev pub crowded_for : Ports → Names → RoomState → List ℕ → Key → Option Row → Option Row → Option Wait
crowded_for plan names room used k old new = option_map wait.NoRoom (lacking room (places_for (built_first (to_build plan names k new) (own_changes plan k old new))) used)

abbrev pub or_else : Option Wait → Option Wait → Option Wait
or_else None other = other
or_else (Some wait) other = Some wait

-- the first reason that holds: a name is missing, a row holds the one that is to go, an operation is in the way, there is no room
abbrev pub wait_of : Ports → Names → RoomState → List ℕ → ℕ → Key → Option Row → Option Row → Option Wait
wait_of plan names room used worker k old new =
    or_else (missing_for names k new) (or_else (holder_of names k old new) (or_else (busy_for plan names worker k old new) (crowded_for plan names room used k old new)))

-- the first reason that holds for a row that names these keys, shares what has these names, and needs these places
abbrev pub row_reason : Names → RoomState → List ℕ → List Key → List Name → List ℕ → Option Wait
row_reason names room used ks shared need =
    or_else (option_map wait.Missing (first_unapplied names ks)) (or_else (option_map wait.Busy (least_of (workers_on names (map name.Row ks ++ shared)))) (option_map wait.NoRoom (lacking room need used)))

-- why a row may not be taken away, where the least of the workers that are in the way otherwise is known
abbrev pub refusal_with : Option Wait → Option ℕ → Option Wait
refusal_with None other = option_map wait.Busy other
refusal_with (Some (wait.Busy worker)) other = Some (wait.Busy (lesser worker other))
refusal_with (Some refusal) other = Some refusal

-- and for one that names these keys and comes in the place of an applied row that goes: it shares nothing, and its places are kept
abbrev pub moved_reason : Names → ℕ → Key → List Key → Option Wait
moved_reason names worker k ks =
    or_else (option_map wait.Missing (first_unapplied names ks)) (refusal_with (retire_refusal_at names worker (name.Row k)) (least_of (workers_on names (map name.Row ks))))

-- How an operation starts: what becomes of names and places, and which changes are due. Own.
use Rattle.std.specs.Prelude.{◌≡◌, ℕ, List, [], ◌∷◌, length, Option, Some, None, option_map, Result, Ok, Err, if◌then◌else◌, suc}
use Rattle.std.specs.BTreeMap.{insert_entry}
use Rattle.std.specs.List.{list_any}
use Rattle.table_schema.specs.Plan.{Ports}
use Rattle.swss_types.specs.declared.interface.IfName.TheVariants as on
use Rattle.swss_types.specs.declared.vrf.Vrf.{Vrf}
use Rattle.swss_types.specs.declared.vrf.Vrf.TheVariants as vrf
use Rattle.table_schema.specs.declared.key.Key.{Key}
use Rattle.table_schema.specs.declared.key.Key.TheVariants as key
use Rattle.table_schema.specs.declared.row.Row.{Row as BareRow}
use Rattle.switch_model.specs.Placed.{Placed as Row, place}
use Rattle.switch_model.specs.declared.wait.Wait.{Wait}
use Rattle.row_layout.specs.Operations.{Change, own_changes, same_owner, shared_going, take_all, uses_of}
use Rattle.row_layout.specs.Rows.{Owner, OfRow, Bridge, Own, Group}
use Rattle.switch_machine.specs.Flights.{goes_over}
use Rattle.switch_machine.specs.Operations.{built_first}
use Rattle.ref_counts.specs.declared.name.Name.TheVariants as name
use Rattle.ref_counts.specs.Registered.{begun, begun_to_go, with_user, without_user}
use Rattle.ref_counts.specs.Registry.{Names, changed, registered_name_cmp, pinned, retire_refusal_at}
use Rattle.ref_counts.specs.Room.{Reserves, RoomState}
use Rattle.orch_flight.specs.Needing.{name_for, places_for, row_names, to_build, wait_of}
use Rattle.orch_flight.specs.Operation.{Operation}

-- a row of a table in its place, where an address is in this virtual router
abbrev pub in_place : Vrf → Option BareRow → Option Row
in_place v o = option_map (place v) o

-- and a row of another table, whose place is told by its key and itself
abbrev pub in_default : Option BareRow → Option Row
in_default o = in_place vrf.Default o

-- ---- names

-- for how many identifiers a row's name has places: those of its own objects that have one
abbrev pub ids_for_row : Key → ℕ
ids_for_row (key.Addr on ip len) = 0
ids_for_row (key.Route v prefix) = 0
ids_for_row (key.Intf (on.Loopback number)) = 0
ids_for_row k = 1

-- and what is shared: of a group its own, and one for each hop
abbrev pub ids_for : Owner → ℕ
ids_for (OfRow k) = ids_for_row k
ids_for (Bridge lane) = 1
ids_for (Own v ip) = 0
ids_for (Group hops) = suc (length hops)

-- the rows that the new row names are pinned for the key
abbrev pub with_pins : Names → ℕ → Key → Option Row → Names
with_pins names worker k None = names
with_pins names worker k (Some r) = pinned names worker k (row_names k r)

-- the key's own name: it begins to be built where no row was applied, and to go where the applied row goes
abbrev pub with_own : Names → ℕ → Key → Option Row → Option Row → Names
with_own names worker k None new = insert_entry registered_name_cmp names (name.Row k) (begun worker (ids_for_row k))
with_own names worker k (Some old) new = if goes_over k (Some old) new then changed names (name.Row k) (begun_to_go worker) else names

-- what is to be built begins to be
abbrev pub with_building : Names → ℕ → Option Owner → Names
with_building names worker None = names
with_building names worker (Some o) = insert_entry registered_name_cmp names (name_for o) (begun worker (ids_for o))

-- the key uses what its new row shares
abbrev pub used_by : Names → Key → List Owner → Names
used_by names k [] = names
used_by names k (o ∷ os) = used_by (changed names (name_for o) (with_user k)) k os

-- a key leaves what it shared: it uses it no more, and where nobody does any more it begins to go
abbrev pub parted_by : Option Wait → Names → ℕ → Owner → Names
parted_by None names worker o = changed names (name_for o) (begun_to_go worker)
parted_by (Some wait) names worker o = names

abbrev pub left_names : Names → ℕ → Key → Owner → Names
left_names names worker k o =
    let later = changed names (name_for o) (without_user k) in
    parted_by (retire_refusal_at later worker (name_for o)) later worker o

-- what it takes away then
abbrev pub gone_by : Option Wait → Owner → Option Owner
gone_by None o = Some o
gone_by (Some wait) o = None

abbrev pub retired_by : Names → ℕ → Key → Owner → Option Owner
retired_by names worker k o = gone_by (retire_refusal_at (changed names (name_for o) (without_user k)) worker (name_for o)) o

-- ---- the start

-- what its old row shared and its new one does not
abbrev pub first_left : List Owner → List Owner → Option Owner
first_left news [] = None
first_left news (o ∷ os) = if list_any (same_owner o) news then first_left news os else Some o

abbrev pub leaving : Ports → Key → Option Row → Option Row → Option Owner
leaving plan k old new = first_left (uses_of plan k new) (uses_of plan k old)

-- a group is built by an operation of its own, before the route's
abbrev pub built_here : Option Owner → List Change → List Change
built_here (Some (Group hops)) own = own
built_here o own = built_first o own

-- and taken away by one of its own, after the route's
abbrev pub taken_here : Option Owner → List Change
taken_here None = []
taken_here (Some (Group hops)) = []
taken_here (Some o) = take_all (shared_going o) []

abbrev pub first_due : Ports → Names → Key → Option Row → Option Row → List Change
first_due plan names k old new = built_here (to_build plan names k new) (own_changes plan k old new)

-- the names while the first changes are due
abbrev pub begun_names : Ports → Names → ℕ → Key → Option Row → Option Row → Names
begun_names plan names worker k old new =
    used_by (with_building (with_own (with_pins names worker k new) worker k old new) worker (to_build plan names k new)) k (uses_of plan k new)

-- an operation with nothing due leaves at once what it shared
abbrev pub started_by : Names → ℕ → Key → Option Row → Option Row → List Change → Option Owner → Operation
started_by names worker k old new [] (Some o) = record { worker = worker; key = k; now = old; new = new; due = taken_here (retired_by names worker k o); leaves = None; retires = retired_by names worker k o }
started_by names worker k old new due leaves = record { worker = worker; key = k; now = old; new = new; due = due; leaves = leaves; retires = None }

abbrev pub started_names_by : Names → ℕ → Key → List Change → Option Owner → Names
started_names_by names worker k [] (Some o) = left_names names worker k o
started_names_by names worker k due leaves = names

abbrev pub started_operation : Ports → Names → ℕ → Key → Option Row → Option Row → Operation
started_operation plan names worker k old new = started_by (begun_names plan names worker k old new) worker k old new (first_due plan names k old new) (leaving plan k old new)

abbrev pub started_names : Ports → Names → ℕ → Key → Option Row → Option Row → Names
started_names plan names worker k old new = started_names_by (begun_names plan names worker k old new) worker k (first_due plan names k old new) (leaving plan k old new)

-- the start of an operation: it has its names and its places, or waits for the first reason that holds and changes nothing
abbrev pub IsStartedBy : Ports → Names → RoomState → List ℕ → ℕ → Key → Option Row → Option Row → Result Operation Wait → Names → RoomState → Type 0
IsStartedBy plan names room used worker k old new (Ok operation) names' room' =
    (wait_of plan names room used worker k old new ≡ None) × (operation ≡ started_operation plan names worker k old new) × (names' ≡ started_names plan names worker k old new)
    × Reserves room worker (places_for (built_first (to_build plan names k new) (own_changes plan k old new))) room'
IsStartedBy plan names room used worker k old new (Err wait) names' room' = (wait_of plan names room used worker k old new ≡ Some wait) × (names' ≡ names) × (room' ≡ room)

-- the start, but for the operation itself
abbrev pub IsBegunBy : Ports → Names → RoomState → List ℕ → ℕ → Key → Option Row → Option Row → Result (Unit {0}) Wait → Names → RoomState → Type 0
IsBegunBy plan names room used worker k old new (Ok _) names' room' =
    (wait_of plan names room used worker k old new ≡ None) × (names' ≡ started_names plan names worker k old new) × Reserves room worker (places_for (built_first (to_build plan names k new) (own_changes plan k old new))) room'
IsBegunBy plan names room used worker k old new (Err wait) names' room' = (wait_of plan names room used worker k old new ≡ Some wait) × (names' ≡ names) × (room' ≡ room)

-- what a start answers: the operation of what it made, or the wait
abbrev pub answered : {X : Type 0} → (X → Operation) → Result X Wait → Result Operation Wait
answered operation (Ok x) = Ok (operation x)
answered operation (Err wait) = Err wait

-- an operation for an answer
abbrev pub flown : Operation → Result (Unit {0}) Wait → Result Operation Wait
flown operation (Ok _) = Ok operation
flown operation (Err wait) = Err wait

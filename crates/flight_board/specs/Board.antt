-- The board: names and places, the applied rows, and the operations of four workers; and how an operation begins, goes on and ends. Own.
use Rattle.std.specs.Prelude.{◌≡◌, ◌⊎◌, ◌+◌, ℕ, List, [], ◌∷◌, length, Option, Some, None, option_map, set, Result, Ok, Err, zero, suc}
use Rattle.table_schema.specs.Plan.{IsPlan, Ports}
use Rattle.table_schema.specs.declared.key.Key.{Key}
use Rattle.table_schema.specs.declared.row.Row.{Row}
use Rattle.sai_types.specs.declared.kind.Kind.{Kind}
use Rattle.sai_types.specs.declared.weight.WHop.{WHop}
use Rattle.sai_types.specs.declared.ids.Vid.{Vid}
use Rattle.switch_model.specs.Placed.{Placed, bare}
use Rattle.switch_model.specs.declared.wait.Wait.{Wait}
use Rattle.switch_model.specs.declared.wait.Wait.TheVariants as wait
use Rattle.row_layout.specs.Operations.{uses_of}
use Rattle.ref_counts.specs.Registry.{Names}
use Rattle.ref_counts.specs.Room.{GivesBack, RoomState, all_free, number_of_kind}
use Rattle.orch_flight.specs.Calling.{IsOver}
use Rattle.orch_flight.specs.Grouping.{GroupOperation, IsGroupOver}
use Rattle.orch_flight.specs.Needing.{missing_for, wait_of}
use Rattle.orch_flight.specs.Operation.{Operation}
use Rattle.orch_flight.specs.Starting.{IsStartedBy}
use Rattle.registry_laws.specs.Ending.{MayEnd, ended_names, named_by}
use Rattle.registry_laws.specs.Flown.{Flown, due_for, group_in, still_there_in_all}
use Rattle.registry_laws.specs.Making.{KnowsNext, TookFor, with_group_begun}
use Rattle.flight_board.specs.Applied.{Entries, HasPlace, placed_at, placed_for, row_at}

-- what a worker has under way: the keys of the rows that the key's applied row names, the group that its new row shares, and the operations
pub record FlightState : Type 0 where
  pub named : List Key
  pub shared : Option (List WHop)
  pub flown : Flown

-- the port plan, what the registry and the room know, the applied rows, and what each of the four workers has under way
pub record BoardState : Type 0 where
  pub plan : Ports
  pub names : Names
  pub room : RoomState
  pub applied : Entries
  pub flights : List (Option FlightState)

-- nothing is applied, and nothing is under way
abbrev pub new_board : Ports → List ℕ → BoardState
new_board plan capacities = record { plan = plan; names = []; room = all_free capacities; applied = []; flights = None ∷ None ∷ None ∷ None ∷ [] }

-- what a worker has under way
abbrev pub flight_on : List (Option FlightState) → ℕ → Option FlightState
flight_on [] w = None
flight_on (o ∷ os) zero = o
flight_on (o ∷ os) (suc w) = flight_on os w

-- the operation of what this worker has under way has the key
abbrev pub HasKeyAt : List (Option FlightState) → Key → ℕ → Type 0
HasKeyAt flights k v = (x : Flown) × (option_map (λ f. f.flown) (flight_on flights v) ≡ Some x) × (x.operation.key ≡ k)

-- the row's operation among what a worker has under way
abbrev pub operation_in : FlightState → Operation
operation_in f = f.flown.operation

abbrev pub flight_at : BoardState → ℕ → Option FlightState
flight_at b w = flight_on b.flights w

abbrev pub flown_at : BoardState → ℕ → Option Flown
flown_at b w = option_map (λ f. f.flown) (flight_at b w)

-- ---- what holds of each flight

-- what it keeps as the group that its new row shares is that by this plan
abbrev pub KnowsGroup : Ports → FlightState → Type 0
KnowsGroup plan f = group_in (uses_of plan f.flown.operation.key f.flown.operation.new) ≡ f.shared

-- one that begins: it has to do with no group yet, and keeps the keys of the rows that the key's old row names, and the group that its new row shares
pub record IsFlightBegun (plan : Ports) (k : Key) (old new : Option Placed) (f : FlightState) : Type 0 where
  pub group : f.flown.group ≡ None
  pub named : f.named ≡ named_by k old
  pub shared : group_in (uses_of plan k new) ≡ f.shared

-- what a worker has under way names what its key's applied row names, keeps the group that its new row shares, and has a place for its row
pub record IsKeptFlight (plan : Ports) (applied : Entries) (w : ℕ) (f : FlightState) : Type 0 where
  pub worker : f.flown.operation.worker ≡ w
  pub named : f.named ≡ named_by f.flown.operation.key (placed_at applied f.flown.operation.key)
  pub shared : KnowsGroup plan f
  pub placed : HasPlace applied f.flown.operation.key

-- each worker's is its own, and no two have one key
pub record AreKept (plan : Ports) (applied : Entries) (flights : List (Option FlightState)) : Type 0 where
  pub four : length flights ≡ 4
  pub each : (w : ℕ) (f : FlightState) → flight_on flights w ≡ Some f → IsKeptFlight plan applied w f
  pub apart : (w v : ℕ) (f g : FlightState) → flight_on flights w ≡ Some f → flight_on flights v ≡ Some g → f.flown.operation.key ≡ g.flown.operation.key → w ≡ v

-- ---- what follows in an event

-- the other workers' operations, and the applied rows of other keys, are as they were
pub record LeavesOtherFlights (w : ℕ) (k : Key) (old new : BoardState) : Type 0 where
  pub plan : new.plan ≡ old.plan
  pub flights : (v : ℕ) → (v ≡ w → ⊥) → flight_at new v ≡ flight_at old v
  pub rows : (q : Key) → (q ≡ k → ⊥) → row_at new.applied q ≡ row_at old.applied q

-- an operation for which something is due goes on, with these names and this room
pub record GoesOn (w : ℕ) (x : Flown) (names : Names) (room : RoomState) (old new : BoardState) : Type 0 where
  pub row : row_at new.applied x.operation.key ≡ row_at old.applied x.operation.key
  pub flying : flown_at new w ≡ Some x
  pub names_are : new.names ≡ names
  pub room_is : new.room ≡ room

-- one for which nothing is due ends: its key has its new row, and what it used and kept is given up
pub record EndsNow (w : ℕ) (x : Flown) (names : Names) (room : RoomState) (old new : BoardState) : Type 0 where
  pub row : row_at new.applied x.operation.key ≡ option_map bare x.operation.new
  pub none : flight_at new w ≡ None
  pub names_are : new.names ≡ ended_names names w x.operation.key (placed_at old.applied x.operation.key) x.operation.new
  pub room_is : GivesBack room w new.room

-- what follows at once: an operation for which something is due goes on, and one for which nothing is ends
pub record BoardFollows (w : ℕ) (x : Flown) (names : Names) (room : RoomState) (old new : BoardState) : Type 0 where
  pub others : LeavesOtherFlights w x.operation.key old new
  pub more : (due_for old.plan names x ≡ [] → ⊥) → GoesOn w x names room old new
  pub over : due_for old.plan names x ≡ [] → EndsNow w x names room old new

-- ---- a beginning

-- this worker's operation has the key
abbrev pub IsFlownAt : BoardState → Key → ℕ → Type 0
IsFlownAt b k v = HasKeyAt b.flights k v

-- no operation has the key
abbrev pub IsUnflown : BoardState → Key → Type 0
IsUnflown b k = (v : ℕ) → IsFlownAt b k v → ⊥

-- the same board, but for places that are kept for nothing
pub record IsSameBoard (old new : BoardState) : Type 0 where
  pub plan : new.plan ≡ old.plan
  pub names : new.names ≡ old.names
  pub room : new.room ≡ old.room
  pub flights : new.flights ≡ old.flights
  pub rows : (q : Key) → row_at new.applied q ≡ row_at old.applied q

-- a key has to wait: for the worker whose operation has it, or for a key that its new row names and that is not applied
abbrev pub IsHeldUp : BoardState → Key → Option Row → Wait → Type 0
IsHeldUp b k row reason = ((v : ℕ) × IsFlownAt b k v × (reason ≡ wait.Busy v)) ⊎ (IsUnflown b k × (missing_for b.names k (placed_for b.applied k row) ≡ Some reason))

-- how many objects of each kind there are, counted with the router interfaces that operations took away and are to make again
abbrev pub AreCountedWith : BoardState → List ℕ → List ℕ → Type 0
AreCountedWith b used counted = (kind : Kind) → number_of_kind counted kind ≡ number_of_kind used kind + still_there_in_all (flown_at b) kind

-- a key has to wait for the first reason that the registry and the room tell
pub record WaitsOn (b : BoardState) (used : List ℕ) (w : ℕ) (k : Key) (row : Option Row) (reason : Wait) : Type 0 where
  pub counted : List ℕ
  pub counts : AreCountedWith b used counted
  pub first : wait_of b.plan b.names b.room counted w k (placed_at b.applied k) (placed_for b.applied k row) ≡ Some reason

-- the operation of a key starts, with these names and this room
pub record StartsOn (b : BoardState) (used : List ℕ) (w : ℕ) (k : Key) (row : Option Row) (f : Operation) (names : Names) (room : RoomState) : Type 0 where
  pub counted : List ℕ
  pub counts : AreCountedWith b used counted
  pub started : IsStartedBy b.plan b.names b.room counted w k (placed_at b.applied k) (placed_for b.applied k row) (Ok f) names room

-- the operation of a key begins, or the key waits and nothing changes: for the worker whose operation has it, or for the first reason that the registry and the room tell
abbrev pub IsBegunFor : BoardState → List ℕ → ℕ → Key → Option Row → Result (Unit {0}) Wait → BoardState → Type 0
IsBegunFor old used w k row (Err reason) new =
    IsSameBoard old new × (((v : ℕ) × IsFlownAt old k v × (reason ≡ wait.Busy v)) ⊎ (IsUnflown old k × WaitsOn old used w k row reason))
IsBegunFor old used w k row (Ok _) new =
    IsUnflown old k × (f : Operation) × (names : Names) × (room : RoomState) × StartsOn old used w k row f names room
    × BoardFollows w (record { operation = f; group = None }) names room old new

-- an operation for which nothing is due from its beginning may end
abbrev pub MayEndAtOnce : BoardState → List ℕ → ℕ → Key → Option Row → Type 0
MayEndAtOnce b used w k row = (f : Operation) (names : Names) (room : RoomState) → StartsOn b used w k row f names room → due_for b.plan names (record { operation = f; group = None }) ≡ [] → MayEnd names w k f.new

-- ---- calls and their effects

-- the operation of the group that is due begins
abbrev pub with_group : Ports → Names → FlightState → FlightState
with_group plan names f = record { named = f.named; shared = f.shared; flown = with_group_begun plan names f.flown }

-- a worker's group that is due begins, and nothing else changes
pub record IsPrepared (old : BoardState) (w : ℕ) (new : BoardState) : Type 0 where
  pub plan : new.plan ≡ old.plan
  pub names : new.names ≡ old.names
  pub room : new.room ≡ old.room
  pub applied : new.applied ≡ old.applied
  pub own : flown_at new w ≡ option_map (with_group_begun old.plan old.names) (flown_at old w)
  pub others : (v : ℕ) → (v ≡ w → ⊥) → flight_at new v ≡ flight_at old v

-- the next call can be told: something is due, of the group or else of the row's operation, and the registry knows the identifiers that the call needs
pub record IsCallReady (plan : Ports) (names : Names) (x : Flown) : Type 0 where
  pub plans : IsPlan plan
  pub over : IsOver plan x.operation
  pub group_over : (g : GroupOperation) → x.group ≡ Some g → IsGroupOver plan g
  pub group_due : (g : GroupOperation) → x.group ≡ Some g → g.due ≡ [] → ⊥
  pub due : x.group ≡ None → x.operation.due ≡ [] → ⊥
  pub known : KnowsNext names x.operation x.group

-- the call that was due for what a worker has under way has taken effect, and the other workers' stay
abbrev pub TookOn : List (Option FlightState) → ℕ → Option Vid → Names → List (Option FlightState) → Names → Type 0
TookOn old w made names new names' = (f : FlightState) → flight_on old w ≡ Some f
    → (g : FlightState) × (new ≡ set old w (Some g)) × TookFor f.flown.operation f.flown.group made names g.flown names' × (g.named ≡ f.named) × (g.shared ≡ f.shared)

-- the call that was due for a worker has taken effect
abbrev pub IsTakenFor : BoardState → ℕ → Option Vid → BoardState → Type 0
IsTakenFor old w made new = (x : Flown) → flown_at old w ≡ Some x → (x' : Flown) × (names : Names) × TookFor x.operation x.group made old.names x' names × BoardFollows w x' names old.room old new

-- and an operation for which nothing is due behind that call may end
abbrev pub MayEndThen : BoardState → ℕ → Option Vid → Type 0
MayEndThen b w made = (x x' : Flown) (names : Names) → flown_at b w ≡ Some x → TookFor x.operation x.group made b.names x' names → due_for b.plan names x' ≡ [] → MayEnd names w x'.operation.key x'.operation.new

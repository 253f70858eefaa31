-- What the registry knows of one name, and what that says of the machine. Own.
use Rattle.std.specs.Prelude.{◌≡◌, ◌⊎◌, ℕ, true, List, [], Option, Some, None}
use Rattle.std.specs.List.Sorted.{IsStrictlySortedBy}
use Rattle.table_schema.specs.Key.{key_cmp}
use Rattle.table_schema.specs.Plan.{Ports}
use Rattle.table_schema.specs.declared.key.Key.{Key}
use Rattle.sai_types.specs.Alike.{IsIn}
use Rattle.switch_model.specs.Placed.{Placed as Row, PlacedRows}
use Rattle.row_layout.specs.Rows.{Owner}
use Rattle.switch_machine.specs.Flights.{MachineBoard, MachineFlight, HasChangeOf, IsFirm, IsResting, IsUser, Machine}
use Rattle.switch_machine.specs.Reasons.{IsFlownBy}
use Rattle.orch_flight.specs.Needing.{row_names}
use Rattle.ref_counts.specs.declared.name.NameState.{NameState}
use Rattle.ref_counts.specs.declared.name.NameState.TheVariants as state
use Rattle.ref_counts.specs.declared.pin.Pin.{Pin}
use Rattle.ref_counts.specs.Registered.{Registered}
use Rattle.ref_counts.specs.Registry.{state_in, users_at}

abbrev pub pins_at : Option Registered → List Pin
pins_at None = []
pins_at (Some r) = r.pins

-- ---- the row of a key

-- all that an operation makes of the key's row is made
pub record IsAllMade (m : Machine) (k : Key) : Type 0 where
  pub worker : ℕ
  pub flight : MachineFlight
  pub flying : m.board.flights worker ≡ Some flight
  pub key : flight.key ≡ k
  pub row : Row
  pub new : flight.new ≡ Some row
  pub done : m.due worker ≡ []

-- this worker's operation takes the row away
pub record IsTakenAway (m : Machine) (k : Key) (worker : ℕ) : Type 0 where
  pub flight : MachineFlight
  pub flying : m.board.flights worker ≡ Some flight
  pub key : flight.key ≡ k
  pub goes : flight.goes ≡ true
  pub row : Row
  pub applied : m.board.applied k ≡ Some row

-- a row's name is absent while nothing of it is applied or to be; a worker's operation builds it; it is live while it is applied and stays, and from when all of it is made; or a worker's operation takes it away
abbrev pub RowStands : Machine → Key → NameState → Type 0
RowStands m k state.Absent = IsResting m.board k × (m.board.applied k ≡ None)
RowStands m k (state.Building worker) = IsFlownBy m.board k worker × (m.board.applied k ≡ None)
RowStands m k state.Live = IsFirm m.board k ⊎ IsAllMade m k
RowStands m k (state.Retiring worker) = IsTakenAway m k worker

-- the applied row of one key names another
abbrev pub NamesKey : PlacedRows → Key → Key → Type 0
NamesKey applied user k = (r : Row) × (applied user ≡ Some r) × IsIn k (row_names user r)

-- a worker's operation brings its key a row that names this one
abbrev pub IsPinOf : MachineBoard → Key → Pin → Type 0
IsPinOf b k p = (f : MachineFlight) × (b.flights p.worker ≡ Some f) × (f.key ≡ p.user) × ((r : Row) × (f.new ≡ Some r) × IsIn k (row_names f.key r))

-- the users of a row's name are the keys whose applied rows name it, and its pins those of the operations that bring such a row
pub record IsKnownRow (m : Machine) (k : Key) (known : Option Registered) : Type 0 where
  pub stands : RowStands m k (state_in known)
  pub users : (q : Key) → (IsIn q (users_at known) → NamesKey m.board.applied q k) × (NamesKey m.board.applied q k → IsIn q (users_at known))
  pub pins : (p : Pin) → (IsIn p (pins_at known) → IsPinOf m.board k p) × (IsPinOf m.board k p → IsIn p (pins_at known))
  pub rising : IsStrictlySortedBy key_cmp (users_at known)

-- ---- what rows share

-- no change of it is due
abbrev pub IsUntouched : Ports → Machine → Owner → Type 0
IsUntouched plan m o = (w : ℕ) (f : MachineFlight) → m.board.flights w ≡ Some f → HasChangeOf plan (m.due w) o → ⊥

-- the operation of a worker has a change of it to make, and retires it or not
abbrev pub IsTouchedBy : Ports → Machine → Owner → ℕ → (MachineFlight → Type 0) → Type 0
IsTouchedBy plan m o worker Is = (f : MachineFlight) × (m.board.flights worker ≡ Some f) × HasChangeOf plan (m.due worker) o × Is f

-- the name of what is shared is absent while nobody uses it, live while somebody does, and no change of it is due; else the worker's whose operation builds it, or retires it
abbrev pub SharedStands : Ports → Machine → Owner → NameState → Type 0
SharedStands plan m o state.Absent = ((k : Key) → IsUser plan m.board k o → ⊥) × IsUntouched plan m o
SharedStands plan m o (state.Building worker) = IsTouchedBy plan m o worker (λ f. f.retires ≡ Some o → ⊥)
SharedStands plan m o state.Live = ((k : Key) × IsUser plan m.board k o) × IsUntouched plan m o
SharedStands plan m o (state.Retiring worker) = IsTouchedBy plan m o worker (λ f. f.retires ≡ Some o)

-- its users are the machine's, and nobody pins it
pub record IsKnownShared (plan : Ports) (m : Machine) (o : Owner) (known : Option Registered) : Type 0 where
  pub stands : SharedStands plan m o (state_in known)
  pub users : (q : Key) → (IsIn q (users_at known) → IsUser plan m.board q o) × (IsUser plan m.board q o → IsIn q (users_at known))
  pub pins : (p : Pin) → IsIn p (pins_at known) → ⊥
  pub rising : IsStrictlySortedBy key_cmp (users_at known)

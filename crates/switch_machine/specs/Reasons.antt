-- Why a key has to wait, asked for a worker that has no operation. Own.
use Rattle.std.specs.Prelude.{◌≡◌, ◌⊎◌, ◌+◌, ◌<◌, ◌≤◌, ℕ, true, List, Option, Some, option_map}
use Rattle.table_schema.specs.Plan.{Ports}
use Rattle.table_schema.specs.declared.key.Key.{Key}
use Rattle.table_schema.specs.Names.{names_of as row_names}
use Rattle.table_schema.specs.declared.row.Row.{Row as BareRow}
use Rattle.sai_types.specs.declared.kind.Kind.{Kind}
use Rattle.sai_types.specs.Alike.{IsIn}
use Rattle.sai_types.specs.Objects.{level, used}
use Rattle.sai_types.specs.Refusal.{capacity_of}
use Rattle.switch_model.specs.Placed.{Placed as Row, bare, bare_rows, place, placed_names as names_of, router_in}
use Rattle.switch_model.specs.declared.wait.Wait.{Wait}
use Rattle.switch_model.specs.declared.wait.Wait.TheVariants as wait
use Rattle.switch_model.specs.Desired.{have_rows}
use Rattle.switch_model.specs.Marks.{IsHeldBy, IsToGo, first_missing}
use Rattle.row_layout.specs.Operations.{Change}
use Rattle.row_layout.specs.Rows.{Owner}
use Rattle.row_layout.specs.Shared.{uses}
use Rattle.switch_machine.specs.Events.{SwitchState, placed_good}
use Rattle.switch_machine.specs.Flights.{MachineBoard, MachineFlight, HasChangeOf, IsResting, Machine, goes_over}
use Rattle.switch_machine.specs.Operations.{MayBegin}
use Rattle.switch_machine.specs.Places.{makes, places_kept}
use Rattle.switch_machine.specs.Written.{good_of}

-- the operation of this worker has the key
abbrev pub IsFlownBy : MachineBoard → Key → ℕ → Type 0
IsFlownBy b k v = (f : MachineFlight) × (b.flights v ≡ Some f) × (f.key ≡ k)

-- where the key's applied row goes, an operation brings a row that names the key
abbrev pub BringsHolder : Machine → Key → Option Row → MachineFlight → Type 0
BringsHolder m k new g = (goes_over k (m.board.applied k) new ≡ true) × ((r : Row) × (g.new ≡ Some r) × IsIn k (names_of g.key r))

-- it takes away a row that the key's new row names, or builds or retires what that row shares
abbrev pub TakesNeeded : Ports → Machine → Key → Option Row → ℕ → MachineFlight → Type 0
TakesNeeded plan m k new v g = (row : Row) × (new ≡ Some row) × (((g.goes ≡ true) × IsIn g.key (names_of k row)) ⊎ ((o : Owner) × IsIn o (uses plan k row) × (HasChangeOf plan (m.due v) o ⊎ (g.retires ≡ Some o))))

-- the operation of this worker takes away a row that the key's new row names, or builds or retires what that row shares; or, where the key's applied row goes, it brings a row that names the key
abbrev pub IsInTheWay : Ports → Machine → Key → Option Row → ℕ → Type 0
IsInTheWay plan m k new v = (g : MachineFlight) × (m.board.flights v ≡ Some g) × (BringsHolder m k new g ⊎ TakesNeeded plan m k new v g)

-- it is the least such worker
pub record IsFirstInTheWay (plan : Ports) (m : Machine) (k : Key) (new : Option Row) (v : ℕ) : Type 0 where
  pub way : IsInTheWay plan m k new v
  pub least : (u : ℕ) → IsInTheWay plan m k new u → v ≤ u

-- no operation has the key, its good row is another than its applied one, all that the good row names is applied, and where the applied row goes no applied row names the key
pub record IsRowPrepared (plan : Ports) (s : SwitchState) (k : Key) : Type 0 where
  pub rests : IsResting s.machine.board k
  pub differs : option_map bare (s.machine.board.applied k) ≡ good_of plan s.written k → ⊥
  pub named : (r : BareRow) → good_of plan s.written k ≡ Some r → have_rows (bare_rows s.machine.board.applied) (row_names k r) ≡ true
  pub unheld : goes_over k (s.machine.board.applied k) (placed_good plan s.machine.board s.written k) ≡ true → (q : Key) (r : BareRow) → bare_rows s.machine.board.applied q ≡ Some r → IsIn k (row_names q r) → ⊥

-- an operation may begin, but for a kind of which it makes objects there is no room beside the places that workers keep, and there is for each lower kind
pub record LacksRoom (plan : Ports) (workers : ℕ) (capacities : List ℕ) (s : SwitchState) (k : Key) (kind : Kind) : Type 0 where
  pub worker : ℕ
  pub flight : MachineFlight
  pub due : List Change
  pub begins : MayBegin plan s.machine worker flight due
  pub is : flight.key ≡ k
  pub row : BareRow
  pub new : flight.new ≡ Some (place (router_in (bare_rows s.machine.board.applied) k) row)
  pub good : good_of plan s.written k ≡ Some row
  pub some : 0 < makes kind due
  pub many : capacity_of capacities kind < used s.objects kind + places_kept workers s.machine kind + makes kind due
  pub lower : (low : Kind) → level low < level kind → 0 < makes low due → used s.objects low + places_kept workers s.machine low + makes low due ≤ capacity_of capacities low

-- the first that holds: an operation has the key; a name is missing; a row holds it; an operation is in the way; there is no room
abbrev pub IsReason : Ports → ℕ → List ℕ → SwitchState → Key → Wait → Type 0
IsReason plan workers capacities s k (wait.Busy worker) = IsFlownBy s.machine.board k worker ⊎ (IsRowPrepared plan s k × IsFirstInTheWay plan s.machine k (placed_good plan s.machine.board s.written k) worker)
IsReason plan workers capacities s k (wait.Missing name) = IsResting s.machine.board k × ((row : BareRow) × (good_of plan s.written k ≡ Some row) × (first_missing (bare_rows s.machine.board.applied) (row_names k row) ≡ Some name))
IsReason plan workers capacities s k (wait.Held holder) = IsResting s.machine.board k × IsToGo (good_of plan s.written) (bare_rows s.machine.board.applied) k × ((row : BareRow) × (bare_rows s.machine.board.applied k ≡ Some row) × IsHeldBy (bare_rows s.machine.board.applied) k holder)
IsReason plan workers capacities s k (wait.NoRoom kind) = LacksRoom plan workers capacities s k kind

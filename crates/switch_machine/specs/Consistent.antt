-- What holds of the machine between events. Own.
use Rattle.std.specs.Prelude.{◌≡◌, ◌⊎◌, ℕ, Some, None, option_map}
use Rattle.swss_types.specs.declared.address.Ip.{Ip}
use Rattle.swss_types.specs.declared.interface.IfName.{IfName}
use Rattle.swss_types.specs.declared.vrf.Vrf.{Vrf}
use Rattle.table_schema.specs.Plan.{Ports}
use Rattle.table_schema.specs.declared.key.Key.{Key}
use Rattle.table_schema.specs.declared.key.Key.TheVariants as key
use Rattle.sai_types.specs.declared.thing.Thing.{Thing}
use Rattle.sai_types.specs.Alike.{IsIn}
use Rattle.switch_model.specs.Placed as row
use Rattle.switch_model.specs.Placed.{Placed as Row, PlacedRows, bare, placed_names as names_of}
use Rattle.switch_model.specs.Good.{TypedRows}
use Rattle.sai_types.specs.Names.{ThingName, Refers, name_of}
use Rattle.row_layout.specs.Rows.{Owner, OfRow, own_things}
use Rattle.row_layout.specs.Shared.{shared_things, uses}
use Rattle.switch_machine.specs.Changes.{Resembles}
use Rattle.switch_machine.specs.Flights.{MachineBoard, Fits, MachineFlight, HasName, IsFirm, IsOwnedBy, IsResting, IsRow, IsShared, HasChangeOf, IsUser, Machine, Runs, StandsIn, goes_over, own_names, own_of}
use Rattle.row_layout.specs.Operations.{uses_of}

-- an owner that a flight's key shared before
pub record WasUsed (plan : Ports) (applied : PlacedRows) (k : Key) (o : Owner) : Type 0 where
  pub row : Row
  pub was : applied k ≡ Some row
  pub used : IsIn o (uses plan k row)

pub record IsOrderly (plan : Ports) (b : MachineBoard) : Type 0 where
  -- no two operations have one key
  pub one : (w v : ℕ) (f g : MachineFlight) → b.flights w ≡ Some f → b.flights v ≡ Some g → f.key ≡ g.key → w ≡ v
  pub fit : (k : Key) (r : Row) → IsRow b k r → Fits plan k r
  -- what a row names is applied and stays, be the row applied or to be applied
  pub named : (k p : Key) (r : Row) → IsRow b k r → IsIn p (names_of k r) → IsFirm b p
  -- an operation tells whether its applied row goes
  pub goes : (w : ℕ) (f : MachineFlight) → b.flights w ≡ Some f → f.goes ≡ goes_over f.key (b.applied f.key) f.new
  -- an address is in the router of its interface
  pub inside : (n : IfName) (ip : Ip) (len : ℕ) (v w : Vrf) → IsRow b (key.Addr n ip len) (row.Addr v) → b.applied (key.Intf n) ≡ Some (row.Intf w) → v ≡ w
  -- what an operation has to leave, and what it retires, its applied row shared
  pub leaves : (w : ℕ) (f : MachineFlight) (o : Owner) → b.flights w ≡ Some f → f.leaves ≡ Some o → WasUsed plan b.applied f.key o × (IsIn o (uses_of plan f.key f.new) → ⊥) × (f.retires ≡ None)
  pub left : (w : ℕ) (f : MachineFlight) (o : Owner) → b.flights w ≡ Some f → f.retires ≡ Some o → WasUsed plan b.applied f.key o
  -- what is retired has no user, and one operation retires it
  pub unused : (w : ℕ) (f : MachineFlight) (k : Key) (o : Owner) → b.flights w ≡ Some f → f.retires ≡ Some o → IsUser plan b k o → ⊥
  pub once : (w v : ℕ) (f g : MachineFlight) (o : Owner) → b.flights w ≡ Some f → b.flights v ≡ Some g → f.retires ≡ Some o → g.retires ≡ Some o → w ≡ v

-- a thing stands for a row of its key
pub record IsLike (plan : Ports) (b : MachineBoard) (k : Key) (u : Thing) : Type 0 where
  pub row : Row
  pub is : IsRow b k row
  pub thing : Thing
  pub of : IsIn thing (own_things plan k row)
  pub resembles : Resembles u thing

-- a key uses what is shared, or an operation retires it
abbrev pub IsUsedOrRetired : Ports → MachineBoard → Owner → Type 0
IsUsedOrRetired plan b o = ((k : Key) × IsUser plan b k o) ⊎ ((w : ℕ) × (f : MachineFlight) × (b.flights w ≡ Some f) × (f.retires ≡ Some o))

pub record IsConsistent (plan : Ports) (m : Machine) : Type 0 where
  pub board : IsOrderly plan m.board
  -- each thing that stands has an owner
  pub owned : (u : Thing) → StandsIn m u → (o : Owner) × IsOwnedBy plan (name_of u) o
  -- of a key without an operation the things of its applied row stand
  pub rest : (k : Key) (u : Thing) → IsResting m.board k → IsOwnedBy plan (name_of u) (OfRow k) → (StandsIn m u → IsIn u (own_of plan k (m.board.applied k))) × (IsIn u (own_of plan k (m.board.applied k)) → StandsIn m u)
  -- what is due for an operation can be made, and leads to the things of its new row
  pub runs : (w : ℕ) (f : MachineFlight) → m.board.flights w ≡ Some f → Runs plan f (StandsIn m) (m.due w)
  -- what other rows may need of a row that stays stands
  pub present : (k : Key) (n : ThingName) → IsFirm m.board k → IsIn n (own_names plan k) → HasName (StandsIn m) n
  pub like : (k : Key) (u : Thing) → StandsIn m u → IsOwnedBy plan (name_of u) (OfRow k) → IsLike plan m.board k u
  -- what stands of what is shared is of it, and is held
  pub held : (o : Owner) (u : Thing) → StandsIn m u → IsOwnedBy plan (name_of u) o → IsShared o → IsIn u (shared_things o) × IsUsedOrRetired plan m.board o
  -- a key whose things refer to what is shared is a user of it
  pub used : (k : Key) (o : Owner) (u : Thing) (n : ThingName) → StandsIn m u → IsOwnedBy plan (name_of u) (OfRow k) → Refers u n → IsOwnedBy plan n o → IsShared o → IsUser plan m.board k o
  -- and what they refer to stands whole, be a change of it due or not
  pub steady : (k : Key) (o : Owner) (u x : Thing) (n : ThingName) → StandsIn m u → IsOwnedBy plan (name_of u) (OfRow k) → Refers u n → IsOwnedBy plan n o → IsShared o → IsIn x (shared_things o) → StandsIn m x
  -- what has a user stands whole, where no change of it is due
  pub whole : (k : Key) (o : Owner) (u : Thing) → IsUser plan m.board k o → ((w : ℕ) (f : MachineFlight) → m.board.flights w ≡ Some f → HasChangeOf plan (m.due w) o → ⊥) → IsIn u (shared_things o) → StandsIn m u
  -- what an operation builds or retires nobody else uses
  pub quiet : (w : ℕ) (f : MachineFlight) (k : Key) (o : Owner) → m.board.flights w ≡ Some f → HasChangeOf plan (m.due w) o → IsUser plan m.board k o → k ≡ f.key

-- a key has its good row, or an operation brings it there
abbrev pub IsCurrent : MachineBoard → TypedRows → Key → Type 0
IsCurrent b good k = (IsResting b k × (option_map bare (b.applied k) ≡ good k)) ⊎ ((w : ℕ) × (f : MachineFlight) × (b.flights w ≡ Some f) × (f.key ≡ k) × (option_map bare f.new ≡ good k))

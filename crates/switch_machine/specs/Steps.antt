-- The events of the machine, in their smallest steps. Own.
use Rattle.std.specs.Prelude.{◌≡◌, ◌∷◌, ℕ, true, List, [], Option, Some, None, if◌then◌else◌}
use Rattle.std.specs.BTreeMap.{is_at}
use Rattle.swss_types.specs.declared.address.Ip.{Ip}
use Rattle.swss_types.specs.declared.interface.IfName.{IfName}
use Rattle.swss_types.specs.declared.vrf.Vrf.{Vrf}
use Rattle.table_schema.specs.Key.{key_cmp}
use Rattle.table_schema.specs.Plan.{Ports}
use Rattle.table_schema.specs.declared.key.Key.{Key}
use Rattle.table_schema.specs.declared.key.Key.TheVariants as key
use Rattle.sai_types.specs.declared.ids.Rid.{Rid}
use Rattle.sai_types.specs.declared.thing.Thing.{Thing}
use Rattle.sai_types.specs.Alike.{IsIn}
use Rattle.switch_model.specs.Placed as row
use Rattle.switch_model.specs.Placed.{Placed as Row, PlacedRows, placed_names as names_of}
use Rattle.row_layout.specs.Rows.{Owner}
use Rattle.row_layout.specs.Operations.{Change, uses_of}
use Rattle.switch_machine.specs.Changes.{after}
use Rattle.switch_machine.specs.Flights.{CountsAsUser, Fits, MachineFlight, IsFirm, IsResting, IsRow, HasChangeOf, IsUser, Machine, Runs, StandsIn, goes_over, put}

-- the rows with another one of a key, or none
abbrev pub with_row : {X : Type 0} → Key → Option X → (Key → Option X) → Key → Option X
with_row k o rows q = if is_at (key_cmp k) q then o else rows q

-- ---- an operation starts

pub record Starts (plan : Ports) (m : Machine) (w : ℕ) (f : MachineFlight) (due : List Change) : Type 0 where
  pub idle : m.board.flights w ≡ None
  pub rests : IsResting m.board f.key
  pub fit : (r : Row) → f.new ≡ Some r → Fits plan f.key r
  -- nothing is missing
  pub named : (p : Key) (r : Row) → f.new ≡ Some r → IsIn p (names_of f.key r) → IsFirm m.board p
  pub goes : f.goes ≡ goes_over f.key (m.board.applied f.key) f.new
  pub inside : (n : IfName) (ip : Ip) (len : ℕ) (v w : Vrf) → f.key ≡ key.Addr n ip len → f.new ≡ Some (row.Addr v) → m.board.applied (key.Intf n) ≡ Some (row.Intf w) → v ≡ w
  -- nothing holds a row that is to go
  pub unnamed : f.goes ≡ true → (k : Key) (r : Row) → IsRow m.board k r → IsIn f.key (names_of k r) → ⊥
  -- nobody builds or retires what the new row shares
  pub free : (o : Owner) → IsIn o (uses_of plan f.key f.new) → (v : ℕ) (g : MachineFlight) → m.board.flights v ≡ Some g → (HasChangeOf plan (m.due v) o → ⊥) × (g.retires ≡ Some o → ⊥)
  pub none : f.retires ≡ None
  -- it has to leave what its applied row shares and its new one does not
  pub leaves : (o : Owner) → f.leaves ≡ Some o → IsIn o (uses_of plan f.key (m.board.applied f.key)) × (IsIn o (uses_of plan f.key f.new) → ⊥)
  pub covers : (o : Owner) → IsIn o (uses_of plan f.key (m.board.applied f.key)) → CountsAsUser plan f o
  -- what is due can be made, and builds only what has no user
  pub alone : (k : Key) (o : Owner) → HasChangeOf plan due o → IsUser plan m.board k o → k ≡ f.key
  pub runs : Runs plan f (StandsIn m) due

abbrev pub started : Machine → ℕ → MachineFlight → List Change → Machine
started m w f due = record { board = record { applied = m.board.applied; flights = put w (Some f) m.board.flights }; due = put w due m.due; reserved = put w due m.reserved; stands = m.stands }

-- ---- the change that is due next takes effect

pub record Moves (m : Machine) (w : ℕ) (f : MachineFlight) (c : Change) (cs : List Change) (stands : List (Rid × Thing)) : Type 0 where
  pub flying : m.board.flights w ≡ Some f
  pub due : m.due w ≡ c ∷ cs
  pub into : (u : Thing) (i : Rid) → IsIn (i, u) stands → after c (StandsIn m u) u
  pub back : (u : Thing) → after c (StandsIn m u) u → (i : Rid) × IsIn (i, u) stands

abbrev pub moved : Machine → ℕ → List Change → List (Rid × Thing) → Machine
moved m w cs stands = record { board = m.board; due = put w cs m.due; reserved = m.reserved; stands = stands }

-- ---- all that was due is done: the key leaves what it shared before

pub record Leaves (m : Machine) (w : ℕ) (f : MachineFlight) (o : Owner) : Type 0 where
  pub flying : m.board.flights w ≡ Some f
  pub done : m.due w ≡ []
  pub leaves : f.leaves ≡ Some o

-- with what it retires from now on
abbrev pub parted : MachineFlight → Option Owner → MachineFlight
parted f retires = record { key = f.key; new = f.new; leaves = None; retires = retires; goes = f.goes }

abbrev pub left : Machine → ℕ → MachineFlight → Option Owner → List Change → Machine
left m w f retires due = record { board = record { applied = m.board.applied; flights = put w (Some (parted f retires)) m.board.flights }; due = put w due m.due; reserved = m.reserved; stands = m.stands }

-- others use it: nothing more is due
pub record LeavesOthers (plan : Ports) (m : Machine) (w : ℕ) (f : MachineFlight) (o : Owner) : Type 0 where
  pub leaving : Leaves m w f o
  pub other : Key
  pub apart : other ≡ f.key → ⊥
  pub user : IsUser plan m.board other o

-- the key was the last user: the things of what it shared are to go
pub record LeavesLast (plan : Ports) (m : Machine) (w : ℕ) (f : MachineFlight) (o : Owner) (due : List Change) : Type 0 where
  pub leaving : Leaves m w f o
  pub last : (k : Key) → IsUser plan m.board k o → k ≡ f.key
  pub about : (p : Owner) → HasChangeOf plan due p → p ≡ o
  pub runs : Runs plan (parted f (Some o)) (StandsIn m) due

-- ---- an operation ends

pub record Ends (m : Machine) (w : ℕ) (f : MachineFlight) : Type 0 where
  pub flying : m.board.flights w ≡ Some f
  pub done : m.due w ≡ []
  pub left : f.leaves ≡ None

abbrev pub finished : Machine → ℕ → MachineFlight → Machine
finished m w f = record { board = record { applied = with_row f.key f.new m.board.applied; flights = put w None m.board.flights }; due = m.due; reserved = put w [] m.reserved; stands = m.stands }

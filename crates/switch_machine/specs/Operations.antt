-- When an operation may begin, with which changes, and when its key was the last user of what it leaves. The orders of calls are those of SONiC's orchestration agent. Own.
use Rattle.std.specs.Prelude.{◌≡◌, Bool, true, false, ℕ, List, Option, Some, None}
use Rattle.swss_types.specs.declared.address.Ip.{Ip}
use Rattle.swss_types.specs.declared.interface.IfName.{IfName}
use Rattle.swss_types.specs.declared.vrf.Vrf.{Vrf}
use Rattle.table_schema.specs.Plan.{Ports}
use Rattle.table_schema.specs.declared.key.Key.{Key}
use Rattle.table_schema.specs.declared.key.Key.TheVariants as key
use Rattle.sai_types.specs.Alike.{IsIn}
use Rattle.switch_model.specs.Placed as row
use Rattle.switch_model.specs.Placed.{Placed as Row, PlacedRows, placed_names as names_of}
use Rattle.row_layout.specs.Operations.{Change, make_all, own_changes, uses_of}
use Rattle.row_layout.specs.Rows.{Owner}
use Rattle.row_layout.specs.Shared.{shared_things, uses}
use Rattle.switch_machine.specs.Flights.{CountsAsUser, Fits, MachineFlight, HasChangeOf, IsFirm, IsResting, IsRow, IsUser, Machine, goes_over}
use Rattle.switch_machine.specs.Steps.{Leaves}

-- first what is shared is built, where it is absent
abbrev pub built_first : Option Owner → List Change → List Change
built_first None own = own
built_first (Some o) own = make_all (shared_things o) own

-- the changes of an operation: it builds what its new row shares, where that has no user
pub record IsOperation (plan : Ports) (m : Machine) (f : MachineFlight) (due : List Change) : Type 0 where
  pub builds : Option Owner
  pub is : due ≡ built_first builds (own_changes plan f.key (m.board.applied f.key) f.new)
  pub built : (o : Owner) → builds ≡ Some o → IsIn o (uses_of plan f.key f.new) × ((k : Key) → IsUser plan m.board k o → ⊥)
  pub found : builds ≡ None → (o : Owner) → IsIn o (uses_of plan f.key f.new) → (k : Key) × IsUser plan m.board k o

pub record MayBegin (plan : Ports) (m : Machine) (w : ℕ) (f : MachineFlight) (due : List Change) : Type 0 where
  pub idle : m.board.flights w ≡ None
  pub rests : IsResting m.board f.key
  pub fit : (r : Row) → f.new ≡ Some r → Fits plan f.key r
  -- nothing is missing
  pub named : (p : Key) (r : Row) → f.new ≡ Some r → IsIn p (names_of f.key r) → IsFirm m.board p
  pub goes : f.goes ≡ goes_over f.key (m.board.applied f.key) f.new
  -- an address is to be in the router of its interface
  pub inside : (n : IfName) (ip : Ip) (len : ℕ) (v w : Vrf) → f.key ≡ key.Addr n ip len → f.new ≡ Some (row.Addr v) → m.board.applied (key.Intf n) ≡ Some (row.Intf w) → v ≡ w
  -- nothing holds a row that is to go
  pub unnamed : f.goes ≡ true → (k : Key) (r : Row) → IsRow m.board k r → IsIn f.key (names_of k r) → ⊥
  -- nobody builds or retires what the new row shares
  pub free : (o : Owner) → IsIn o (uses_of plan f.key f.new) → (v : ℕ) (g : MachineFlight) → m.board.flights v ≡ Some g → (HasChangeOf plan (m.due v) o → ⊥) × (g.retires ≡ Some o → ⊥)
  pub none : f.retires ≡ None
  -- it has to leave what its applied row shares and its new one does not
  pub leaves : (o : Owner) → f.leaves ≡ Some o → IsIn o (uses_of plan f.key (m.board.applied f.key)) × (IsIn o (uses_of plan f.key f.new) → ⊥)
  pub covers : (o : Owner) → IsIn o (uses_of plan f.key (m.board.applied f.key)) → CountsAsUser plan f o
  pub operation : IsOperation plan m f due

-- whether another row than this key's uses what is shared
pub record IsUsedByOthers (plan : Ports) (rows : PlacedRows) (k : Key) (used : Owner → Bool) : Type 0 where
  pub yes : (o : Owner) → used o ≡ true → (q : Key) × (r : Row) × (q ≡ k → ⊥) × (rows q ≡ Some r) × IsIn o (uses plan q r)
  pub no : (o : Owner) → used o ≡ false → (q : Key) (r : Row) → (q ≡ k → ⊥) → rows q ≡ Some r → IsIn o (uses plan q r) → ⊥

-- it was the last user of what it leaves
pub record IsLast (plan : Ports) (m : Machine) (w : ℕ) (f : MachineFlight) (o : Owner) : Type 0 where
  pub leaving : Leaves m w f o
  pub last : (k : Key) → IsUser plan m.board k o → k ≡ f.key

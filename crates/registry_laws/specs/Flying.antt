-- When what workers have under way stands for the machine. Own.
use Rattle.std.specs.Prelude.{◌≡◌, ◌⊎◌, ◌++◌, ℕ, true, false, List, [], length, Option, Some, None}
use Rattle.table_schema.specs.Fields.{HasRisingKeys}
use Rattle.table_schema.specs.Plan.{Ports}
use Rattle.table_schema.specs.declared.key.Key.{Key}
use Rattle.sai_types.specs.declared.kind.Kind.{Kind}
use Rattle.sai_types.specs.declared.weight.WHop.{WHop}
use Rattle.sai_types.specs.declared.thing.Thing.{Thing}
use Rattle.sai_types.specs.Alike.{IsIn}
use Rattle.sai_types.specs.Names.{name_of}
use Rattle.switch_model.specs.Placed.{Placed as Row}
use Rattle.row_layout.specs.Operations.{Change, own_changes}
use Rattle.row_layout.specs.Rows.{Owner}
use Rattle.switch_machine.specs.Changes.{Disturbs}
use Rattle.switch_machine.specs.Events.{SwitchState}
use Rattle.switch_machine.specs.Flights.{Machine, StandsIn, own_of}
use Rattle.switch_machine.specs.Places.{makes}
use Rattle.ref_counts.specs.declared.name.NameState.TheVariants as state
use Rattle.ref_counts.specs.Registered.{Registered}
use Rattle.ref_counts.specs.Registry.{Names, registered_name_cmp, places_of, registered_at, state_of}
use Rattle.ref_counts.specs.Room.{RoomState}
use Rattle.orch_flight.specs.Calling.{IsOver}
use Rattle.orch_flight.specs.Grouping.{GroupOperation, IsGroupOver, first_group_due}
use Rattle.orch_flight.specs.Needing.{name_for}
use Rattle.orch_flight.specs.Operation.{Operation}
use Rattle.orch_flight.specs.Starting.{built_here, ids_for, taken_here}
use Rattle.registry_laws.specs.Flown.{Flown, due_for, flight_of, group_to_build, group_to_take, still_there}
use Rattle.registry_laws.specs.Registers.{HaveDue, Registers, kept_beyond}

-- ---- names

-- a name that is being built has places for all its identifiers
abbrev pub HavePlacesForIdentifiers : Names → Type 0
HavePlacesForIdentifiers names = (o : Owner) (worker : ℕ) → state_of names (name_for o) ≡ state.Building worker → places_of names (name_for o) ≡ ids_for o

-- a name that is absent is not registered
abbrev pub AreThere : Names → Type 0
AreThere names = (o : Owner) (r : Registered) → registered_at names (name_for o) ≡ Some r → r.state ≡ state.Absent → ⊥

-- ---- the operation of a row

-- what is left of some changes
abbrev pub IsRestOf : List Change → List Change → Type 0
IsRestOf all due = (before : List Change) × (all ≡ before ++ due)

-- what is due is left of the changes from the old row to the new one, or of those that take away what the row shared last
abbrev pub IsRestFrom : Ports → Option Row → Operation → Type 0
IsRestFrom plan old f = ((f.retires ≡ None) × ((builds : Option Owner) × IsRestOf (built_here builds (own_changes plan f.key old f.new)) f.due)) ⊎ IsRestOf (taken_here f.retires) f.due

-- a row is the old one, or one that stands between an old and a new one
abbrev pub IsBetween : Option Row → Option Row → Option Row → Type 0
IsBetween old new now = (now ≡ old) ⊎ ((a : Row) × (r : Row) × (n : Row) × (old ≡ Some a) × (new ≡ Some r) × (now ≡ Some n))

-- each thing of the row that there is now stands, where it is due to be set or taken away
abbrev pub HasStanding : Ports → Machine → Operation → Type 0
HasStanding plan m f = (t : Thing) (c : Change) → IsIn t (own_of plan f.key f.now) → IsIn c f.due → Disturbs c (name_of t) → StandsIn m t

-- ---- and that of a group

-- it builds the group that is to be built, or takes away the one that is to go; a change of it is due; and so many were made as there are identifiers
pub record IsGroupFlown (plan : Ports) (names : Names) (f : Operation) (g : GroupOperation) : Type 0 where
  pub worker : g.worker ≡ f.worker
  pub is : ((g.builds ≡ true) × (group_to_build plan names f ≡ Some g.hops)) ⊎ ((g.builds ≡ false) × (group_to_take f ≡ Some g.hops))
  pub over : IsGroupOver plan g
  pub some : g.due ≡ [] → ⊥
  pub rest : (before : List Change) × (first_group_due g.hops g.builds ≡ before ++ g.due) × (g.builds ≡ true → length before ≡ length g.made)

-- ---- and all that a worker has under way

pub record IsFlown (plan : Ports) (names : Names) (m : Machine) (w : ℕ) (x : Flown) : Type 0 where
  pub flying : m.board.flights w ≡ Some (flight_of x.operation)
  pub worker : x.operation.worker ≡ w
  pub due : m.due w ≡ due_for plan names x
  pub over : IsOver plan x.operation
  -- the key has a row, or is to have one
  pub some : m.board.applied x.operation.key ≡ None → x.operation.new ≡ None → ⊥
  pub rest : IsRestFrom plan (m.board.applied x.operation.key) x.operation
  pub between : IsBetween (m.board.applied x.operation.key) x.operation.new x.operation.now
  pub standing : HasStanding plan m x.operation
  -- after the group that it builds it has changes of its own
  pub later : (hops : List WHop) → group_to_build plan names x.operation ≡ Some hops → x.operation.due ≡ [] → ⊥
  pub group : (g : GroupOperation) → x.group ≡ Some g → IsGroupFlown plan names x.operation g
  -- it keeps a place beyond those reserved for it exactly while its interface counts as still there
  pub beyond : (kind : Kind) → kept_beyond m kind w ≡ still_there kind (Some x)
  -- an interface that goes over to another router needs no places
  pub reserves : (r : Row) → x.operation.new ≡ Some r → (flight_of x.operation).goes ≡ true → (kind : Kind) → makes kind (m.reserved w) ≡ 0

abbrev pub flown_as : Operation → Option GroupOperation → Flown
flown_as f g = record { operation = f; group = g }

-- the names, the room and what each worker has under way stand for the machine
pub record KnowsBoard (plan : Ports) (capacities : List ℕ) (names : Names) (room : RoomState) (flown : ℕ → Option Flown) (m : Machine) : Type 0 where
  pub registers : Registers plan 4 capacities names room m
  pub rising : HasRisingKeys registered_name_cmp names
  pub busy : HaveDue m
  pub idle : (w : ℕ) → flown w ≡ None → m.board.flights w ≡ None
  pub flying : (w : ℕ) (x : Flown) → flown w ≡ Some x → IsFlown plan names m w x
  pub placed : HavePlacesForIdentifiers names
  pub there : AreThere names

-- the state with another machine, and fewer keys to sync
abbrev pub with_machine : SwitchState → Machine → List Key → SwitchState
with_machine s t later = record { machine = t; written = s.written; to_sync = later; made = s.made; objects = s.objects }

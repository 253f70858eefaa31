-- When the registry's names and the room's places stand for a state of the machine. Own.
use Rattle.std.specs.Prelude.{◌≡◌, ◌+◌, ◌-◌, ◌<◌, ◌≤◌, ℕ, List, [], Option, Some, None}
use Rattle.table_schema.specs.Plan.{Ports}
use Rattle.table_schema.specs.declared.key.Key.{Key}
use Rattle.sai_types.specs.declared.kind.Kind.{Kind}
use Rattle.sai_types.specs.Alike.{IsIn}
use Rattle.sai_types.specs.Objects.{Objects, used}
use Rattle.switch_model.specs.Placed.{Placed as Row}
use Rattle.row_layout.specs.Operations.{Change, make_all, own_changes, shared_going, take_all}
use Rattle.row_layout.specs.Rows.{Group, Owner}
use Rattle.row_layout.specs.Shared.{shared_things}
use Rattle.switch_machine.specs.Changes.{changed_name}
use Rattle.switch_machine.specs.Flights.{MachineFlight, IsOwnedBy, IsShared, Machine, goes_over}
use Rattle.switch_machine.specs.Operations.{built_first}
use Rattle.switch_machine.specs.Places.{makes, sum_below}
use Rattle.sai_types.specs.declared.ids.Vid.{Vid}
use Rattle.ref_counts.specs.declared.name.Name.{Name}
use Rattle.ref_counts.specs.declared.name.Name.TheVariants as name
use Rattle.ref_counts.specs.Registered.{made_live}
use Rattle.ref_counts.specs.Registry as registry
use Rattle.ref_counts.specs.Registry.{registered_at}
use Rattle.ref_counts.specs.Room.{RoomState, number_of_kind, places_by}
use Rattle.orch_flight.specs.Needing.{name_for, to_build}
use Rattle.orch_flight.specs.Starting.{leaving}
use Rattle.registry_laws.specs.Known.{IsKnownRow, IsKnownShared}

-- what the registry knows of each name
pub record KnowsNames (plan : Ports) (names : registry.Names) (m : Machine) : Type 0 where
  pub rows : (k : Key) → IsKnownRow m k (registered_at names (name.Row k))
  pub shared : (o : Owner) → IsShared o → IsKnownShared plan m o (registered_at names (name_for o))

-- the places that the room has reserved are those that the machine's workers keep
pub record KnowsRoom (capacities : List ℕ) (room : RoomState) (m : Machine) : Type 0 where
  pub capacities_are : room.capacities ≡ capacities
  pub places : (w : ℕ) (kind : Kind) → w < 4 → places_by room.reserved w kind ≡ makes kind (m.reserved w)

pub record Registers (plan : Ports) (workers : ℕ) (capacities : List ℕ) (names : registry.Names) (room : RoomState) (m : Machine) : Type 0 where
  pub names_known : KnowsNames plan names m
  pub room_known : KnowsRoom capacities room m
  -- at most four workers have operations
  pub few : workers ≤ 4
  pub below : (w : ℕ) (f : MachineFlight) → m.board.flights w ≡ Some f → w < workers
  -- an operation that retires something has only changes of it to make
  pub retiring : (w : ℕ) (f : MachineFlight) (o : Owner) (c : Change) → m.board.flights w ≡ Some f → f.retires ≡ Some o → IsIn c (m.due w) → IsOwnedBy plan (changed_name c) o

-- each operation has a change to make: so it is between events
abbrev pub HaveDue : Machine → Type 0
HaveDue m = (w : ℕ) (f : MachineFlight) → m.board.flights w ≡ Some f → m.due w ≡ [] → ⊥

-- each operation but this worker's has
abbrev pub OthersHaveDue : Machine → ℕ → Type 0
OthersHaveDue m worker = (w : ℕ) (f : MachineFlight) → (w ≡ worker → ⊥) → m.board.flights w ≡ Some f → m.due w ≡ [] → ⊥

-- how many places of a kind a worker keeps beyond those reserved for it: of what it took away and is to make again
abbrev pub kept_beyond : Machine → Kind → ℕ → ℕ
kept_beyond m kind w = makes kind (m.due w) - makes kind (m.reserved w)

-- how many objects of each kind there are, counted with those that were taken away and are to be made again
abbrev pub AreUsed : Machine → Objects → List ℕ → Type 0
AreUsed m objects numbers = (kind : Kind) → number_of_kind numbers kind ≡ used objects kind + sum_below 4 (kept_beyond m kind)

-- the operation that begins, and what is due for it
abbrev pub beginning : Ports → Key → Option Row → Option Row → MachineFlight
beginning plan k old new = record { key = k; new = new; leaves = leaving plan k old new; retires = None; goes = goes_over k old new }

abbrev pub due_first : Ports → registry.Names → Key → Option Row → Option Row → List Change
due_first plan names k old new = built_first (to_build plan names k new) (own_changes plan k old new)

-- a name becomes live, with these identifiers
abbrev pub made_live_at : registry.Names → Name → List Vid → registry.Names
made_live_at names n ids = registry.changed names n (made_live ids)

-- the changes that build a group, where one is to be built
abbrev pub group_built : Option Owner → List Change
group_built (Some (Group hops)) = make_all (shared_things (Group hops)) []
group_built _ = []

-- and those that take it away
abbrev pub group_taken : Owner → List Change
group_taken (Group hops) = take_all (shared_going (Group hops)) []
group_taken _ = []

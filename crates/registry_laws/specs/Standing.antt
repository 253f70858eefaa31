-- When the registry, the room, what workers have under way and how identifiers are tied stand for a state of the machine. Own.
use Rattle.std.specs.Prelude.{◌≡◌, ◌<◌, ◌+◌, ℕ, true, List, Option, Some}
use Rattle.table_schema.specs.Plan.{Ports}
use Rattle.table_schema.specs.declared.key.Key.{Key}
use Rattle.sai_types.specs.declared.body.Call.{Call}
use Rattle.sai_types.specs.declared.ids.Rid.{Rid}
use Rattle.sai_types.specs.declared.ids.Vid.{Vid}
use Rattle.sai_types.specs.declared.thing.Thing.{Thing}
use Rattle.sai_types.specs.After.{after_call}
use Rattle.sai_types.specs.Alike.{IsIn}
use Rattle.sai_types.specs.Made.{made_after}
use Rattle.sai_types.specs.Objects.{Objects}
use Rattle.chip_layout.specs.Layout.{has_number}
use Rattle.switch_machine.specs.Events.{IsSafe, SwitchState}
use Rattle.switch_machine.specs.Flights.{Machine}
use Rattle.ref_counts.specs.Registry.{Names}
use Rattle.ref_counts.specs.Room.{RoomState}
use Rattle.registry_laws.specs.Flown.{Flown}
use Rattle.registry_laws.specs.Flying.{KnowsBoard}
use Rattle.registry_laws.specs.Making.{with_group_begun}
use Rattle.registry_laws.specs.Identified.{HasWholeGroups, HasWholeInterfaces, Identified}

-- between events the state is safe; the names, the room and what each worker has under way stand for its machine; and the names' identifiers are tied to those of the objects that stand
pub record StandsFor (plan : Ports) (capacities : List ℕ) (names : Names) (room : RoomState) (flown : ℕ → Option Flown) (rid : Vid → Option Rid) (s : SwitchState) : Type 0 where
  pub safe : IsSafe plan 4 capacities s
  pub board : KnowsBoard plan capacities names room flown s.machine
  pub identified : Identified plan names rid flown s.machine.stands
  pub whole : HasWholeGroups names
  pub interfaces : HasWholeInterfaces names

-- the operation of the group that a worker is to build, or to take away, has begun
abbrev pub HasBegun : Ports → Names → Flown → Type 0
HasBegun plan names x = x ≡ with_group_begun plan names x

-- none of the workers has an operation of the key under way
abbrev pub IsNotFlown : (ℕ → Option Flown) → Key → Type 0
IsNotFlown flown k = (v : ℕ) (x : Flown) → v < 4 → flown v ≡ Some x → x.operation.key ≡ k → ⊥

-- the state when a call has taken effect, with this machine
abbrev pub with_answer : SwitchState → Machine → Call Rid → SwitchState
with_answer s t call = record { machine = t; written = s.written; to_sync = s.to_sync; made = made_after s.made call; objects = after_call (s.made + 1) s.objects call }

-- the state over a chip, where what stands has its identifiers
abbrev pub over_chip : SwitchState → List (Rid × Thing) → ℕ → Objects → SwitchState
over_chip s stands made objects = record { machine = record { board = s.machine.board; due = s.machine.due; reserved = s.machine.reserved; stands = stands }; written = s.written; to_sync = s.to_sync; made = made; objects = objects }

-- the same things stand, and what was tied to the identifier of one is tied to the one that it has now
pub record AreRetied (rid rid' : Vid → Option Rid) (stands later : List (Rid × Thing)) : Type 0 where
  pub into : (i : Rid) (t : Thing) → IsIn (i, t) stands → (j : Rid) × IsIn (j, t) later
  pub back : (j : Rid) (t : Thing) → IsIn (j, t) later → (i : Rid) × IsIn (i, t) stands × (has_number t ≡ true → (v : Vid) → rid v ≡ Some i → rid' v ≡ Some j)

-- What holds of the service between its events, by warm state. Own.
use Rattle.std.specs.Prelude.{◌≡◌, ℕ, List, [], ◌∷◌}
use Rattle.table_schema.specs.Plan.{Ports}
use Rattle.sai_types.specs.declared.ids.Rid.{Rid}
use Rattle.sai_types.specs.declared.body.Call.{Call}
use Rattle.sai_types.specs.declared.thing.Thing.{Thing}
use Rattle.sai_types.specs.After.{after_calls}
use Rattle.sai_types.specs.Alike.{IsIn}
use Rattle.sai_types.specs.Made.{AreLegal}
use Rattle.sai_types.specs.Objects.{Objects}
use Rattle.chip_layout.specs.Layout.{IsLaidOut, listed}
use Rattle.switch_machine.specs.Events.{SwitchState, IsSafe, IsQuiet, empty_machine}
use Rattle.switch_machine.specs.Flights.{StandsIn}
use Rattle.switch_machine.specs.Written.{HasWrittenRows, IsTold}
use Rattle.warm_state.specs.declared.warm.Warm.{Warm}
use Rattle.warm_state.specs.declared.warm.Warm.TheVariants.{Initialized, Restored, Applying, Reconciled, Suspect}
use Rattle.restart_laws.specs.Chips.{IsPlannedChip, IsPlannedCall}
use Rattle.restart_laws.specs.Service.{Service}

-- in every state, whatever failed
pub record HoldsAlways (plan : Ports) (capacities : List ℕ) (c : SwitchState) : Type 0 where
  pub chip : IsPlannedChip plan capacities c.made c.objects
  pub told : IsTold c.written
  pub dated : HasWrittenRows c.written

-- nothing is applied, and no key is to sync
pub record IsForgotten (c : SwitchState) : Type 0 where
  pub machine : c.machine ≡ empty_machine
  pub to_sync : c.to_sync ≡ []

abbrev pub AllPlanned : Ports → List (Call Rid) → Type 0
AllPlanned plan [] = Unit {0}
AllPlanned plan (c ∷ cs) = IsPlannedCall plan c × AllPlanned plan cs

-- calls that are legal, made in order, and lead to a chip with these things
pub record Leads (plan : Ports) (capacities : List ℕ) (made : ℕ) (objects : Objects) (view : Thing → Type 0) (calls : List (Call Rid)) : Type 0 where
  pub legal : AreLegal capacities made objects calls
  pub planned : AllPlanned plan calls
  pub stands : List (Rid × Thing)
  pub laid : IsLaidOut (listed stands) (after_calls made objects calls)
  pub into : (u : Thing) → view u → (i : Rid) × IsIn (i, u) stands
  pub back : (u : Thing) (i : Rid) → IsIn (i, u) stands → view u

-- the core with another chip in the place of its own
abbrev pub with_chip : SwitchState → ℕ → Objects → SwitchState
with_chip c made objects = record { machine = c.machine; written = c.written; to_sync = c.to_sync; made = made; objects = objects }

-- the machine is that of a view, and the calls that are left lead to a chip with its things
pub record IsApplying (plan : Ports) (workers : ℕ) (capacities : List ℕ) (s : Service) : Type 0 where
  pub made : ℕ
  pub objects : Objects
  pub view : IsSafe plan workers capacities (with_chip s.core made objects)
  pub quiet : IsQuiet s.core
  pub leads : Leads plan capacities s.core.made s.core.objects (StandsIn s.core.machine) s.left

abbrev pub HoldsIn : Ports → ℕ → List ℕ → Warm → Service → Type 0
HoldsIn plan workers capacities Reconciled s = IsSafe plan workers capacities s.core
HoldsIn plan workers capacities Initialized s = IsForgotten s.core
HoldsIn plan workers capacities Restored s = IsForgotten s.core × (s.seen ≡ s.core.objects)
HoldsIn plan workers capacities Applying s = IsApplying plan workers capacities s
HoldsIn plan workers capacities Suspect s = Unit {0}

pub record Holds (plan : Ports) (workers : ℕ) (capacities : List ℕ) (s : Service) : Type 0 where
  pub safe : HoldsAlways plan capacities s.core
  pub state : HoldsIn plan workers capacities s.warm s

-- The core with its warm state, and its events over restarts and faults. Own; the states are those of SONiC's warm restart.
use Rattle.std.specs.Prelude.{◌≡◌, ℕ, ◌+◌, List, [], ◌∷◌, Option, Some, None}
use Rattle.table_schema.specs.Plan.{Ports}
use Rattle.sai_types.specs.declared.ids.Rid.{Rid}
use Rattle.sai_types.specs.declared.body.Call.{Call}
use Rattle.sai_types.specs.declared.plan.Mode.{Mode}
use Rattle.sai_types.specs.declared.thing.Thing.{Thing}
use Rattle.sai_types.specs.After.{after_call}
use Rattle.sai_types.specs.Alike.{IsIn}
use Rattle.sai_types.specs.Made.{made_after}
use Rattle.sai_types.specs.Objects.{Objects}
use Rattle.chip_layout.specs.Layout.{IsLaidOut, listed}
use Rattle.switch_machine.specs.Events.{IsDueCall, IsEvent, IsTake, SwitchState, empty_machine, empty_switch, with_made_call}
use Rattle.switch_machine.specs.Flights.{Machine, StandsIn}
use Rattle.warm_state.specs.declared.warm.Warm.{Warm}
use Rattle.warm_state.specs.declared.warm.Warm.TheVariants.{Initialized, Restored, Applying, Reconciled, Suspect}
use Rattle.restart_laws.specs.Planned.{IsPlannedAs}
use Rattle.restart_laws.specs.Restored.{IsRestored, keys_waiting, only_things}

-- the core with its chip, the list last taken of the chip, and the calls of a plan that are left; while these are made the machine is that of the view, with the view's identifiers
pub record Service : Type 0 where
  pub warm : Warm
  pub core : SwitchState
  pub seen : Objects
  pub left : List (Call Rid)

-- ---- in any state

-- a write is taken
pub record TakesIn (s t : Service) : Type 0 where
  pub warm : t.warm ≡ s.warm
  pub core : IsTake s.core t.core
  pub seen : t.seen ≡ s.seen
  pub left : t.left ≡ s.left

-- nothing is known but the rows, what waits, and the chip
abbrev pub forgotten : SwitchState → SwitchState
forgotten c = record { machine = empty_machine; written = c.written; to_sync = []; made = c.made; objects = c.objects }

-- the service restarts
pub record Restarts (s t : Service) : Type 0 where
  pub warm : t.warm ≡ Initialized
  pub core : t.core ≡ forgotten s.core

-- ---- a fault

-- a call is due, of an operation or of a plan
pub data IsDue (workers : ℕ) (s : Service) (call : Call Rid) : Type 0 where
  OfFlight : s.warm ≡ Reconciled → IsDueCall workers call s.core → IsDue workers s call
  OfPlan : (rest : List (Call Rid)) → s.warm ≡ Applying → s.left ≡ call ∷ rest → IsDue workers s call

-- the chip after a call that failed, without its effect or with it
abbrev pub HasFailed : Call Rid → SwitchState → Option (Call Rid) → SwitchState → Type 0
HasFailed call s None t = (t.made ≡ s.made) × (t.objects ≡ s.objects)
HasFailed call s (Some c) t = (c ≡ call) × (t.made ≡ made_after s.made call) × (t.objects ≡ after_call (s.made + 1) s.objects call)

-- a call fails
pub record CallFails (workers : ℕ) (s : Service) (effect : Option (Call Rid)) (t : Service) : Type 0 where
  pub call : Call Rid
  pub due : IsDue workers s call
  pub warm : t.warm ≡ Suspect
  pub written : t.core.written ≡ s.core.written
  pub chip : HasFailed call s.core effect t.core

-- the chip can't be listed
pub record ListFails (s t : Service) : Type 0 where
  pub before : s.warm ≡ Initialized
  pub warm : t.warm ≡ Suspect
  pub core : t.core ≡ s.core

-- ---- while the chip is what the service remembers

-- an event of the machine
pub record Works (plan : Ports) (workers : ℕ) (capacities : List ℕ) (s : Service) (effect : Option (Call Rid)) (t : Service) : Type 0 where
  pub before : s.warm ≡ Reconciled
  pub warm : t.warm ≡ Reconciled
  pub event : IsEvent plan workers capacities s.core effect t.core

-- ---- after a restart

-- the chip is listed
pub record ListsChip (s t : Service) : Type 0 where
  pub before : s.warm ≡ Initialized
  pub warm : t.warm ≡ Restored
  pub core : t.core ≡ s.core
  pub seen : t.seen ≡ s.core.objects

-- the rows are restored to a view, and a plan is made from what was listed; the keys that wait are to sync
pub record Restores (plan : Ports) (workers : ℕ) (capacities : List ℕ) (s t : Service) : Type 0 where
  pub before : s.warm ≡ Restored
  pub warm : t.warm ≡ Applying
  pub view : SwitchState
  pub restored : IsRestored plan workers capacities s.core.written view
  pub machine : t.core.machine ≡ view.machine
  pub written : t.core.written ≡ view.written
  pub to_sync : t.core.to_sync ≡ keys_waiting restored.waits
  pub made : t.core.made ≡ s.core.made
  pub objects : t.core.objects ≡ s.core.objects
  pub mode : Mode
  pub planned : IsPlannedAs mode capacities s.core.made s.seen (only_things view.machine.stands) t.left

-- the next call of the plan is made
pub record AppliesNext (s : Service) (call : Call Rid) (t : Service) : Type 0 where
  pub before : s.warm ≡ Applying
  pub warm : t.warm ≡ Applying
  pub next : s.left ≡ call ∷ t.left
  pub machine : t.core.machine ≡ s.core.machine
  pub written : t.core.written ≡ s.core.written
  pub to_sync : t.core.to_sync ≡ s.core.to_sync
  pub made : t.core.made ≡ made_after s.core.made call
  pub objects : t.core.objects ≡ after_call (s.core.made + 1) s.core.objects call

-- the same things by other identifiers
abbrev pub by_ids : Machine → List (Rid × Thing) → Machine
by_ids m stands = record { board = m.board; due = m.due; reserved = m.reserved; stands = stands }

-- no call is left: what stands has the identifiers of the chip
pub record Finishes (s t : Service) : Type 0 where
  pub before : s.warm ≡ Applying
  pub warm : t.warm ≡ Reconciled
  pub none : s.left ≡ []
  pub stands : List (Rid × Thing)
  pub into : (u : Thing) → StandsIn s.core.machine u → (i : Rid) × IsIn (i, u) stands
  pub back : (u : Thing) (i : Rid) → IsIn (i, u) stands → StandsIn s.core.machine u
  pub laid : IsLaidOut (listed stands) s.core.objects
  pub machine : t.core.machine ≡ by_ids s.core.machine stands
  pub written : t.core.written ≡ s.core.written
  pub to_sync : t.core.to_sync ≡ s.core.to_sync
  pub made : t.core.made ≡ s.core.made
  pub objects : t.core.objects ≡ s.core.objects

-- ---- all events, each with the call that took effect in it

pub data IsServiceEvent (plan : Ports) (workers : ℕ) (capacities : List ℕ) (s : Service) : Option (Call Rid) → Service → Type 0 where
  OfTake : (t : Service) → TakesIn s t → IsServiceEvent plan workers capacities s None t
  OfWork : (effect : Option (Call Rid)) (t : Service) → Works plan workers capacities s effect t → IsServiceEvent plan workers capacities s effect t
  OfFault : (effect : Option (Call Rid)) (t : Service) → CallFails workers s effect t → IsServiceEvent plan workers capacities s effect t
  OfListFault : (t : Service) → ListFails s t → IsServiceEvent plan workers capacities s None t
  OfRestart : (t : Service) → Restarts s t → IsServiceEvent plan workers capacities s None t
  OfList : (t : Service) → ListsChip s t → IsServiceEvent plan workers capacities s None t
  OfRestore : (t : Service) → Restores plan workers capacities s t → IsServiceEvent plan workers capacities s None t
  OfApply : (call : Call Rid) (t : Service) → AppliesNext s call t → IsServiceEvent plan workers capacities s (Some call) t
  OfFinish : (t : Service) → Finishes s t → IsServiceEvent plan workers capacities s None t

abbrev pub AreServiceEvents : Ports → ℕ → List ℕ → Service → List (Option (Call Rid) × Service) → Type 0
AreServiceEvents plan workers capacities s [] = Unit {0}
AreServiceEvents plan workers capacities s (e ∷ es) = IsServiceEvent plan workers capacities s e.0 e.1 × AreServiceEvents plan workers capacities e.1 es

abbrev pub service_after : Service → List (Option (Call Rid) × Service) → Service
service_after s [] = s
service_after s (e ∷ es) = service_after e.1 es

-- the calls that took effect, in order
abbrev pub effects_of : List (Option (Call Rid) × Service) → List (Call Rid)
effects_of [] = []
effects_of (e ∷ es) = with_made_call e.0 (effects_of es)

-- a session begins reconciled, over an empty chip
abbrev pub new_service : Service
new_service = record { warm = Reconciled; core = empty_switch; seen = []; left = [] }

-- each state is that of an apply
abbrev pub AreApplying : List (Option (Call Rid) × Service) → Type 0
AreApplying [] = Unit {0}
AreApplying (e ∷ es) = (e.1.warm ≡ Applying) × AreApplying es

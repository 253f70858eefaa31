-- The service with its log and the calls that took effect: what each event records. Own.
use Rattle.std.specs.Prelude.{◌≡◌, ◌⊎◌, ℕ, ◌<◌, ◌++◌, List, [], ◌∷◌, length, Option, Some, None}
use Rattle.table_schema.specs.Plan.{Ports}
use Rattle.table_schema.specs.declared.write.Sent.{Sent}
use Rattle.sai_types.specs.declared.ids.Rid.{Rid}
use Rattle.sai_types.specs.declared.body.Call.{Call}
use Rattle.switch_model.specs.declared.mark.Mark.{Mark}
use Rattle.switch_model.specs.declared.mark.MarkEvent.{MarkEvent}
use Rattle.switch_model.specs.declared.mark.MarkEvent.TheVariants as event
use Rattle.switch_model.specs.History.{History, no_history, with_end, with_mark, with_write}
use Rattle.switch_machine.specs.Events.{with_made_call}
use Rattle.machine_laws.specs.Logged.{IsLoggedEvent, LoggedSwitch}
use Rattle.warm_state.specs.declared.warm.Warm.{Warm}
use Rattle.warm_state.specs.declared.warm.Warm.TheVariants.{Initialized, Restored, Applying, Reconciled, Suspect}
use Rattle.restart_laws.specs.Restored.{waiting_of}
use Rattle.restart_laws.specs.Service.{IsServiceEvent, OfApply, OfFault, OfFinish, OfList, OfListFault, OfRestart, OfRestore, OfTake, OfWork, Service, new_service}

pub record LoggedService : Type 0 where
  pub service : Service
  pub log : History
  pub effects : List (Call Rid)

-- a session begins with an empty log
abbrev pub new_session : LoggedService
new_session = record { service = new_service; log = no_history; effects = [] }

abbrev pub switch_of : LoggedService → LoggedSwitch
switch_of s = record { switch = s.service.core; log = s.log; effects = s.effects }

-- a mark counts the writes taken and the calls that had taken effect by then
abbrev pub mark_now : History → List (Call Rid) → MarkEvent → Mark
mark_now log effects e = record { taken = length log.taken; effects = length effects; event = e }

abbrev pub AddsMark : LoggedService → LoggedService → MarkEvent → Type 0
AddsMark s t e = t.log ≡ with_mark s.log (mark_now s.log t.effects e)

-- a fault is marked with the chip's count of faults before the call and after it; in a settling the round ends at the mark
abbrev pub AddsFault : LoggedService → LoggedService → Type 0
AddsFault s t = (before : ℕ) × (after : ℕ) × (before < after) × (AddsMark s t (event.Faulted before after) ⊎ (t.log ≡ with_end (with_mark s.log (mark_now s.log t.effects (event.Faulted before after)))))

-- what an event records: a write; a fault; a restart; the beginning of an apply, with its mode and the keys that wait; its end; and nothing else
abbrev pub Records : {plan : Ports} {workers : ℕ} {capacities : List ℕ} {s t : Service} {c : Option (Call Rid)} → LoggedService → LoggedService → IsServiceEvent plan workers capacities s c t → Type 0
Records s t (OfTake _ x) = (sent : Sent) × (x.core.write ≡ sent.write) × (t.log ≡ with_write s.log sent)
Records s t (OfWork c _ x) = ⊥
Records s t (OfFault c _ x) = AddsFault s t
Records s t (OfListFault _ x) = AddsFault s t
Records s t (OfRestart _ x) = AddsMark s t event.Restarted
Records s t (OfList _ x) = t.log ≡ s.log
Records s t (OfRestore _ x) = AddsMark s t (event.ApplyBegan x.mode (waiting_of x.restored.waits))
Records s t (OfApply call _ x) = t.log ≡ s.log
Records s t (OfFinish _ x) = AddsMark s t event.ApplyEnded

-- an event of the service, with what it records; while reconciled also one of the machine, the end of a settling among them
pub data IsLoggedStep (plan : Ports) (workers : ℕ) (capacities : List ℕ) (s t : LoggedService) : Type 0 where
  OfMachine : s.service.warm ≡ Reconciled → t.service.warm ≡ Reconciled → IsLoggedEvent plan workers capacities (switch_of s) (switch_of t) → IsLoggedStep plan workers capacities s t
  OfService : (c : Option (Call Rid)) (e : IsServiceEvent plan workers capacities s.service c t.service) → t.effects ≡ s.effects ++ with_made_call c [] → Records s t e → IsLoggedStep plan workers capacities s t

abbrev pub AreLoggedSteps : Ports → ℕ → List ℕ → LoggedService → List LoggedService → Type 0
AreLoggedSteps plan workers capacities s [] = Unit {0}
AreLoggedSteps plan workers capacities s (t ∷ ts) = IsLoggedStep plan workers capacities s t × AreLoggedSteps plan workers capacities t ts

abbrev pub session_after : LoggedService → List LoggedService → LoggedService
session_after s [] = s
session_after s (t ∷ ts) = session_after t ts

-- ---- the last mark

abbrev pub last_mark : Option Mark → List Mark → Option Mark
last_mark before [] = before
last_mark before (mark ∷ marks) = last_mark (Some mark) marks

-- the warm state in which a mark leaves the service, until the next
abbrev pub IsLeftIn : MarkEvent → Warm → Type 0
IsLeftIn (event.Settled waits turns) w = w ≡ Reconciled
IsLeftIn (event.Faulted before after) w = w ≡ Suspect
IsLeftIn event.Restarted w = (w ≡ Initialized) ⊎ (w ≡ Restored)
IsLeftIn (event.ApplyBegan mode waits) w = w ≡ Applying
IsLeftIn event.ApplyEnded w = w ≡ Reconciled

abbrev pub IsWarmAfter : Option Mark → Warm → Type 0
IsWarmAfter None w = w ≡ Reconciled
IsWarmAfter (Some mark) w = IsLeftIn mark.event w

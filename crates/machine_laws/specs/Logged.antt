-- A core with its log and the calls that took effect, and its events. Own.
use Rattle.std.specs.Prelude.{◌≡◌, ◌⊎◌, ◌∷◌, ◌++◌, ℕ, List, [], length, Option}
use Rattle.table_schema.specs.Plan.{Ports}
use Rattle.table_schema.specs.declared.key.Key.{Key}
use Rattle.table_schema.specs.declared.write.Sent.{Sent}
use Rattle.sai_types.specs.declared.ids.Rid.{Rid}
use Rattle.sai_types.specs.declared.body.Call.{Call}
use Rattle.sai_types.specs.Alike.{IsIn}
use mathlib.Core.Logic.{inl, inr}
use Rattle.switch_model.specs.History.{History, no_history, with_end, with_mark, with_write}
use Rattle.switch_model.specs.Marks.{AreInOrder, Waiting, written_key}
use Rattle.switch_model.specs.Placed.{bare_rows}
use Rattle.switch_model.specs.declared.mark.MarkEvent.TheVariants as event
use Rattle.switch_machine.specs.Events.{SwitchState, IsEvent, IsPop, IsQuiet, IsTake, with_made_call, empty_switch}
use Rattle.switch_machine.specs.Reasons.{IsReason}
use Rattle.switch_machine.specs.Written.{IsPopped}
use Rattle.machine_laws.specs.Settling.{AreMachineTurns, AreMachineTurnsSoFar}
use Rattle.machine_laws.specs.ToSync.{AreInKeyOrder}

pub record LoggedSwitch : Type 0 where
  pub switch : SwitchState
  pub log : History
  pub effects : List (Call Rid)

abbrev pub new_switch : LoggedSwitch
new_switch = record { switch = empty_switch; log = no_history; effects = [] }

-- a write is taken, and logged
pub record LogsWrite (s t : LoggedSwitch) : Type 0 where
  pub sent : Sent
  pub takes : IsTake s.switch t.switch
  pub same : takes.write ≡ sent.write
  pub log : t.log ≡ with_write s.log sent
  pub effects : t.effects ≡ s.effects

-- an event that takes no write
pub record MakesEvent (plan : Ports) (workers : ℕ) (capacities : List ℕ) (s t : LoggedSwitch) : Type 0 where
  pub call : Option (Call Rid)
  pub event : IsEvent plan workers capacities s.switch call t.switch
  pub taken : t.switch.written.taken ≡ s.switch.written.taken
  pub log : t.log ≡ s.log
  pub effects : t.effects ≡ s.effects ++ with_made_call call []

-- each listed key has its reason and its applied row
abbrev pub AreListed : Ports → ℕ → List ℕ → SwitchState → Waiting → Type 0
AreListed plan workers capacities s [] = Unit {0}
AreListed plan workers capacities s (w ∷ ws) = IsReason plan workers capacities s w.0 w.1 × (w.2 ≡ bare_rows s.machine.board.applied w.0) × AreListed plan workers capacities s ws

abbrev pub ListsKey : Key → Waiting → Type 0
ListsKey k [] = ⊥
ListsKey k (w ∷ ws) = (w.0 ≡ k) ⊎ ListsKey k ws

-- a settling ends: no operation is under way, nothing waits in the tables, the keys to sync are listed, and the round ends at the mark
pub record LogsMark (plan : Ports) (workers : ℕ) (capacities : List ℕ) (s t : LoggedSwitch) : Type 0 where
  pub quiet : IsQuiet s.switch
  pub popped : IsPopped s.switch.written
  pub waits : Waiting
  pub turns : ℕ
  pub listed : AreListed plan workers capacities s.switch waits
  pub all : (k : Key) → IsIn k s.switch.to_sync → ListsKey k waits
  pub in_order : AreInOrder waits
  pub switch : t.switch ≡ s.switch
  pub log : t.log ≡ with_end (with_mark s.log (record { taken = length s.log.taken; effects = length s.effects; event = event.Settled waits turns }))
  pub effects : t.effects ≡ s.effects

abbrev pub IsLoggedEvent : Ports → ℕ → List ℕ → LoggedSwitch → LoggedSwitch → Type 0
IsLoggedEvent plan workers capacities s t = LogsWrite s t ⊎ (MakesEvent plan workers capacities s t ⊎ LogsMark plan workers capacities s t)

abbrev pub AreLoggedEvents : Ports → ℕ → List ℕ → LoggedSwitch → List LoggedSwitch → Type 0
AreLoggedEvents plan workers capacities s [] = Unit {0}
AreLoggedEvents plan workers capacities s (t ∷ ts) = IsLoggedEvent plan workers capacities s t × AreLoggedEvents plan workers capacities t ts

abbrev pub after_logged : LoggedSwitch → List LoggedSwitch → LoggedSwitch
after_logged s [] = s
after_logged s (t ∷ ts) = after_logged t ts

-- ---- a whole settling

-- keys are popped, batch after batch
abbrev pub ArePops : SwitchState → List SwitchState → Type 0
ArePops s [] = Unit {0}
ArePops s (t ∷ ts) = IsPop s t × ArePops t ts

abbrev pub after_pops : SwitchState → List SwitchState → SwitchState
after_pops s [] = s
after_pops s (t ∷ ts) = after_pops t ts

-- a settling without a restart and a fault: all that waits is popped, turns are made over the keys to sync, in key order, and the mark lists the keys that are left and counts the turns
pub record IsWholeSettling (plan : Ports) (workers : ℕ) (capacities : List ℕ) (s t : LoggedSwitch) : Type 0 where
  pub pops : List SwitchState
  pub are_pops : ArePops s.switch pops
  pub popped : IsPopped (after_pops s.switch pops).written
  pub keys : List Key
  pub order : AreInKeyOrder keys
  pub all : (k : Key) → IsIn k (after_pops s.switch pops).to_sync → IsIn k keys
  pub only : (k : Key) → IsIn k keys → IsIn k (after_pops s.switch pops).to_sync
  pub turns : ℕ
  pub left : List Key
  pub calls : List (Call Rid)
  pub turns_are : AreMachineTurns plan workers capacities turns (after_pops s.switch pops) keys t.switch left calls
  pub waits : Waiting
  pub listed : AreListed plan workers capacities t.switch waits
  pub lists : (k : Key) → IsIn k left → ListsKey k waits
  pub lists_only : (k : Key) → ListsKey k waits → IsIn k left
  pub in_order : AreInOrder waits
  pub effects : t.effects ≡ s.effects ++ calls
  pub log : t.log ≡ with_end (with_mark s.log (record { taken = length s.log.taken; effects = length t.effects; event = event.Settled waits turns }))

-- ---- a settling so far, cut off anywhere before its mark

-- it is cut off while keys are popped
pub record IsInPops (s t : LoggedSwitch) : Type 0 where
  pub pops : List SwitchState
  pub are_pops : ArePops s.switch pops
  pub switch : t.switch ≡ after_pops s.switch pops
  pub effects : t.effects ≡ s.effects
  pub log : t.log ≡ s.log

-- all that waits is popped, and it is cut off in the turns over the keys to sync, or behind the last of them
pub record IsInTurns (plan : Ports) (workers : ℕ) (capacities : List ℕ) (s t : LoggedSwitch) : Type 0 where
  pub pops : List SwitchState
  pub are_pops : ArePops s.switch pops
  pub popped : IsPopped (after_pops s.switch pops).written
  pub keys : List Key
  pub order : AreInKeyOrder keys
  pub all : (k : Key) → IsIn k (after_pops s.switch pops).to_sync → IsIn k keys
  pub only : (k : Key) → IsIn k keys → IsIn k (after_pops s.switch pops).to_sync
  pub turns : ℕ
  pub calls : List (Call Rid)
  pub turns_are : AreMachineTurnsSoFar plan workers capacities turns (after_pops s.switch pops) keys t.switch calls
  pub effects : t.effects ≡ s.effects ++ calls
  pub log : t.log ≡ s.log

pub data IsSettlingSoFar (plan : Ports) (workers : ℕ) (capacities : List ℕ) (s t : LoggedSwitch) : Type 0 where
  InPops : IsInPops s t → IsSettlingSoFar plan workers capacities s t
  InTurns : IsInTurns plan workers capacities s t → IsSettlingSoFar plan workers capacities s t

-- ---- writes of a key

-- no write of the key is taken
abbrev pub IsNoWriteOf : (plan : Ports) (workers : ℕ) (capacities : List ℕ) (k : Key) (s t : LoggedSwitch) → IsLoggedEvent plan workers capacities s t → Type 0
IsNoWriteOf plan workers capacities k s t (inl x) = written_key x.sent.write ≡ k → ⊥
IsNoWriteOf plan workers capacities k s t (inr x) = Unit {0}

abbrev pub AreNoWritesOf : (plan : Ports) (workers : ℕ) (capacities : List ℕ) (k : Key) (s : LoggedSwitch) (ts : List LoggedSwitch) → AreLoggedEvents plan workers capacities s ts → Type 0
AreNoWritesOf plan workers capacities k s [] run = Unit {0}
AreNoWritesOf plan workers capacities k s (t ∷ ts) run = IsNoWriteOf plan workers capacities k s t run.0 × AreNoWritesOf plan workers capacities k t ts run.1

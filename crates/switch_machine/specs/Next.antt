-- What a worker does next: the first event that applies to it. Own.
use Rattle.std.specs.Prelude.{◌≡◌, ℕ, Option, Some, None}
use Rattle.std.specs.declared.cmp.Ordering.TheVariants.{Less}
use Rattle.table_schema.specs.Key.{key_cmp}
use Rattle.table_schema.specs.Plan.{Ports}
use Rattle.table_schema.specs.declared.key.Key.{Key}
use Rattle.sai_types.specs.declared.ids.Rid.{Rid}
use Rattle.sai_types.specs.declared.body.Call.{Call}
use Rattle.sai_types.specs.Alike.{IsIn}
use Rattle.std.specs.Prelude.{List}
use Rattle.switch_model.specs.declared.wait.Wait.{Wait}
use Rattle.switch_machine.specs.Events.{IsAnswer, IsBegin, IsDrop, IsPop, SwitchState}
use Rattle.switch_machine.specs.Reasons.{IsReason}
use Rattle.switch_machine.specs.Written.{HasNoWrite, IsPopped, IsPoppedKey}

-- a key has a reason to wait
abbrev pub MustWait : Ports → ℕ → List ℕ → SwitchState → Key → Type 0
MustWait plan workers capacities s k = (wait : Wait) × IsReason plan workers capacities s k wait

-- each key to sync that stands before this one has a reason to wait
abbrev pub AreHindered : Ports → ℕ → List ℕ → SwitchState → Key → Type 0
AreHindered plan workers capacities s k = (q : Key) → IsIn q s.to_sync → key_cmp q k ≡ Less → MustWait plan workers capacities s q

-- a worker has no operation, nothing waits in the tables, and each key to sync has a reason to wait
pub record IsIdle (plan : Ports) (workers : ℕ) (capacities : List ℕ) (w : ℕ) (s : SwitchState) : Type 0 where
  pub none : s.machine.board.flights w ≡ None
  pub popped : IsPopped s.written
  pub hindered : (k : Key) → IsIn k s.to_sync → MustWait plan workers capacities s k

-- where it has an operation, the worker makes the call that is due; else, where something waits in the tables, keys are popped; else the first key to sync that has no reason to wait begins, or leaves those to sync where it has its good row; else the worker is idle
pub data IsNextEvent (plan : Ports) (workers : ℕ) (capacities : List ℕ) (w : ℕ) (s : SwitchState) : Option (Call Rid) → SwitchState → Type 0 where
  Answering : (call : Call Rid) (t : SwitchState) (x : IsAnswer plan workers call s t) → x.next.worker ≡ w → IsNextEvent plan workers capacities w s (Some call) t
  Popping : (t : SwitchState) (k : Key) → s.machine.board.flights w ≡ None → IsPop s t → (HasNoWrite s.written k → ⊥) → IsPoppedKey s.written t.written k → IsNextEvent plan workers capacities w s None t
  Beginning : (t : SwitchState) (x : IsBegin plan workers capacities s t) → x.worker ≡ w → IsPopped s.written → AreHindered plan workers capacities s x.flight.key → IsNextEvent plan workers capacities w s None t
  Dropping : (t : SwitchState) (x : IsDrop plan s t) → s.machine.board.flights w ≡ None → IsPopped s.written → AreHindered plan workers capacities s x.key → IsNextEvent plan workers capacities w s None t
  Idling : IsIdle plan workers capacities w s → IsNextEvent plan workers capacities w s None s

-- How rows are restored: one pass over all rows in key order, against an empty view. Own.
use Rattle.std.specs.Prelude.{◌≡◌, ◌⊎◌, ℕ, List, [], ◌∷◌, None}
use Rattle.std.specs.List.Sorted.{IsStrictlySortedBy}
use Rattle.table_schema.specs.Key.{key_cmp}
use Rattle.table_schema.specs.Plan.{Ports}
use Rattle.table_schema.specs.declared.key.Key.{Key}
use Rattle.sai_types.specs.declared.ids.Rid.{Rid}
use Rattle.sai_types.specs.declared.body.Call.{Call}
use Rattle.sai_types.specs.declared.thing.Thing.{Thing}
use Rattle.sai_types.specs.Alike.{IsIn}
use Rattle.switch_model.specs.Marks.{Waiting}
use Rattle.switch_model.specs.declared.wait.Wait.{Wait}
use Rattle.switch_machine.specs.Events.{AreAnswers, IsBegin, IsDrop, IsQuiet, SwitchState, after_answers, fresh_view}
use Rattle.switch_machine.specs.Reasons.{IsReason}
use Rattle.switch_machine.specs.Written.{ArePopped, IsPopped, Written}

-- an operation of this key begins, and is run to its end, alone
pub record IsAlone (plan : Ports) (workers : ℕ) (capacities : List ℕ) (s : SwitchState) (k : Key) (t : SwitchState) : Type 0 where
  pub first : SwitchState
  pub starting : IsBegin plan workers capacities s first
  pub is : starting.flight.key ≡ k
  pub answers : List (Call Rid × SwitchState)
  pub run : AreAnswers plan workers first answers
  pub ends : t ≡ after_answers first answers
  pub quiet : IsQuiet t

-- the key waits for a reason
pub record WaitsFor (plan : Ports) (workers : ℕ) (capacities : List ℕ) (s : SwitchState) (k : Key) (waits : List (Key × Wait)) : Type 0 where
  pub wait : Wait
  pub rest : List (Key × Wait)
  pub is : waits ≡ (k, wait) ∷ rest
  pub reason : IsReason plan workers capacities s k wait

-- the key has its good row already, or its operation is run
abbrev pub IsBrought : Ports → ℕ → List ℕ → SwitchState → Key → SwitchState → Type 0
IsBrought plan workers capacities s k t = ((x : IsDrop plan s t) × (x.key ≡ k)) ⊎ IsAlone plan workers capacities s k t

-- each key in turn waits for a reason, or has its good row already, or its operation is run
abbrev pub IsPass : Ports → ℕ → List ℕ → SwitchState → List Key → List (Key × Wait) → SwitchState → Type 0
IsPass plan workers capacities s [] waits t = (waits ≡ []) × (t ≡ s)
IsPass plan workers capacities s (k ∷ ks) waits t = ((x : WaitsFor plan workers capacities s k waits) × IsPass plan workers capacities s ks x.rest t) ⊎ ((mid : SwitchState) × IsBrought plan workers capacities s k mid × IsPass plan workers capacities mid ks waits t)

-- all that waits is popped, and all rows are gone over in key order against an empty view
pub record IsRestored (plan : Ports) (workers : ℕ) (capacities : List ℕ) (s : Written) (view : SwitchState) : Type 0 where
  pub written : Written
  pub keys : List Key
  pub popped : ArePopped s written
  pub none : IsPopped written
  pub all : (k : Key) → (written.rows k ≡ None) ⊎ IsIn k keys
  pub rising : IsStrictlySortedBy key_cmp keys
  pub waits : List (Key × Wait)
  pub pass : IsPass plan workers capacities (fresh_view written keys) keys waits view

-- the things of a list of things with identifiers
abbrev pub only_things : List (Rid × Thing) → List Thing
only_things [] = []
only_things (x ∷ xs) = x.1 ∷ only_things xs

-- the keys that wait
abbrev pub keys_waiting : List (Key × Wait) → List Key
keys_waiting [] = []
keys_waiting (w ∷ ws) = w.0 ∷ keys_waiting ws

-- the keys that wait, as a mark lists them: none has an applied row
abbrev pub waiting_of : List (Key × Wait) → Waiting
waiting_of [] = []
waiting_of (w ∷ ws) = (w.0, w.1, None) ∷ waiting_of ws

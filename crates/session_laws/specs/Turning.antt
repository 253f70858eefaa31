-- How far a turn of a core has come, and what turns come to. Own.
use Rattle.std.specs.Prelude.{◌≡◌, ◌⊎◌, ◌+◌, ◌++◌, ◌<◌, ℕ, List, [], length, None, Some}
use Rattle.std.specs.Map.{keys_of}
use Rattle.table_schema.specs.declared.key.Key.{Key}
use Rattle.sai_types.specs.declared.body.Call.{Call}
use Rattle.sai_types.specs.declared.ids.Rid.{Rid}
use Rattle.sai_types.specs.Alike.{IsIn}
use Rattle.sai_types.specs.ChipState.{ChipState}
use Rattle.switch_model.specs.declared.wait.Wait.{Wait}
use Rattle.retry_list.specs.Reasons.{Reasons, reason_at}
use Rattle.switch_machine.specs.Events.{SwitchState}
use Rattle.switch_machine.specs.Reasons.{IsReason}
use Rattle.machine_laws.specs.Settling.{AreMachineTurns, AreMachineTurnsSoFar, IsMachineTurn, IsMachineTurnSoFar}
use Rattle.restart_laws.specs.Logged.{LoggedService}
use Rattle.flight_board.specs.Board.{flown_at}
use Rattle.warm_state.specs.declared.warm.Warm.TheVariants as warm
use Rattle.session_laws.specs.Core.{CoreState}
use Rattle.session_laws.specs.Leading.{LeadsTo}

-- no worker has anything under way, no write waits, and the core is reconciled
pub record IsAtRest (c : CoreState) : Type 0 where
  pub free : (v : ℕ) → v < 4 → flown_at c.board v ≡ None
  pub popped : c.tables.waiting ≡ []
  pub warm : c.warm ≡ warm.Reconciled

-- each of these keys has a true reason to wait, which is on the list
abbrev pub HaveListed : CoreState → SwitchState → Reasons → List Key → Type 0
HaveListed c s waiting keys = (k : Key) → IsIn k keys → (r : Wait) × (reason_at waiting k ≡ Some r) × IsReason c.board.plan 4 c.sync.capacities s k r

-- how far a turn over these keys has come: the first keys were left, the others are still to be tried, to the end of the turn or so far; a key went, or nothing has changed and each that was left is on the list
pub record IsTurning (keys : List Key) (c : CoreState) (s : LoggedService) (left rest : List Key) (c' : CoreState) (chip' : ChipState) : Type 0 where
  pub later : LoggedService
  pub leads : LeadsTo c s later c' chip'
  pub calls : List (Call Rid)
  pub turn : (t : SwitchState) (left' : List Key) (calls' : List (Call Rid)) → IsMachineTurn c.board.plan 4 c.sync.capacities later.service.core rest t left' calls' → IsMachineTurn c.board.plan 4 c.sync.capacities s.service.core keys t (left ++ left') (calls ++ calls')
  pub cut : (t : SwitchState) (calls' : List (Call Rid)) → IsMachineTurnSoFar c.board.plan 4 c.sync.capacities later.service.core rest t calls' → IsMachineTurnSoFar c.board.plan 4 c.sync.capacities s.service.core keys t (calls ++ calls')
  pub effects : later.effects ≡ s.effects ++ calls
  pub log : later.log ≡ s.log
  pub ops : keys_of c'.tables.ops ≡ left ++ rest
  pub at_rest : IsAtRest c'
  pub lists : (length (left ++ rest) < length keys) ⊎ ((length (left ++ rest) ≡ length keys) × (later.service.core ≡ s.service.core) × HaveListed c later.service.core c'.waiting left)

-- so many turns were made, each of which took a key away; with more over the keys to sync, whole or so far, they are turns still
pub record IsTurned (n : ℕ) (c : CoreState) (s : LoggedService) (c' : CoreState) (chip' : ChipState) : Type 0 where
  pub later : LoggedService
  pub leads : LeadsTo c s later c' chip'
  pub calls : List (Call Rid)
  pub turns : (m : ℕ) (t : SwitchState) (left : List Key) (calls' : List (Call Rid)) → AreMachineTurns c.board.plan 4 c.sync.capacities m later.service.core (keys_of c'.tables.ops) t left calls' → AreMachineTurns c.board.plan 4 c.sync.capacities (n + m) s.service.core (keys_of c.tables.ops) t left (calls ++ calls')
  pub cut : (m : ℕ) (t : SwitchState) (calls' : List (Call Rid)) → AreMachineTurnsSoFar c.board.plan 4 c.sync.capacities m later.service.core (keys_of c'.tables.ops) t calls' → AreMachineTurnsSoFar c.board.plan 4 c.sync.capacities (n + m) s.service.core (keys_of c.tables.ops) t (calls ++ calls')
  pub effects : later.effects ≡ s.effects ++ calls
  pub log : later.log ≡ s.log
  pub at_rest : IsAtRest c'

-- so many turns were made, and no more are: each key to sync is on the list of those that wait
pub record TurnsTo (n : ℕ) (c : CoreState) (s : LoggedService) (c' : CoreState) (chip' : ChipState) : Type 0 where
  pub later : LoggedService
  pub leads : LeadsTo c s later c' chip'
  pub calls : List (Call Rid)
  pub turns : AreMachineTurns c.board.plan 4 c.sync.capacities n s.service.core (keys_of c.tables.ops) later.service.core (keys_of c'.tables.ops) calls
  pub effects : later.effects ≡ s.effects ++ calls
  pub log : later.log ≡ s.log
  pub at_rest : IsAtRest c'
  pub lists : HaveListed c' later.service.core c'.waiting (keys_of c'.tables.ops)

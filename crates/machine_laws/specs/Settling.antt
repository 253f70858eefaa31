-- The turns of a settling, as operations that run alone, with their calls. Own.
use Rattle.std.specs.Prelude.{◌≡◌, ◌⊎◌, ◌<◌, ◌∷◌, ◌++◌, ℕ, zero, suc, List, [], length, map}
use Rattle.table_schema.specs.Plan.{Ports}
use Rattle.table_schema.specs.declared.key.Key.{Key}
use Rattle.sai_types.specs.declared.ids.Rid.{Rid}
use Rattle.sai_types.specs.declared.body.Call.{Call}
use Rattle.switch_model.specs.Placed.{bare_rows}
use Rattle.switch_model.specs.declared.wait.Wait.{Wait}
use Rattle.switch_machine.specs.Events.{AreAnswers, IsBegin, IsDrop, IsQuiet, SwitchState, after_answers}
use Rattle.machine_laws.specs.Calls.{Situation}
use Rattle.switch_machine.specs.Reasons.{IsReason}

-- an operation of this key begins and is run to its end, with these calls
pub record RunsAlone (plan : Ports) (workers : ℕ) (capacities : List ℕ) (k : Key) (s t : SwitchState) (calls : List (Call Rid)) : Type 0 where
  pub first : SwitchState
  pub starting : IsBegin plan workers capacities s first
  pub is : starting.flight.key ≡ k
  pub answers : List (Call Rid × SwitchState)
  pub are : AreAnswers plan workers first answers
  pub quiet : IsQuiet (after_answers first answers)
  pub last : t ≡ after_answers first answers
  pub calls_are : calls ≡ map (λ (a : Call Rid × SwitchState). a.0) answers

-- an operation of this key begins, and the first of its calls are made
pub record RunsSoFar (plan : Ports) (workers : ℕ) (capacities : List ℕ) (k : Key) (s t : SwitchState) (calls : List (Call Rid)) : Type 0 where
  pub first : SwitchState
  pub starting : IsBegin plan workers capacities s first
  pub is : starting.flight.key ≡ k
  pub answers : List (Call Rid × SwitchState)
  pub are : AreAnswers plan workers first answers
  pub last : t ≡ after_answers first answers
  pub calls_are : calls ≡ map (λ (a : Call Rid × SwitchState). a.0) answers

-- a key has its good row already, and no call is made
pub record DropsKey (plan : Ports) (k : Key) (s t : SwitchState) (calls : List (Call Rid)) : Type 0 where
  pub drop : IsDrop plan s t
  pub is : drop.key ≡ k
  pub none : calls ≡ []

-- a turn over these keys: a key that has a reason to wait is left; any other leaves, and has its good row then
abbrev pub IsMachineTurn : Ports → ℕ → List ℕ → SwitchState → List Key → SwitchState → List Key → List (Call Rid) → Type 0
IsMachineTurn plan workers capacities s [] t left calls = (t ≡ s) × (left ≡ []) × (calls ≡ [])
IsMachineTurn plan workers capacities s (k ∷ ks) t left calls =
    ((w : Wait) × IsReason plan workers capacities s k w × (rest : List Key) × (left ≡ k ∷ rest) × IsMachineTurn plan workers capacities s ks t rest calls)
    ⊎ ((mid : SwitchState) × (own : List (Call Rid)) × (more : List (Call Rid)) × (DropsKey plan k s mid own ⊎ RunsAlone plan workers capacities k s mid own) × (calls ≡ own ++ more) × IsMachineTurn plan workers capacities mid ks t left more)

-- so many turns: none where there is no key; else one, after which no more are made where it took no key away, and the others where it did
abbrev pub AreMachineTurns : Ports → ℕ → List ℕ → ℕ → SwitchState → List Key → SwitchState → List Key → List (Call Rid) → Type 0
AreMachineTurns plan workers capacities zero s keys t left calls = (keys ≡ []) × (t ≡ s) × (left ≡ []) × (calls ≡ [])
AreMachineTurns plan workers capacities (suc n) s keys t left calls =
    (0 < length keys) × (mid : SwitchState) × (rest : List Key) × (own : List (Call Rid)) × IsMachineTurn plan workers capacities s keys mid rest own
    × (((length rest ≡ length keys) × (n ≡ 0) × (t ≡ mid) × (left ≡ rest) × (calls ≡ own)) ⊎ ((length rest < length keys) × (more : List (Call Rid)) × (calls ≡ own ++ more) × AreMachineTurns plan workers capacities n mid rest t left more))

-- ---- cut off

-- a turn over these keys, so far: it is cut off before a key, or while the operation of a key is under way; each key before was left with its reason, or left
abbrev pub IsMachineTurnSoFar : Ports → ℕ → List ℕ → SwitchState → List Key → SwitchState → List (Call Rid) → Type 0
IsMachineTurnSoFar plan workers capacities s [] t calls = (t ≡ s) × (calls ≡ [])
IsMachineTurnSoFar plan workers capacities s (k ∷ ks) t calls =
    ((t ≡ s) × (calls ≡ []))
    ⊎ (RunsSoFar plan workers capacities k s t calls
    ⊎ (((w : Wait) × IsReason plan workers capacities s k w × IsMachineTurnSoFar plan workers capacities s ks t calls)
    ⊎ ((mid : SwitchState) × (own : List (Call Rid)) × (more : List (Call Rid)) × (DropsKey plan k s mid own ⊎ RunsAlone plan workers capacities k s mid own) × (calls ≡ own ++ more) × IsMachineTurnSoFar plan workers capacities mid ks t more)))

-- so many whole turns, each of which took a key away, and then one so far
abbrev pub AreMachineTurnsSoFar : Ports → ℕ → List ℕ → ℕ → SwitchState → List Key → SwitchState → List (Call Rid) → Type 0
AreMachineTurnsSoFar plan workers capacities zero s keys t calls = IsMachineTurnSoFar plan workers capacities s keys t calls
AreMachineTurnsSoFar plan workers capacities (suc n) s keys t calls =
    (mid : SwitchState) × (rest : List Key) × (own : List (Call Rid)) × IsMachineTurn plan workers capacities s keys mid rest own
    × (length rest < length keys) × (more : List (Call Rid)) × (calls ≡ own ++ more) × AreMachineTurnsSoFar plan workers capacities n mid rest t more

-- ---- over rows

-- the situation of a state
abbrev pub situation : SwitchState → Situation
situation s = record { applied = bare_rows s.machine.board.applied; stands = s.machine.stands; made = s.made }

-- a situation is that of a state, its rows key by key
pub record IsSituationOf (z : Situation) (s : SwitchState) : Type 0 where
  pub rows : (k : Key) → z.applied k ≡ bare_rows s.machine.board.applied k
  pub stands : z.stands ≡ s.machine.stands
  pub made : z.made ≡ s.made

-- A simulated chip: what its calls answer and leave. Own.
use Rattle.std.specs.Prelude.{◌≡◌, ℕ, ◌+◌, nat_lt, Bool, true, false, ◌&&◌, ◌⊎◌, List, [], ◌∷◌, ◌++◌, length, Option, Some, None, IsSome, if◌then◌else◌}
use Rattle.sai_types.specs.declared.ids.Rid.{Rid}
use Rattle.sai_types.specs.declared.body.Call.{Call}
use Rattle.sai_types.specs.declared.body.Object.{Object}
use Rattle.sai_types.specs.declared.answer.ChipAnswer.{ChipAnswer}
use Rattle.sai_types.specs.declared.answer.ChipAnswer.TheVariants as answer
use Rattle.sai_types.specs.declared.answer.ListAnswer.{ListAnswer}
use Rattle.sai_types.specs.declared.answer.ListAnswer.TheVariants as listed
use Rattle.sai_types.specs.ChipState.{ChipState, calls_after, objects_of}
use Rattle.sai_types.specs.Refusal.{refusal_of, is_legal}
use Rattle.sai_types.specs.After.{after_call, makes_id, next_id}
use Rattle.sai_chip.specs.Failing.{fail_at}

-- whether the next call fails, and with effect: calls are numbered from 1 to 2^64 - 1, and later ones have no number
abbrev pub fault_of : ChipState → Option Bool
fault_of s = if nat_lt s.calls 18446744073709551615 then fail_at s.fails (s.calls + 1) else None

abbrev pub refusal_at : ChipState → Call Rid → Option ChipAnswer
refusal_at s c = refusal_of s.capacities s.objects c

-- what a call answers that takes effect and does not fail
abbrev pub effect_answer : ChipState → Call Rid → ChipAnswer
effect_answer s c = if makes_id c then answer.Made (record { 0 = next_id s.effects }) else answer.Done

abbrev pub with_effect : ChipState → Call Rid → ChipState
with_effect s c = record s { objects = after_call (next_id s.effects) s.objects c; effects = s.effects ++ c ∷ [] }

-- by whether the call fails, its refusal, and what it answers with effect
abbrev pub answer_among : Option Bool → Option ChipAnswer → ChipAnswer → ChipAnswer
answer_among (Some after) refusal effect = answer.Failed
answer_among None (Some refusal) effect = refusal
answer_among None None effect = effect

-- whether it takes effect: a call that fails only where its entry says so and it is legal
abbrev pub effect_by : Option Bool → Option ChipAnswer → Bool
effect_by fault (Some refusal) = false
effect_by (Some after) None = after
effect_by None None = true

-- what comes of a call, by whether it fails and by its refusal: its answer with its effect, or want of memory and no effect
abbrev pub ResultsBy : Option Bool → Option ChipAnswer → ChipState → Call Rid → ChipAnswer → ChipState → Type 0
ResultsBy fault refusal old c a new =
    ((a ≡ answer_among fault refusal (effect_answer old c)) × (new ≡ (if effect_by fault refusal then with_effect old c else old)))
    ⊎ ((a ≡ answer.NoMemory) × (new ≡ old))

-- a call is counted: whether it was legal, whether the chip failed at it, and how many calls had taken effect before it
abbrev pub counted : Bool → Bool → ℕ → ChipState → ChipState
counted legal failed before s =
    record s {
      clean = s.clean && legal;
      faults = s.faults + (if failed then 1 else 0);
      before_fault = if failed then before else s.before_fault;
      calls = calls_after s.calls;
    }

abbrev pub is_failed : ChipAnswer → Bool
is_failed answer.Failed = true
is_failed _ = false

-- a call of the simulated chip: its answer and effect, and then it is counted
pub record IsCalled (old : ChipState) (c : Call Rid) (a : ChipAnswer) (new : ChipState) : Type 0 where
  pub left : ChipState
  pub results : ResultsBy (fault_of old) (refusal_at old c) old c a left
  pub counts : new ≡ counted (is_legal old.capacities old.objects c) (is_failed a) (length old.effects) left

abbrev pub is_list_failed : ListAnswer → Bool
is_list_failed listed.Failed = true
is_list_failed _ = false

-- a list after more was appended, and before where there was no memory
abbrev pub AppendsListed : ListAnswer → List (Object Rid) → List (Object Rid) → List (Object Rid) → Type 0
AppendsListed listed.Done old more new = new ≡ old ++ more
AppendsListed listed.NoMemory old more new = new ≡ old
AppendsListed listed.Failed old more new = ⊥

-- what comes of a listing, by whether it fails
abbrev pub ListsBy : Option Bool → ListAnswer → List (Object Rid) → List (Object Rid) → List (Object Rid) → Type 0
ListsBy fault listed.Done old more new = (fault ≡ None) × (new ≡ old ++ more)
ListsBy fault listed.NoMemory old more new = new ≡ old
ListsBy fault listed.Failed old more new = IsSome fault × (new ≡ old)

-- a listing of the simulated chip: what it gives, and then it is counted
pub record IsListing (old : ChipState) (a : ListAnswer) (out out' : List (Object Rid)) (new : ChipState) : Type 0 where
  pub lists : ListsBy (fault_of old) a out (objects_of old.objects) out'
  pub counts : new ≡ counted true (is_list_failed a) (length old.effects) old

-- what comes of a call at which the chip fails, with effect or without
abbrev pub FailsBy : Bool → ChipState → Call Rid → ChipAnswer → ChipState → Type 0
FailsBy takes old c a new = ((a ≡ answer.Failed) × (new ≡ (if takes then with_effect old c else old))) ⊎ ((a ≡ answer.NoMemory) × (new ≡ old))

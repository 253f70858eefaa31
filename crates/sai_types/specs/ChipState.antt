-- What contracts see of a chip, and what its calls answer and leave.
use Rattle.std.specs.Prelude.{◌≡◌, ℕ, ◌+◌, nat_lt, Bool, true, false, ◌&&◌, ◌⊎◌, List, [], ◌∷◌, ◌++◌, length, map, Some, if◌then◌else◌}
use Rattle.std.specs.List.Sorted.{IsPermutation}
use Rattle.sai_types.specs.declared.ids.Rid.{Rid}
use Rattle.sai_types.specs.declared.body.Call.{Call}
use Rattle.sai_types.specs.declared.body.Object.{Object}
use Rattle.sai_types.specs.declared.fail.Fail.{Fail}
use Rattle.sai_types.specs.declared.answer.ChipAnswer.{ChipAnswer}
use Rattle.sai_types.specs.declared.answer.ChipAnswer.TheVariants as answer
use Rattle.sai_types.specs.declared.answer.ListAnswer.{ListAnswer}
use Rattle.sai_types.specs.declared.answer.ListAnswer.TheVariants as listed
use Rattle.sai_types.specs.Objects.{Objects}
use Rattle.sai_types.specs.Refusal.{refusal_of, is_legal, IsLegal}
use Rattle.sai_types.specs.After.{after_call, makes_id, next_id}
use Rattle.sai_types.specs.Made.{AreSorted}

-- the objects in the order of their entries; the calls that took effect, in order; the room for each kind; the calls at which it is made to fail; whether each call so far was legal; how often the chip failed, and how many calls had taken effect before the one at which it failed last; and how many calls and lists were made of it, whatever it answered, up to 2^64 - 1
pub record ChipState : Type 0 where
  pub objects : Objects
  pub effects : List (Call Rid)
  pub capacities : List ℕ
  pub fails : List Fail
  pub clean : Bool
  pub faults : ℕ
  pub before_fault : ℕ
  pub calls : ℕ

-- the number of calls after one more, which stays at 2^64 - 1
abbrev pub calls_after : ℕ → ℕ
calls_after calls = if nat_lt calls 18446744073709551615 then calls + 1 else calls

-- the same chip, of which one call or list more was asked
abbrev pub asked : ChipState → ChipState
asked chip = record chip { calls = calls_after chip.calls }

-- nothing but that perhaps one call or list more was asked of it
abbrev pub IsAskedOnce : ChipState → ChipState → Type 0
IsAskedOnce old new = (new ≡ old) ⊎ (new ≡ asked old)

-- a new chip
abbrev pub new_chip : List ℕ → List Fail → ChipState
new_chip capacities fails = record { objects = []; effects = []; capacities = capacities; fails = fails; clean = true; faults = 0; before_fault = 0; calls = 0 }

-- a call that took effect: it was legal, the objects changed by it, and it ends the list of effects
pub record TakesEffect (old : ChipState) (c : Call Rid) (new : ChipState) : Type 0 where
  pub legal : IsLegal old.capacities old.objects c
  pub objects : new.objects ≡ after_call (next_id old.effects) old.objects c
  pub effects : new.effects ≡ old.effects ++ c ∷ []

-- a call without effect
pub record StaysSame (old new : ChipState) : Type 0 where
  pub objects : new.objects ≡ old.objects
  pub effects : new.effects ≡ old.effects

-- a call that was refused by the chip's table
abbrev pub IsRefused : ChipState → Call Rid → ChipAnswer → ChipState → Type 0
IsRefused old c refusal new = (refusal_of old.capacities old.objects c ≡ Some refusal) × StaysSame old new × (new.faults ≡ old.faults)

-- what each answer says
abbrev pub Answers : ChipState → Call Rid → ChipAnswer → ChipState → Type 0
Answers old c (answer.Made id) new = TakesEffect old c new × (makes_id c ≡ true) × (id.0 ≡ next_id old.effects) × (new.faults ≡ old.faults)
Answers old c answer.Done new = TakesEffect old c new × (makes_id c ≡ false) × (new.faults ≡ old.faults)
Answers old c answer.Exists new = IsRefused old c answer.Exists new
Answers old c answer.BadReference new = IsRefused old c answer.BadReference new
Answers old c answer.NotFound new = IsRefused old c answer.NotFound new
Answers old c answer.InUse new = IsRefused old c answer.InUse new
Answers old c answer.Full new = IsRefused old c answer.Full new
Answers old c answer.Failed new = (StaysSame old new ⊎ TakesEffect old c new) × (new.faults ≡ old.faults + 1)
Answers old c answer.NoMemory new = StaysSame old new × (new.faults ≡ old.faults)

-- how many calls had taken effect before the call at which the chip failed last: by the answer to one call more
abbrev pub fault_behind : ChipState → ChipAnswer → ℕ
fault_behind old answer.Failed = length old.effects
fault_behind old _ = old.before_fault

-- a call and its answer: the chip stays clean only where the call was legal, knows what came before the call at which it failed last, counts the call, and keeps what it was made with
pub record IsAnswered (old : ChipState) (c : Call Rid) (a : ChipAnswer) (new : ChipState) : Type 0 where
  pub answer : Answers old c a new
  pub clean : new.clean ≡ (old.clean && is_legal old.capacities old.objects c)
  pub fault : new.before_fault ≡ fault_behind old a
  pub calls : new.calls ≡ calls_after old.calls
  pub capacities : new.capacities ≡ old.capacities
  pub fails : new.fails ≡ old.fails

-- an object as a list of the chip gives it
abbrev pub objects_of : Objects → List (Object Rid)
objects_of objects = map (λ o. record { entry = o.0; body = o.1 }) objects

-- the objects of the state rise by their entries, and each was appended once, in any order
pub record AppendsEach (objects : Objects) (out out' : List (Object Rid)) : Type 0 where
  pub sorted : AreSorted objects
  pub more : List (Object Rid)
  pub appended : out' ≡ out ++ more
  pub once : IsPermutation (objects_of objects) more

-- what each answer to a list says
abbrev pub Lists : ChipState → ListAnswer → List (Object Rid) → List (Object Rid) → ChipState → Type 0
Lists old listed.Done out out' new = AppendsEach old.objects out out' × (new.faults ≡ old.faults)
Lists old listed.Failed out out' new = (out' ≡ out) × (new.faults ≡ old.faults + 1)
Lists old listed.NoMemory out out' new = (out' ≡ out) × (new.faults ≡ old.faults)

-- the same by the answer to a list
abbrev pub list_fault_behind : ChipState → ListAnswer → ℕ
list_fault_behind old listed.Failed = length old.effects
list_fault_behind old _ = old.before_fault

-- a list of the chip and its answer: each object once, in any order, and nothing changes but the counts of faults and of calls, and what came before the last fault
pub record IsListed (old : ChipState) (a : ListAnswer) (out out' : List (Object Rid)) (new : ChipState) : Type 0 where
  pub answer : Lists old a out out' new
  pub same : StaysSame old new
  pub clean : new.clean ≡ old.clean
  pub fault : new.before_fault ≡ list_fault_behind old a
  pub calls : new.calls ≡ calls_after old.calls
  pub capacities : new.capacities ≡ old.capacities
  pub fails : new.fails ≡ old.fails

-- Laws of written forms.
use Rattle.std.specs.Prelude.{◌≡◌, ℕ, List, Option, Some}

-- the written form of a proper value reads as the value
abbrev pub ReadsBack : {A : Type 0} → (A → Type 0) → (A → List ℕ) → (List ℕ → Option A) → Type 0
ReadsBack {A} IsProper text_of value_of = (a : A) → IsProper a → value_of (text_of a) ≡ Some a

-- two proper values with one written form are one
abbrev pub IsWrittenOnce : {A : Type 0} → (A → Type 0) → (A → List ℕ) → Type 0
IsWrittenOnce {A} IsProper text_of = (a b : A) → IsProper a → IsProper b → text_of a ≡ text_of b → a ≡ b

-- each value that a text writes is proper
abbrev pub ReadsProper : {A : Type 0} → (A → Type 0) → (List ℕ → Option A) → Type 0
ReadsProper {A} IsProper value_of = (text : List ℕ) (a : A) → value_of text ≡ Some a → IsProper a

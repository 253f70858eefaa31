-- Texts that are cut at a byte.
use Rattle.std.specs.Prelude.{◌≡◌, ℕ, ◌<◌, ◌≤◌, ◌==◌, List, [], ◌∷◌, length, take, Option, Some, None}
use Rattle.std.specs.List.{slice_split}
use denote.Ref.{Bor}

-- the parts of a text between such bytes
abbrev pub parts_at : ℕ → List ℕ → List (List ℕ)
parts_at byte text = slice_split (λ b. b == byte) text

-- the first part, and the text of the others
abbrev pub IsCutInto : ℕ → List ℕ → List ℕ → Option (Bor (List ℕ)) → Type 0
IsCutInto byte text part None = (part ≡ text) × (parts_at byte text ≡ text ∷ [])
IsCutInto byte text part (Some rest) = (length rest.now < length text) × (parts_at byte text ≡ part ∷ parts_at byte rest.now)

abbrev pub IsCut : ℕ → List ℕ → (Bor (List ℕ) × Option (Bor (List ℕ))) → Type 0
IsCut byte text cut = IsCutInto byte text cut.0.now cut.1

-- a value before those behind it
abbrev pub with_value : Option ℕ → Option (List ℕ) → Option (List ℕ)
with_value None others = None
with_value (Some value) None = None
with_value (Some value) (Some others) = Some (value ∷ others)

-- the values of the parts, where each part has one
abbrev pub each_of : (List ℕ → Option ℕ) → List (List ℕ) → Option (List ℕ)
each_of value_of [] = Some []
each_of value_of (part ∷ parts) = with_value (value_of part) (each_of value_of parts)

-- each number is below the bound
abbrev pub AllBelow : ℕ → List ℕ → Type 0
AllBelow bound [] = Unit {0}
AllBelow bound (n ∷ ns) = (n < bound) × AllBelow bound ns

-- the values stand at the front of a list with room for so many, and there is no answer where they are none or more
abbrev pub IsFilled : Option (List ℕ) → ℕ → Option ℕ → List ℕ → Type 0
IsFilled values room None list = (some : List ℕ) → values ≡ Some some → room < length some
IsFilled values room (Some count) list = (values ≡ Some (take count list)) × (count ≤ room)

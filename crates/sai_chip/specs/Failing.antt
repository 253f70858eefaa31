-- Calls at which a simulated chip fails. Own.
use Rattle.std.specs.Prelude.{◌≡◌, ℕ, ◌==◌, Bool, List, [], ◌∷◌, Option, Some, None, if◌then◌else◌}
use Rattle.std.specs.BTreeMap.{BTreeMap, get}
use Rattle.std.specs.Ordering.{nat_cmp}
use Rattle.sai_types.specs.declared.fail.Fail.{Fail}

-- the first entry for a number: whether the call takes effect
abbrev pub fail_at : List Fail → ℕ → Option Bool
fail_at [] number = None
fail_at (f ∷ fs) number = if f.at == number then Some f.after else fail_at fs number

-- the first entries, by number
abbrev pub IsFailIndex : List Fail → BTreeMap ℕ Bool → Type 0
IsFailIndex fails by_number = (number : ℕ) → get nat_cmp by_number number ≡ fail_at fails number

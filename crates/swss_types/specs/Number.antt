-- Numbers as the formats write them. Own rule: decimal digits without a sign, and without a leading zero unless the number is 0.
use Rattle.std.specs.Prelude.{ℕ, ◌+◌, ◌*◌, ◌-◌, Bool, true, ◌&&◌, ◌==◌, nat_le, nat_lt, List, [], ◌∷◌, length, Option, Some, None, if◌then◌else◌}
use Rattle.std.specs.Char.{is_ascii_digit}

-- the number that digits write behind the number n
abbrev pub value_behind : ℕ → List ℕ → Option ℕ
value_behind n [] = Some n
value_behind n (b ∷ bs) = if is_ascii_digit b then value_behind (10 * n + (b - 48)) bs else None

-- a text that is no number's decimal form, whatever its digits: none, or a zero before others
abbrev pub is_misspelt : List ℕ → Bool
is_misspelt [] = true
is_misspelt (b ∷ bs) = b == 48 && nat_lt 0 (length bs)

-- the number that a text writes
abbrev pub number_of : List ℕ → Option ℕ
number_of text = if is_misspelt text then None else value_behind 0 text

-- the number, where it is at most this great
abbrev pub at_most : ℕ → Option ℕ → Option ℕ
at_most most None = None
at_most most (Some n) = if nat_le n most then Some n else None

-- the number that a text writes, where it writes one that is at most this great
abbrev pub number_within : ℕ → List ℕ → Option ℕ
number_within most text = at_most most (number_of text)

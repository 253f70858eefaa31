-- Hexadecimal numbers of few digits, which read in either case.
use Rattle.std.specs.Prelude.{ℕ, ◌+◌, ◌*◌, ◌&&◌, nat_le, List, [], ◌∷◌, length, Option, Some, None, if◌then◌else◌}
use Rattle.std.specs.Char.{is_digit, digit_value}

-- the number that hexadecimal digits write behind the number n
abbrev pub hex_behind : ℕ → List ℕ → Option ℕ
hex_behind n [] = Some n
hex_behind n (b ∷ bs) = if is_digit b 16 then hex_behind (16 * n + digit_value b) bs else None

-- the number that a text writes in so many hexadecimal digits, at least and at most
abbrev pub hex_within : ℕ → ℕ → List ℕ → Option ℕ
hex_within least most text = if nat_le least (length text) && nat_le (length text) most then hex_behind 0 text else None

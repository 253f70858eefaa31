-- The bytes of an address of version 4, one after the other.
use Rattle.std.specs.Prelude.{ℕ, ◌-◌, ◌==◌, List, [], ◌∷◌, Option, Some, None, if◌then◌else◌}
use Rattle.std.specs.Char.{is_ascii_digit}
use Rattle.swss_types.specs.Number.{number_within}
use Rattle.swss_types.specs.Parts.{each_of, parts_at, with_value}
use denote.Ref.{Bor}

-- the numbers 0 to 255 that a text writes, joined by `.`
abbrev pub bytes_of : List ℕ → Option (List ℕ)
bytes_of text = each_of (number_within 255) (parts_at 46 text)

-- the numbers in the text behind a dot, where there is one
abbrev pub bytes_left : Option (Bor (List ℕ)) → Option (List ℕ)
bytes_left None = Some []
bytes_left (Some text) = bytes_of text.now

-- the first number and those in the text behind its dot
abbrev pub with_first : Option (ℕ × Option (Bor (List ℕ))) → Option (List ℕ)
with_first None = None
with_first (Some first) = with_value (Some first.0) (bytes_left first.1)

-- the number n that stands before this text, and those behind the text's dot; none where another byte than a dot is next
abbrev pub bytes_around : ℕ → List ℕ → Option (List ℕ)
bytes_around n [] = Some (n ∷ [])
bytes_around n (b ∷ bs) = if b == 46 then with_value (Some n) (bytes_of bs) else None

-- the number of the first digits and those in the text behind them
abbrev pub with_rest : Option (ℕ × Bor (List ℕ)) → Option (List ℕ)
with_rest None = None
with_rest (Some first) = bytes_around first.0 first.1.now

-- the value of a digit at the front, and what is behind it
abbrev pub split_digit : List ℕ → Option (ℕ × List ℕ)
split_digit [] = None
split_digit (b ∷ bs) = if is_ascii_digit b then Some (b - 48, bs) else None

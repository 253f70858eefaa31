-- Texts as the report prints them: no byte of theirs ends a word or a line. Own.
use Rattle.std.specs.Prelude.{ℕ, ◌==◌, nat_lt, Bool, ◌||◌, List, [], ◌∷◌, flat_map, if◌then◌else◌}
use Rattle.swss_types.specs.Mac.{pair_text}

-- whether a byte is a blank or a control byte, or `%` itself
abbrev pub is_escaped : ℕ → Bool
is_escaped byte = nat_lt byte 33 || byte == 127 || byte == 37

-- such a byte is printed as `%` and two digits, every other as it is
abbrev pub byte_text : ℕ → List ℕ
byte_text byte = if is_escaped byte then 37 ∷ pair_text byte else byte ∷ []

abbrev pub escaped : List ℕ → List ℕ
escaped text = flat_map byte_text text

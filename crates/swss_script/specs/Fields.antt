-- The fields of a Set. Own.
use Rattle.std.specs.Prelude.{nat_lt, List, [], ◌∷◌, ℕ, length, Option, Some, None, option_map, codes, if◌then◌else◌}
use Rattle.table_schema.specs.Fields.{Pairs, merged}
use Rattle.table_schema.specs.Split.{split_once}

abbrev pub with_name : Option (List ℕ × List ℕ) → Option (List ℕ × List ℕ)
with_name None = None
with_name (Some field) = if nat_lt 0 (length field.0) then Some field else None

-- `F=V`: a name, which is not empty and ends at the first `=`, and a value
abbrev pub field_of : List ℕ → Option (List ℕ × List ℕ)
field_of word = with_name (split_once 61 word)

abbrev pub with_field : Option (List ℕ × List ℕ) → Option Pairs → Option Pairs
with_field None fields = None
with_field (Some field) fields = option_map (λ more. field ∷ more) fields

-- the fields that the words are, where each of them is one
abbrev pub fields_of : List (List ℕ) → Option Pairs
fields_of [] = Some []
fields_of (word ∷ words) = with_field (field_of word) (fields_of words)

-- what a Set holds: of equal names the last value, and where there is no field, the field NULL with the value NULL
abbrev pub set_fields : Pairs → Pairs
set_fields [] = (codes "NULL", codes "NULL") ∷ []
set_fields (field ∷ fields) = merged [] (field ∷ fields)

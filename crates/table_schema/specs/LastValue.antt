-- The value that pairs give a name. Own.
use Rattle.std.specs.Prelude.{ℕ, List, [], ◌∷◌, Option, Some, None, bytes_eq, if◌then◌else◌}
use Rattle.table_schema.specs.Fields.{Pairs}

-- the value that pairs give a name which had this one: that of the last pair with the name
abbrev pub last_value_behind : Option (List ℕ) → List ℕ → Pairs → Option (List ℕ)
last_value_behind value name [] = value
last_value_behind value name (pair ∷ pairs) = last_value_behind (if bytes_eq name pair.0 then Some pair.1 else value) name pairs

-- the last value that pairs give a name
abbrev pub last_value : List ℕ → Pairs → Option (List ℕ)
last_value name pairs = last_value_behind None name pairs

-- What is written of a key where its row is to be another one.
use Rattle.std.specs.Prelude.{Bool, ◌&&◌, ℕ, List, [], ◌∷◌, Option, Some, None, bytes_eq, is_none, if◌then◌else◌}
use Rattle.std.specs.Cmp.Lexicographic.{pointwise}
use Rattle.std.specs.List.{list_any}
use Rattle.table_schema.specs.Fields.{Pairs, value_of}
use Rattle.table_schema.specs.declared.key.Key.{Key}
use Rattle.table_schema.specs.declared.write.Write.{Write}
use Rattle.table_schema.specs.declared.write.Write.TheVariants as write

-- two pairs have one name and one value
abbrev pub are_equal_pairs : List ℕ × List ℕ → List ℕ × List ℕ → Bool
are_equal_pairs pair other = bytes_eq pair.0 other.0 && bytes_eq pair.1 other.1

-- two rows have the same fields
abbrev pub are_equal : Pairs → Pairs → Bool
are_equal row other = pointwise are_equal_pairs row other

-- a row has a name that the other lacks
abbrev pub has_name_beyond : Pairs → Pairs → Bool
has_name_beyond row other = list_any (λ pair. is_none (value_of pair.0 other)) row

-- a row in the place of another one: a Set lays fields over a row, so a name that is to go takes a Del before it
abbrev pub change : Key → Pairs → Pairs → List Write
change key old new =
    if are_equal old new then []
    else if has_name_beyond old new then write.Del key ∷ write.Set key new ∷ []
    else write.Set key new ∷ []

-- the writes that bring the row of a key from the first to the second
abbrev pub difference : Key → Option Pairs → Option Pairs → List Write
difference key None None = []
difference key (Some old) None = write.Del key ∷ []
difference key None (Some new) = write.Set key new ∷ []
difference key (Some old) (Some new) = change key old new

-- A line that ends with a number. Own.
use Rattle.std.specs.Prelude.{ℕ, List, [], ◌∷◌, ◌++◌}
use Rattle.std.specs.Fmt.{decimal}

-- words, a number and the end of the line
abbrev pub count_line : List ℕ → ℕ → List ℕ
count_line words number = words ++ (decimal number ++ 10 ∷ [])

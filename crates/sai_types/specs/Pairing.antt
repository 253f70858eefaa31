-- Pairs of places. Own.
use Rattle.std.specs.Prelude.{◌≢◌, ℕ, List, [], ◌∷◌}

-- neither place of the pair is there
abbrev pub IsFreePair : List (ℕ × ℕ) → (ℕ × ℕ) → Type 0
IsFreePair [] pair = Unit {0}
IsFreePair (p ∷ ps) pair = (p.0 ≢ pair.0) × (p.1 ≢ pair.1) × IsFreePair ps pair

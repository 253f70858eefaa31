-- When a kind of object is above its threshold (SONiC CRM: an alarm from the high percentage on, which the low one clears).
use Rattle.std.specs.Prelude.{ℕ, ◌*◌, Bool, false, not, ◌==◌, ◌&&◌, ◌||◌, nat_le, nat_lt, List, [], ◌∷◌, fold}

-- whether a kind of this capacity is above after an effect behind which so many of its objects stand, by whether it was above before: it comes above where they are at least `high` hundredths of the capacity, and stays above while they are more than `low` hundredths of it. A kind without capacity is never above
abbrev pub is_above_after : ℕ → ℕ → ℕ → Bool → ℕ → Bool
is_above_after high low capacity before count = not (capacity == 0) && (nat_le (high * capacity) (count * 100) || before && nat_lt (low * capacity) (count * 100))

-- whether a kind is above after effects, by its counts after 0, 1, 2 and more of them, up to all; at the start it is not
abbrev pub is_above : ℕ → ℕ → ℕ → List ℕ → Bool
is_above high low capacity [] = false
is_above high low capacity (start ∷ counts) = fold (is_above_after high low capacity) false counts

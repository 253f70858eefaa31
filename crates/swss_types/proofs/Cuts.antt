-- cutting a list at the first element that passes a test
use Rattle.std.proofs.Common.{◌≡◌, ℕ, ◌+◌, ◌-◌, ◌<◌, ◌≤◌, Bool, List, [], ◌∷◌, length, take, drop, Some, None, arith, ltb, get_or, not, length-drop}
use Rattle.std.proofs.lemmas.Bool.{ltb-true, ltb-false, not-true}
use Rattle.std.proofs.lemmas.List.{take_rest}
use Rattle.std.proofs.lemmas.List.Splits.{slice_split_first, slice_split_none}
use Rattle.std.proofs.lemmas.List.Sums.{prefix_len_passes}
use Rattle.std.specs.List.{position, position_or_len, slice_split}
use Rattle.std.proofs.lemmas.Option.{cond_some}
use Rattle.swss_types.proofs.Choices.{chosen_none}

-- a list is cut at the place of its first element that passes
pub cut-at_some : {X : Type 0} (p : X → Bool) (xs : List X) (i : ℕ) (d : X) → position p xs ≡ Some i → (length (take (length xs - (i + 1)) (drop (i + 1) xs)) < length xs) × (slice_split p xs ≡ take i xs ∷ slice_split p (take (length xs - (i + 1)) (drop (i + 1) xs)))
cut-at_some p xs i d h =
    let found = cond_some (ltb (position_or_len p xs) (length xs)) (position_or_len p xs) i h in
    let within : position_or_len p xs < length xs = ltb-true _ _ found.0 in
    let at : position_or_len p xs ≡ i = found.1 in (
      rw (take_rest xs (i + 1)) (omega (arith, length-drop (i + 1) xs)),
      rw (take_rest xs (i + 1), ← at) (slice_split_first p xs d within),
    )

-- where none passes, the list is the one part
pub cut-at_none : {X : Type 0} (p : X → Bool) (xs : List X) → position p xs ≡ None → slice_split p xs ≡ xs ∷ []
cut-at_none p xs h =
    let none = chosen_none (ltb (position_or_len p xs) (length xs)) (position_or_len p xs) h in
    let past : length xs ≤ position_or_len p xs = ltb-false _ _ none in
    slice_split_none p xs (λ k d within. not-true (p (get_or xs k d)) (prefix_len_passes (λ x. not (p x)) xs k d (omega arith)))

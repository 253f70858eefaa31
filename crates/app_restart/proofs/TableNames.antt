-- what stands before the first element that passes a test
use Rattle.std.proofs.Common.{◌≡◌, ℕ, ◌≤◌, Bool, List, length, take, Some, None, ltb, take_all, sym, ap}
use Rattle.std.specs.List.{before_first, position, position_or_len}
use Rattle.std.proofs.lemmas.Bool.{ltb-false}
use Rattle.std.proofs.lemmas.Option.{cond_some}
use Rattle.swss_types.proofs.Choices.{chosen_none}

pub before_first-some : {X : Type 0} (p : X → Bool) (xs : List X) (at : ℕ) → position p xs ≡ Some at → take at xs ≡ before_first p xs
before_first-some p xs at h = ap (λ n. take n xs) (sym (cond_some (ltb (position_or_len p xs) (length xs)) (position_or_len p xs) at h).1)

pub before_first-none : {X : Type 0} (p : X → Bool) (xs : List X) → position p xs ≡ None → xs ≡ before_first p xs
before_first-none p xs h =
    let past : length xs ≤ position_or_len p xs = ltb-false _ _ (chosen_none (ltb (position_or_len p xs) (length xs)) (position_or_len p xs) h) in
    sym (take_all (position_or_len p xs) xs past)

-- reading digits one at a time
use Rattle.std.proofs.Common.{◌≡◌, ℕ, ◌+◌, ◌*◌, ◌-◌, ◌<◌, Bool, true, false, cond, List, [], ◌∷◌, length, drop, get_or, Option, None, refl, add-one, arith}
use Rattle.std.proofs.Math.Seq.{drop-cons}
use Rattle.std.proofs.lemmas.Grind.{common_steps}
use Rattle.std.specs.Char.{is_ascii_digit}
use Rattle.swss_types.specs.Number.{value_behind, at_most}

at_most_cond : (b : Bool) (most : ℕ) (o : Option ℕ) → at_most most o ≡ None → at_most most (cond b o None) ≡ None
at_most_cond true most o h = h
at_most_cond false most o h = refl

-- a number that is already too great stays so
pub at_most-value_behind_past : (n most : ℕ) (bs : List ℕ) → most < n → at_most most (value_behind n bs) ≡ None
at_most-value_behind_past n most [] past = grind (arith, common_steps)
at_most-value_behind_past n most (b ∷ bs) past = at_most_cond (is_ascii_digit b) most _ (at_most-value_behind_past (10 * n + (b - 48)) most bs (omega arith))

-- the next digit
pub value_behind_more : (n i : ℕ) (bs : List ℕ) → i < length bs → is_ascii_digit (get_or bs i 0) ≡ true → value_behind n (drop i bs) ≡ value_behind (10 * n + (get_or bs i 0 - 48)) (drop (i + 1) bs)
value_behind_more n i bs within digit = rw (add-one, drop-cons bs i 0, digit) refl

-- a byte that is no digit
pub value_behind_stuck : (n i : ℕ) (bs : List ℕ) → i < length bs → is_ascii_digit (get_or bs i 0) ≡ false → value_behind n (drop i bs) ≡ None
value_behind_stuck n i bs within other = rw (drop-cons bs i 0, other) refl

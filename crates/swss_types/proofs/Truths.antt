-- what holds of all truth values
use Rattle.std.proofs.Common.{◌≡◌, ◌||◌, ◌∙◌, Bool, true, false, refl, sym}
use Rattle.std.proofs.lemmas.Bool.{false≢true}

pub true_not_false : {X : Type 0} (b : Bool) → b ≡ true → b ≡ false → X
true_not_false b h g = absurd (false≢true (sym g ∙ h))

pub or_swap : (a b c : Bool) → (a || (b || c)) ≡ (b || (a || c))
or_swap true true c = refl
or_swap true false c = refl
or_swap false true c = refl
or_swap false false c = refl

pub or_regrouped : (a b c d : Bool) → ((a || b) || (c || d)) ≡ ((a || c) || (b || d))
or_regrouped true b c d = refl
or_regrouped false true true d = refl
or_regrouped false true false d = refl
or_regrouped false false c d = refl

pub or_none : (b : Bool) → (b || false) ≡ b
or_none true = refl
or_none false = refl

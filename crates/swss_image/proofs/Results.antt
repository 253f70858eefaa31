-- what is said of a result
use Rattle.std.proofs.Common.{◌≡◌, Result, Ok, Err, IfOk, subst}

-- of an equal value
pub if_ok-same : {A E : Type 0} (r : Result A E) {x y : A} → x ≡ y → IfOk r (λ a. a ≡ x) → IfOk r (λ a. a ≡ y)
if_ok-same r e h = subst (λ z. IfOk r (λ a. a ≡ z)) e h

-- where two other facts hold
pub if_ok-both : {A E : Type 0} (r : Result A E) {P Q R : A → Type 0} → ((a : A) → P a → Q a → R a) → IfOk r P → IfOk r Q → IfOk r R
if_ok-both (Ok a) h p q = h a p q
if_ok-both (Err e) h p q = q

-- which items of a list pass a test
use Rattle.std.proofs.Common.{◌≡◌, inl, inr, Bool, true, false, ◌||◌, ◌&&◌, List, [], ◌∷◌, refl, sym, ap, ◌∙◌}
use Rattle.std.specs.List.{list_any}
use Rattle.std.proofs.lemmas.Bool.{false≢true}
use Rattle.sai_types.specs.Alike.{IsIn}

-- either is true where one is
pub or_true : (b : Bool) → (b || true) ≡ true
or_true true = refl
or_true false = refl

pub and_all : (b : Bool) → (b && true) ≡ b
and_all true = refl
and_all false = refl

pub and_none : (b : Bool) → (b && false) ≡ false
and_none true = refl
and_none false = refl

pub and_swap : (a b : Bool) → (a && b) ≡ (b && a)
and_swap true b = sym (and_all b)
and_swap false b = sym (and_none b)

pub and_regrouped : (a b c : Bool) → (a && (b && c)) ≡ ((a && b) && c)
and_regrouped true b c = refl
and_regrouped false b c = refl

pub both_ways : (a b : Bool) → (a ≡ true → b ≡ true) → (b ≡ true → a ≡ true) → a ≡ b
both_ways true true f g = refl
both_ways false false f g = refl
both_ways true false f g = absurd (false≢true (f refl))
both_ways false true f g = absurd (false≢true (g refl))

module _ {X : Type 0} (p : X → Bool) where
  found_step : (x : X) (xs : List X) (b : Bool) → p x ≡ b → (p x || list_any p xs) ≡ true → (list_any p xs ≡ true → (y : X) × IsIn y xs × (p y ≡ true)) → (y : X) × IsIn y (x ∷ xs) × (p y ≡ true)
  found_step x xs true is some rest = (x, inl refl, is)
  found_step x xs false is some rest = let one = rest (sym (ap (λ b. b || list_any p xs) is) ∙ some) in (one.0, inr one.1, one.2)

  -- where any passes there is one that does
  pub any-found : (xs : List X) → list_any p xs ≡ true → (y : X) × IsIn y xs × (p y ≡ true)
  any-found [] some = absurd (false≢true some)
  any-found (x ∷ xs) some = found_step x xs (p x) refl some (any-found xs)

  -- and the other way round
  pub any-there : (y : X) (xs : List X) → IsIn y xs → p y ≡ true → list_any p xs ≡ true
  any-there y [] there passes = elim there [ ]
  any-there y (x ∷ xs) (inl same) passes = ap (λ b. b || list_any p xs) (ap p (sym same) ∙ passes)
  any-there y (x ∷ xs) (inr there) passes = ap (λ b. p x || b) (any-there y xs there passes) ∙ or_true (p x)

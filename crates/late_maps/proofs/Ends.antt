-- entries whose first ones are none of those that are sought
use Rattle.std.proofs.Common.{◌≡◌, Bool, List, [], ◌∷◌, ◌++◌, refl, ap, ◌∙◌}
use Rattle.std.specs.List.{AllByRecursion}
use Rattle.std.specs.Map.{remove_entry, set_value}
use Rattle.std.proofs.lemmas.Bool.{cond-false}
use Rattle.std.proofs.lemmas.Map.{NonePasses}

-- what holds of each, from what is more
pub all_weaker : {A : Type 0} {P Q : A → Type 0} → ((x : A) → P x → Q x) → (xs : List A) → AllByRecursion P xs → AllByRecursion Q xs
all_weaker f [] h = tt
all_weaker f (x ∷ xs) h = (f x h.0, all_weaker f xs h.1)

module _ {K X : Type 0} (test : K → Bool) where
  -- what no key of the first entries passes is done to the others
  pub remove-past : (xs ys : List (K × X)) → NonePasses test xs → remove_entry test (xs ++ ys) ≡ xs ++ remove_entry test ys
  remove-past [] ys none = refl
  remove-past (x ∷ xs) ys none = cond-false (test x.0) _ _ none.0 ∙ ap (λ l. x ∷ l) (remove-past xs ys none.1)

  pub set-past : (xs ys : List (K × X)) (w : X) → NonePasses test xs → set_value test (xs ++ ys) w ≡ xs ++ set_value test ys w
  set-past [] ys w none = refl
  set-past (x ∷ xs) ys w none = cond-false (test x.0) _ _ none.0 ∙ ap (λ l. x ∷ l) (set-past xs ys w none.1)

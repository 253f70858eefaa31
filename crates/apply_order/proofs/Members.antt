-- a test that all of a list pass is one that each of it passes
use Rattle.std.proofs.Common.{◌≡◌, inl, inr, Bool, true, ◌&&◌, List, [], ◌∷◌, refl, ap, ap₂, ◌∙◌}
use Rattle.std.specs.List.{list_all}
use Rattle.std.proofs.lemmas.Bool.{and_parts}
use Rattle.sai_types.specs.Alike.{IsIn}

pub all-of : {X : Type 0} (p : X → Bool) (xs : List X) (x : X) → list_all p xs ≡ true → IsIn x xs → p x ≡ true
all-of p [] x h i = elim i [ ]
all-of p (y ∷ xs) x h (inl is) = ap p is ∙ (and_parts (p y) (list_all p xs) h).0
all-of p (y ∷ xs) x h (inr i) = all-of p xs x (and_parts (p y) (list_all p xs) h).1 i

pub all-from : {X : Type 0} (p : X → Bool) (xs : List X) → ((x : X) → IsIn x xs → p x ≡ true) → list_all p xs ≡ true
all-from p [] h = refl
all-from p (y ∷ xs) h = ap₂ (λ a b. a && b) (h y (inl refl)) (all-from p xs (λ x i. h x (inr i)))

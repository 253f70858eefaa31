-- what a shuffled list keeps: its items
use Rattle.std.proofs.Common.{inl, inr, List, [], ◌∷◌, sym, subst, IsPermutation}
use Rattle.std.specs.List.{AllByRecursion}
use Rattle.std.proofs.lemmas.List.Elements.{All-from_recursion, recursion_from_All}
use Rattle.std.proofs.lemmas.List.Sorted.{All-permutation, IsPermutation-sym}
use Rattle.sai_types.specs.Alike.{IsIn}
use Rattle.sai_types.proofs.Membership.{all-in}

pub in-all : {X : Type 0} (P : X → Type 0) (xs : List X) → AllByRecursion P xs → (x : X) → IsIn x xs → P x
in-all P [] h x i = elim i [ ]
in-all P (y ∷ xs) h x (inl is) = subst P (sym is) h.0
in-all P (y ∷ xs) h x (inr i) = in-all P xs h.1 x i

pub in-shuffled : {X : Type 0} (xs ys : List X) → IsPermutation xs ys → (x : X) → IsIn x ys → IsIn x xs
in-shuffled xs ys s x i =
    let self = all-in (λ y. IsIn y xs) xs (λ y k. k) in
    in-all (λ y. IsIn y xs) ys (recursion_from_All (λ y. IsIn y xs) ys (All-permutation (λ y. IsIn y xs) xs ys s (All-from_recursion (λ y. IsIn y xs) xs self))) x i

pub shuffled-in : {X : Type 0} (xs ys : List X) → IsPermutation xs ys → (x : X) → IsIn x xs → IsIn x ys
shuffled-in xs ys s x i = in-shuffled ys xs (IsPermutation-sym xs ys s) x i

-- a list that rises is the only list in order of its items
use Rattle.std.proofs.Common.{◌≡◌, inl, inr, ℕ, suc, ◌+◌, ◌≤◌, ◌<◌, false, List, [], ◌∷◌, length, map, get_or, Ordering, refl, sym, ap, ap₂, ◌∙◌, subst, arith, IsPermutation, IsSortedByKey}
use Rattle.std.specs.Cmp.{IsTotalOrder}
use Rattle.std.specs.List.{AllByRecursion}
use Rattle.std.specs.List.Sorted.{IsStrictlySortedBy}
use Rattle.std.specs.Ordering.{is_lt, ordering_reverse}
use Rattle.std.specs.declared.cmp.Ordering.TheVariants.{Less}
use Rattle.std.proofs.lemmas.Bool.{true≢false}
use Rattle.std.proofs.lemmas.List.Sorted.{length_permutation, ranks_by, sorted_far}
use Rattle.sai_types.specs.Alike.{IsIn}
use Rattle.view_match.proofs.Shuffled.{shuffled-in}

module _ {X K : Type 0} (key : X → K) (R : K → K → Ordering) (o : IsTotalOrder R) where
  above : (x z : X) (xs : List X) → AllByRecursion (λ k. R (key x) k ≡ Less) (map key xs) → IsIn z xs → R (key x) (key z) ≡ Less
  above x z [] all i = elim i [ ]
  above x z (y ∷ ys) all (inl is) = ap (λ w. R (key x) (key w)) is ∙ all.0
  above x z (y ∷ ys) all (inr i) = above x z ys all.1 i

  not_itself : (k : K) → R k k ≡ Less → ⊥
  not_itself k h = let turned = o.antisymm k k in let reversed = ap ordering_reverse h in absurd cc

  place : (z : X) (ys : List X) → IsIn z ys → (i : ℕ) × (i < length ys) × (get_or ys i z ≡ z)
  place z [] h = elim h [ ]
  place z (y ∷ ys) (inl is) = (0, omega arith, sym is)
  place z (y ∷ ys) (inr h) = let p = place z ys h in (suc p.0, omega (arith, p.1), p.2)

  not_below : (y z : X) (ys : List X) → IsSortedByKey key R (y ∷ ys) → IsIn z ys → is_lt (R (key z) (key y)) ≡ false
  not_below y z ys sorted i =
      let p = place z ys i in
      ap (λ w. is_lt (R (key w) (key y))) (sym p.2) ∙ sorted_far _ (ranks_by o key) (y ∷ ys) sorted 0 (suc p.0) z (omega arith) (omega (arith, p.1))

  rest_sorted : (y : X) (ys : List X) → IsSortedByKey key R (y ∷ ys) → IsSortedByKey key R ys
  rest_sorted y ys sorted = λ k d low high.
      let next : suc k + 1 ≡ suc (k + 1) = omega arith in
      subst (λ n. is_lt (R (key (get_or (y ∷ ys) n d)) (key (get_or ys k d))) ≡ false) next (sorted (suc k) d (omega arith) (omega (arith, high)))

  behind : (x y z : X) (xs ys : List X) → AllByRecursion (λ k. R (key x) k ≡ Less) (map key xs) → (R (key x) (key y) ≡ Less → ⊥) → IsIn z xs → IsIn z (y ∷ ys) → IsIn z ys
  behind x y z xs ys all never i (inl is) = absurd (never (ap (λ w. R (key x) (key w)) (sym is) ∙ above x z xs all i))
  behind x y z xs ys all never i (inr h) = h

  -- the one is no longer than the other, and where the other is no longer they are one list
  abbrev IsSqueezed : List X → List X → Type 0
  IsSqueezed xs ys = (length xs ≤ length ys) × (length ys ≤ length xs → ys ≡ xs)

  -- a list that rises, and one in order that has all its items
  squeezed : (xs ys : List X) → IsStrictlySortedBy R (map key xs) → IsSortedByKey key R ys → ((z : X) → IsIn z xs → IsIn z ys) → IsSqueezed xs ys
  unfolding IsStrictlySortedBy
  squeezed [] [] rising sorted all = (omega arith, λ h. refl)
  squeezed [] (y ∷ ys) rising sorted all = (omega arith, λ h. absurd (omega (arith, h)))
  squeezed (x ∷ xs) [] rising sorted all = elim (all x (inl refl)) [ ]
  squeezed (x ∷ xs) (y ∷ ys) rising sorted all =
      let tail = rest_sorted y ys sorted in
      by (all x (inl refl)) (λ never z i. behind x y z xs ys rising.0 never i (all z (inr i))) (λ h. squeezed xs ys rising.1 tail h) (λ h. squeezed (x ∷ xs) ys rising tail h)
    where
      by : IsIn x (y ∷ ys) → ((R (key x) (key y) ≡ Less → ⊥) → (z : X) → IsIn z xs → IsIn z ys) → (((z : X) → IsIn z xs → IsIn z ys) → IsSqueezed xs ys) → (((z : X) → IsIn z (x ∷ xs) → IsIn z ys) → IsSqueezed (x ∷ xs) ys) → IsSqueezed (x ∷ xs) (y ∷ ys)
      by (inl is) more heads tails =
          let rest = heads (more (λ h. not_itself (key x) (ap (λ w. R (key x) (key w)) is ∙ h))) in
          (omega (arith, rest.0), λ h. ap₂ (λ z zs. z ∷ zs) (sym is) (rest.1 (omega (arith, h))))
      by (inr there) more heads tails =
          let others = more (λ h. true≢false (sym (ap is_lt h) ∙ not_below y x ys sorted there)) in
          let most = tails (λ z i. elim i [ inl is ↦ subst (λ w. IsIn w ys) (sym is) there | inr k ↦ others z k ]) in
          (omega (arith, most.0), λ h. absurd (omega (arith, h, most.0)))

  pub once-in_order : (xs ys : List X) → IsStrictlySortedBy R (map key xs) → IsPermutation xs ys → IsSortedByKey key R ys → ys ≡ xs
  once-in_order xs ys rising same sorted =
      let long = length_permutation xs ys same in
      (squeezed xs ys rising sorted (shuffled-in xs ys same)).1 (omega (arith, long))

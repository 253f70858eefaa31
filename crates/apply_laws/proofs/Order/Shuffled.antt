-- what a shuffled list keeps: its items, how many pass a test, and that no two have one name
use Rattle.std.proofs.Common.{◌≡◌, ◌⊎◌, inl, inr, ℕ, ◌+◌, ◌≤◌, List, [], ◌∷◌, map, sum_by, length, Option, None, Some, refl, sym, ap, ◌∙◌, subst, arith, IsPermutation}
use Rattle.std.proofs.lemmas.List.Sorted.{sum_by-IsPermutation}
use Rattle.std.proofs.lemmas.List.Sums.{sum_by-cons}
use Rattle.sai_types.specs.Alike.{IsIn}
use Rattle.sai_types.specs.Named.{those}
use Rattle.chip_layout.specs.Counted.{AreDistinct}
pub use Rattle.view_match.proofs.Shuffled.{in-all, in-shuffled, shuffled-in}

-- ---- no two are about one

-- two are one, or not
abbrev pub IsTold : {K : Type 0} → K → K → Type 0
IsTold k m = (k ≡ m) ⊎ (k ≡ m → ⊥)

module _ {K : Type 0} (decide : (k m : K) → IsTold k m) where
  abbrev told : (k m : K) → IsTold k m → ℕ
  told k m (inl is) = 1
  told k m (inr apart) = 0

  abbrev is_name : K → K → ℕ
  is_name k m = told k m (decide k m)

  abbrev count_name : K → List K → ℕ
  count_name k [] = 0
  count_name k (m ∷ ms) = is_name k m + count_name k ms

  told_most : (k m : K) (o : IsTold k m) → told k m o ≤ 1
  told_most k m (inl is) = omega arith
  told_most k m (inr apart) = omega arith

  told_same : (k m : K) (o : IsTold k m) → k ≡ m → told k m o ≡ 1
  told_same k m (inl is) e = refl
  told_same k m (inr apart) e = absurd (apart e)

  told_apart : (k m : K) (o : IsTold k m) → (k ≡ m → ⊥) → told k m o ≡ 0
  told_apart k m (inl is) f = absurd (f is)
  told_apart k m (inr apart) f = refl

  none_counted : (k : K) (ms : List K) → (IsIn k ms → ⊥) → count_name k ms ≡ 0
  none_counted k [] none = refl
  none_counted k (m ∷ ms) none =
      let here = told_apart k m (decide k m) (λ e. none (inl e)) in
      let rest = none_counted k ms (λ i. none (inr i)) in
      omega (arith, here, rest)

  some_counted : (k : K) (ms : List K) → IsIn k ms → 1 ≤ count_name k ms
  some_counted k [] i = elim i [ ]
  some_counted k (m ∷ ms) (inl is) = let here = told_same k m (decide k m) is in omega (arith, here)
  some_counted k (m ∷ ms) (inr i) = let rest = some_counted k ms i in omega (arith, rest)

  once_counted : (k : K) (ms : List K) → AreDistinct ms → count_name k ms ≤ 1
  once_counted k [] d = omega arith
  once_counted k (m ∷ ms) d = by (decide k m) (once_counted k ms d.1)
    where
      by : IsTold k m → count_name k ms ≤ 1 → count_name k (m ∷ ms) ≤ 1
      by (inl is) tail =
          let rest = none_counted k ms (λ i. d.0 (subst (λ z. IsIn z ms) is i)) in
          let most = told_most k m (decide k m) in
          omega (arith, rest, most)
      by (inr apart) tail = let here = told_apart k m (decide k m) apart in omega (arith, tail, here)

  counted_once : (ms : List K) → ((k : K) → count_name k ms ≤ 1) → AreDistinct ms
  counted_once [] h = tt
  counted_once (m ∷ ms) h = (
    λ i.
        let some = some_counted m ms i in
        let here = told_same m m (decide m m) refl in
        let most = h m in
        omega (arith, some, here, most),
    counted_once ms (λ k. let most = h k in omega (arith, most)),
  )

  count_sum : {X : Type 0} (f : X → K) (k : K) (xs : List X) → count_name k (map f xs) ≡ sum_by (λ x. is_name k (f x)) xs
  count_sum f k [] = refl
  count_sum f k (x ∷ xs) = ap (λ n. is_name k (f x) + n) (count_sum f k xs) ∙ sym (sum_by-cons (λ y. is_name k (f y)) x xs)

  -- items with names of their own have them in any order
  pub distinct-shuffled : {X : Type 0} (f : X → K) (xs ys : List X) → IsPermutation xs ys → AreDistinct (map f xs) → AreDistinct (map f ys)
  distinct-shuffled f xs ys s d = counted_once (map f ys) (λ k.
      let most = once_counted k (map f xs) d in
      let same = count_sum f k ys ∙ sum_by-IsPermutation (λ x. is_name k (f x)) xs ys s ∙ sym (count_sum f k xs) in
      omega (arith, most, same))

-- ---- how many there are

abbrev one_if : {X : Type 0} → Option X → ℕ
one_if None = 0
one_if (Some x) = 1

those_sum : {X Y : Type 0} (f : X → Option Y) (xs : List X) → length (those (map f xs)) ≡ sum_by (λ x. one_if (f x)) xs
those_sum f [] = refl
those_sum f (x ∷ xs) = one_more (f x) (map f xs) ∙ ap (λ n. one_if (f x) + n) (those_sum f xs) ∙ sym (sum_by-cons (λ y. one_if (f y)) x xs)
  where
    one_more : {Z : Type 0} (o : Option Z) (os : List (Option Z)) → length (those (o ∷ os)) ≡ one_if o + length (those os)
    one_more None os = omega arith
    one_more (Some z) os = omega arith

pub those-shuffled : {X Y : Type 0} (f : X → Option Y) (xs ys : List X) → IsPermutation xs ys → length (those (map f ys)) ≡ length (those (map f xs))
those-shuffled f xs ys s = those_sum f ys ∙ sum_by-IsPermutation (λ x. one_if (f x)) xs ys s ∙ sym (those_sum f xs)

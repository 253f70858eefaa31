-- lists that rise
use Rattle.std.proofs.Common.{◌≡◌, List, [], ◌∷◌, Ordering, Result, Ok, Err, OnOk, OnErr, refl, sym, ap, ◌∙◌, subst}
use Rattle.std.specs.declared.cmp.Ordering.TheVariants.{Less, Equal, Greater}
use Rattle.std.specs.BTreeSet.{insert_key}
use Rattle.std.specs.Cmp.{IsTotalOrder}
use Rattle.std.specs.List.{AllByRecursion}
use Rattle.std.specs.List.Sorted.{IsStrictlySortedBy}
use Rattle.std.specs.Ordering.{match_ordering, ordering_reverse}

module _ {K : Type 0} (R : K → K → Ordering) (o : IsTotalOrder R) where
  pub all_above : (k x : K) (xs : List K) → R k x ≡ Less → AllByRecursion (λ y. R x y ≡ Less) xs → AllByRecursion (λ y. R k y ≡ Less) xs
  all_above k x [] less h = tt
  all_above k x (y ∷ ys) less h = (o.trans k x y less h.0, all_above k x ys less h.1)

  all_step : (P : K → Type 0) (k x : K) (xs : List K) (r : Ordering) → P k → AllByRecursion P (x ∷ xs) → AllByRecursion P (insert_key R xs k) → AllByRecursion P (match_ordering r (k ∷ x ∷ xs) (x ∷ xs) (x ∷ insert_key R xs k))
  all_step P k x xs Less here h others = (here, h)
  all_step P k x xs Equal here h others = h
  all_step P k x xs Greater here h others = (h.0, others)

  all-insert_key : (P : K → Type 0) (k : K) (xs : List K) → P k → AllByRecursion P xs → AllByRecursion P (insert_key R xs k)
  all-insert_key P k [] here h = (here, tt)
  all-insert_key P k (x ∷ xs) here h = all_step P k x xs (R k x) here h (all-insert_key P k xs here h.1)

  sorted_step : (k x : K) (xs : List K) (r : Ordering) → R k x ≡ r → IsStrictlySortedBy R (x ∷ xs) → IsStrictlySortedBy R (insert_key R xs k) → IsStrictlySortedBy R (match_ordering r (k ∷ x ∷ xs) (x ∷ xs) (x ∷ insert_key R xs k))
  unfolding IsStrictlySortedBy
  sorted_step k x xs Less e h others = ((e, all_above k x xs e h.0), h)
  sorted_step k x xs Equal e h others = h
  sorted_step k x xs Greater e h others = (all-insert_key (λ y. R x y ≡ Less) k xs (o.antisymm x k ∙ ap ordering_reverse e) h.0, others)

  -- an item in its place keeps a list rising
  pub sorted-insert_key : (k : K) (xs : List K) → IsStrictlySortedBy R xs → IsStrictlySortedBy R (insert_key R xs k)
  unfolding IsStrictlySortedBy
  sorted-insert_key k [] h = (tt, tt)
  sorted-insert_key k (x ∷ xs) h = sorted_step k x xs (R k x) refl h (sorted-insert_key k xs h.1)

  -- so does a put that finds no memory
  pub sorted-put : {T E : Type 0} (r : Result T E) (old new : List K) (k : K) → OnOk r (new ≡ insert_key R old k) → OnErr r (new ≡ old) → IsStrictlySortedBy R old → IsStrictlySortedBy R new
  sorted-put (Ok x) old new k ok err h = subst (IsStrictlySortedBy R) (sym ok) (sorted-insert_key k old h)
  sorted-put (Err e) old new k ok err h = subst (IsStrictlySortedBy R) (sym err) h

  pub sorted-none : IsStrictlySortedBy R []
  unfolding IsStrictlySortedBy
  sorted-none = tt

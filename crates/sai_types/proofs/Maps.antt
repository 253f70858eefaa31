-- entries of a map in order: what is found after a change, and that they stay in order
use Rattle.std.proofs.Common.{◌≡◌, Bool, true, false, cond, List, [], ◌∷◌, None, Ordering, refl, ap, ◌∙◌}
use Rattle.std.specs.declared.cmp.Ordering.TheVariants.{Less, Equal, Greater}
use Rattle.std.specs.Ordering.{ordering_reverse, match_ordering}
use Rattle.std.specs.BTreeMap.{insert_entry, is_at}
use Rattle.std.specs.Cmp.{IsTotalOrder, eq_by_cmp_equiv}
use Rattle.std.specs.List.{AllByRecursion}
use Rattle.std.specs.List.Sorted.{IsStrictlySortedBy}
use Rattle.std.specs.Map.{keys_of, lookup, remove_entry}
use Rattle.std.proofs.lemmas.Map.{lookup-remove_entry}
use Rattle.std.proofs.lemmas.Map.Keys.{IsDistinct-from_sorted}
use Rattle.swss_types.proofs.Risings.{all_above}

module _ {K X : Type 0} (R : K → K → Ordering) (o : IsTotalOrder R) where
  -- what is found after an entry was removed
  pub lookup-removed : (es : List (K × X)) (k q : K) → IsStrictlySortedBy R (keys_of es) → lookup (is_at (R q)) (remove_entry (is_at (R k)) es) ≡ cond (is_at (R k) q) None (lookup (is_at (R q)) es)
  lookup-removed es k q sorted = lookup-remove_entry (eq_by_cmp_equiv o) (is_at (R k)) (λ x y same. (eq_by_cmp_equiv o).congr k x y same) q es (IsDistinct-from_sorted R (keys_of es) sorted)

  all_step : (P : K → Type 0) (p : K × X) (es : List (K × X)) (k : K) (v : X) (r : Ordering) → P k → AllByRecursion P (keys_of (p ∷ es)) → AllByRecursion P (keys_of (insert_entry R es k v)) → AllByRecursion P (keys_of (match_ordering r ((k, v) ∷ p ∷ es) ((p.0, v) ∷ es) (p ∷ insert_entry R es k v)))
  all_step P p es k v Less here h others = (here, h)
  all_step P p es k v Equal here h others = h
  all_step P p es k v Greater here h others = (h.0, others)

  all-insert_entry : (P : K → Type 0) (es : List (K × X)) (k : K) (v : X) → P k → AllByRecursion P (keys_of es) → AllByRecursion P (keys_of (insert_entry R es k v))
  all-insert_entry P [] k v here h = (here, tt)
  all-insert_entry P (p ∷ es) k v here h = all_step P p es k v (R k p.0) here h (all-insert_entry P es k v here h.1)

  sorted_step : (p : K × X) (es : List (K × X)) (k : K) (v : X) (r : Ordering) → R k p.0 ≡ r → IsStrictlySortedBy R (keys_of (p ∷ es)) → IsStrictlySortedBy R (keys_of (insert_entry R es k v)) → IsStrictlySortedBy R (keys_of (match_ordering r ((k, v) ∷ p ∷ es) ((p.0, v) ∷ es) (p ∷ insert_entry R es k v)))
  unfolding IsStrictlySortedBy
  sorted_step p es k v Less e h others = ((e, all_above R o k p.0 (keys_of es) e h.0), h)
  sorted_step p es k v Equal e h others = h
  sorted_step p es k v Greater e h others = (all-insert_entry (λ y. R p.0 y ≡ Less) es k v (o.antisymm p.0 k ∙ ap ordering_reverse e) h.0, others)

  -- entries stay in order where one is put
  pub sorted-insert_entry : (es : List (K × X)) (k : K) (v : X) → IsStrictlySortedBy R (keys_of es) → IsStrictlySortedBy R (keys_of (insert_entry R es k v))
  unfolding IsStrictlySortedBy
  sorted-insert_entry [] k v h = (tt, tt)
  sorted-insert_entry (p ∷ es) k v h = sorted_step p es k v (R k p.0) refl h (sorted-insert_entry es k v h.1)

  all_removed_step : (P : K → Type 0) (b : Bool) (p : K × X) (es rest : List (K × X)) → AllByRecursion P (keys_of (p ∷ es)) → AllByRecursion P (keys_of rest) → AllByRecursion P (keys_of (cond b es (p ∷ rest)))
  all_removed_step P true p es rest h others = h.1
  all_removed_step P false p es rest h others = (h.0, others)

  all-remove_entry : (P : K → Type 0) (test : K → Bool) (es : List (K × X)) → AllByRecursion P (keys_of es) → AllByRecursion P (keys_of (remove_entry test es))
  all-remove_entry P test [] h = tt
  all-remove_entry P test (p ∷ es) h = all_removed_step P (test p.0) p es (remove_entry test es) h (all-remove_entry P test es h.1)

  sorted_removed_step : (b : Bool) (p : K × X) (es rest : List (K × X)) → IsStrictlySortedBy R (keys_of (p ∷ es)) → AllByRecursion (λ y. R p.0 y ≡ Less) (keys_of rest) → IsStrictlySortedBy R (keys_of rest) → IsStrictlySortedBy R (keys_of (cond b es (p ∷ rest)))
  unfolding IsStrictlySortedBy
  sorted_removed_step true p es rest h all others = h.1
  sorted_removed_step false p es rest h all others = (all, others)

  -- entries stay in order where one is removed
  pub sorted-remove_entry : (test : K → Bool) (es : List (K × X)) → IsStrictlySortedBy R (keys_of es) → IsStrictlySortedBy R (keys_of (remove_entry test es))
  unfolding IsStrictlySortedBy
  sorted-remove_entry test [] h = tt
  sorted-remove_entry test (p ∷ es) h = sorted_removed_step (test p.0) p es (remove_entry test es) h (all-remove_entry (λ y. R p.0 y ≡ Less) test es h.0) (sorted-remove_entry test es h.1)

-- entries of a map in order: what is found where one is put
use Rattle.std.proofs.Common.{◌≡◌, true, cond, List, [], ◌∷◌, Some, Ordering, refl, sym, ap, ◌∙◌}
use Rattle.std.specs.declared.cmp.Ordering.TheVariants.{Less, Equal, Greater}
use Rattle.std.specs.Ordering.{is_eq, match_ordering}
use Rattle.std.specs.BTreeMap.{insert_entry, is_at}
use Rattle.std.specs.Cmp.{IsTotalOrder, eq_by_cmp_equiv}
use Rattle.std.specs.Map.{lookup}
use Rattle.swss_types.proofs.Choices.{by_equal, by_greater}

module _ {K : Type 0} (R : K → K → Ordering) (o : IsTotalOrder R) where
  -- what is equal to two keys makes them equal
  meets : (q k e : K) → is_at (R q) k ≡ true → is_at (R q) e ≡ true → is_eq (R k e) ≡ true
  meets q k e a b = sym ((eq_by_cmp_equiv o).congr q k e a) ∙ b

  -- equal keys are at the same queries
  pub alike : (q k e : K) → is_eq (R k e) ≡ true → is_at (R q) e ≡ is_at (R q) k
  alike q k e same = (eq_by_cmp_equiv o).symm q e ∙ sym ((eq_by_cmp_equiv o).congr k e q same) ∙ (eq_by_cmp_equiv o).symm k q

module _ {K X : Type 0} (R : K → K → Ordering) (o : IsTotalOrder R) where
  insert_step : (p : K × X) (es : List (K × X)) (k : K) (v : X) (q : K) (r : Ordering) → R k p.0 ≡ r
      → lookup (is_at (R q)) (insert_entry R es k v) ≡ cond (is_at (R q) k) (Some v) (lookup (is_at (R q)) es)
      → lookup (is_at (R q)) (match_ordering r ((k, v) ∷ p ∷ es) ((p.0, v) ∷ es) (p ∷ insert_entry R es k v)) ≡ cond (is_at (R q) k) (Some v) (lookup (is_at (R q)) (p ∷ es))
  insert_step p es k v q Less e h = refl
  insert_step p es k v q Equal e h = by_equal (is_at (R q) k) (is_at (R q) p.0) v p.1 (lookup (is_at (R q)) es) (alike R o q k p.0 (ap is_eq e))
  insert_step p es k v q Greater e h =
      ap (λ x. cond (is_at (R q) p.0) (Some p.1) x) h
      ∙ by_greater (is_at (R q) k) (is_at (R q) p.0) v p.1 (lookup (is_at (R q)) es) (λ a b. let same = meets R o q k p.0 a b in let not = ap is_eq e in cc)

  -- what is found after an entry was put
  pub lookup-insert_entry : (es : List (K × X)) (k : K) (v : X) (q : K) → lookup (is_at (R q)) (insert_entry R es k v) ≡ cond (is_at (R q) k) (Some v) (lookup (is_at (R q)) es)
  lookup-insert_entry [] k v q = refl
  lookup-insert_entry (p ∷ es) k v q = insert_step p es k v q (R k p.0) refl (lookup-insert_entry es k v q)

-- how often keys are counted where the count of one changes
use Rattle.std.proofs.Common.{◌≡◌, ◌≤◌, ℕ, ◌+◌, ◌-◌, Bool, true, false, cond, List, [], ◌∷◌, Option, None, Some, Ordering, refl, sym, ap, subst, ◌∙◌, arith}
use Rattle.std.specs.BTreeMap.{insert_entry, is_at}
use Rattle.std.specs.Cmp.{IsTotalOrder, eq_by_cmp_equiv}
use Rattle.std.specs.List.Sorted.{IsStrictlySortedBy}
use Rattle.std.specs.Map.{keys_of, lookup, remove_entry, set_value}
use Rattle.std.specs.Option.{IsSome, unwrap_or}
use Rattle.std.proofs.lemmas.Map.{lookup-remove_entry, lookup-set_value}
use Rattle.std.proofs.lemmas.Map.Keys.{IsDistinct-from_sorted}
use Rattle.swss_types.proofs.Maps.{lookup-insert_entry}
use Rattle.sai_chip.specs.Tally.{count_in}
use Rattle.sai_chip.proofs.Tallies.{less, less_none, more, more_none}

module _ {K : Type 0} (R : K → K → Ordering) (o : IsTotalOrder R) (key : K) where
  same_as : (q : K) → is_at (R key) q ≡ true → (es : List (K × ℕ)) → lookup (is_at (R key)) es ≡ lookup (is_at (R q)) es
  same_as q same [] = refl
  same_as q same (e ∷ es) = ap (λ b. cond b (Some e.1) (lookup (is_at (R key)) es)) ((eq_by_cmp_equiv o).congr key q e.0 same) ∙ ap (cond (is_at (R q) e.0) (Some e.1)) (same_as q same es)

  module _ (es : List (K × ℕ)) where
    module _ (f : ℕ → Bool → ℕ) (none : (n : ℕ) → f n false ≡ n) (new : List (K × ℕ)) (found : Option ℕ) (at_key : unwrap_or found 0 ≡ f (count_in R es key) true) where
      count_by_key : (q : K) (b : Bool) → is_at (R key) q ≡ b → unwrap_or (cond b found (lookup (is_at (R q)) es)) 0 ≡ f (count_in R es q) b
      count_by_key q true same = at_key ∙ ap (λ n. f (unwrap_or n 0) true) (same_as q same es)
      count_by_key q false other = sym (none (count_in R es q))

      recounted : ((q : K) → lookup (is_at (R q)) new ≡ cond (is_at (R key) q) found (lookup (is_at (R q)) es)) → (q : K) → count_in R new q ≡ f (count_in R es q) (is_at (R key) q)
      recounted looked q = ap (λ n. unwrap_or n 0) (looked q) ∙ count_by_key q _ refl

    -- a key that is not there is counted once
    pub raised-new : None ≡ lookup (is_at (R key)) es → (q : K) → count_in R (insert_entry R es key 1) q ≡ count_in R es q + cond (is_at (R key) q) 1 0
    raised-new absent = recounted more more_none _ (Some 1) (ap (λ n. more (unwrap_or n 0) true) absent)
        (λ q. lookup-insert_entry R o es key 1 q ∙ ap (λ b. cond b (Some 1) (lookup (is_at (R q)) es)) ((eq_by_cmp_equiv o).symm q key))

    looked-set : (n w : ℕ) → Some n ≡ lookup (is_at (R key)) es → (q : K) → lookup (is_at (R q)) (set_value (is_at (R key)) es w) ≡ cond (is_at (R key) q) (Some w) (lookup (is_at (R q)) es)
    looked-set n w there q = lookup-set_value (eq_by_cmp_equiv o) (is_at (R key)) (λ x y t. (eq_by_cmp_equiv o).congr key x y t) q w es (subst IsSome there refl)

    -- one that is there is counted once more
    pub raised-there : (n : ℕ) → Some n ≡ lookup (is_at (R key)) es → (q : K) → count_in R (set_value (is_at (R key)) es (n + 1)) q ≡ count_in R es q + cond (is_at (R key) q) 1 0
    raised-there n there = recounted more more_none _ (Some (n + 1)) (ap (λ m. more (unwrap_or m 0) true) there) (looked-set n (n + 1) there)

    -- or once less
    pub lowered-there : (n : ℕ) → Some n ≡ lookup (is_at (R key)) es → (q : K) → count_in R (set_value (is_at (R key)) es (n - 1)) q ≡ count_in R es q - cond (is_at (R key) q) 1 0
    lowered-there n there = recounted less less_none _ (Some (n - 1)) (ap (λ m. less (unwrap_or m 0) true) there) (looked-set n (n - 1) there)

    -- one that is counted at most once goes
    pub lowered-away : IsStrictlySortedBy R (keys_of es) → count_in R es key ≤ 1 → (q : K) → count_in R (remove_entry (is_at (R key)) es) q ≡ count_in R es q - cond (is_at (R key) q) 1 0
    lowered-away sorted small = recounted less less_none _ None (omega (arith, small))
        (λ q. lookup-remove_entry (eq_by_cmp_equiv o) (is_at (R key)) (λ x y t. (eq_by_cmp_equiv o).congr key x y t) q es (IsDistinct-from_sorted R (keys_of es) sorted))

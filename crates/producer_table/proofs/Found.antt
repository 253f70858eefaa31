-- what is found among entries whose keys rise, after one is put or removed
use Rattle.std.proofs.Common.{◌≡◌, Bool, true, false, cond, List, [], ◌∷◌, None, Some, Ordering, refl, sym, ap, ap₂, subst, ◌∙◌}
use Rattle.std.specs.declared.cmp.Ordering.TheVariants.{Less, Equal, Greater}
use Rattle.std.specs.Ordering.{is_eq, match_ordering, ordering_reverse}
use Rattle.std.specs.BTreeMap.{insert_entry, is_at}
use Rattle.std.specs.Cmp.{IsTotalOrder}
use Rattle.std.specs.List.{AllByRecursion}
use Rattle.std.specs.List.Sorted.{IsStrictlySortedBy}
use Rattle.std.specs.Map.{keys_of, lookup, remove_entry}
use Rattle.std.proofs.lemmas.Cmp.{eq_by_cmp_equiv}
use Rattle.std.proofs.lemmas.Map.{lookup-remove_entry}
use Rattle.std.proofs.lemmas.Map.Keys.{IsDistinct-from_sorted}
use Rattle.std.proofs.lemmas.Map.Lookups.{CmpEqualImpliesEq}
use Rattle.std.proofs.lemmas.Option.{none-some, same_Some}
use Rattle.table_schema.specs.Fields.{HasRisingKeys}
use Rattle.table_schema.proofs.Places.{above_more}

module _ {K X : Type 0} (cmp : K → K → Ordering) where
  keys_above : (k : K) (es : List (K × X)) → AllByRecursion (λ e. cmp k e.0 ≡ Less) es → AllByRecursion (λ y. cmp k y ≡ Less) (keys_of es)
  keys_above k [] h = tt
  keys_above k (e ∷ es) h = (h.0, keys_above k es h.1)

  -- rising keys are sorted, as std says it
  pub sorted_from_rising : (es : List (K × X)) → HasRisingKeys cmp es → IsStrictlySortedBy cmp (keys_of es)
  unfolding IsStrictlySortedBy
  sorted_from_rising [] h = tt
  sorted_from_rising (e ∷ es) h = (keys_above e.0 es h.0, sorted_from_rising es h.1)

module _ {K X : Type 0} (cmp : K → K → Ordering) (o : IsTotalOrder cmp) where
  -- what is found after an entry was removed
  pub lookup-removed : (es : List (K × X)) (k q : K) → HasRisingKeys cmp es → lookup (is_at (cmp q)) (remove_entry (is_at (cmp k)) es) ≡ cond (is_at (cmp q) k) None (lookup (is_at (cmp q)) es)
  lookup-removed es k q h =
      lookup-remove_entry (eq_by_cmp_equiv o) (is_at (cmp k)) (λ x y same. (eq_by_cmp_equiv o).congr k x y same) q es (IsDistinct-from_sorted cmp (keys_of es) (sorted_from_rising cmp es h))
      ∙ ap (λ b. cond b None (lookup (is_at (cmp q)) es)) ((eq_by_cmp_equiv o).symm k q)

  -- no key among those above it
  pub lookup-above : (k q : K) (es : List (K × X)) → is_at (cmp q) k ≡ true → AllByRecursion (λ e. cmp k e.0 ≡ Less) es → lookup (is_at (cmp q)) es ≡ None
  lookup-above k q [] here h = refl
  lookup-above k q (e ∷ es) here h =
      let not : is_at (cmp q) e.0 ≡ false = (eq_by_cmp_equiv o).congr q k e.0 here ∙ ap is_eq h.0 in
      ap (λ b. cond b (Some e.1) (lookup (is_at (cmp q)) es)) not ∙ lookup-above k q es here h.1

  here_itself : (e : K × X) (es : List (K × X)) (q : K) → is_at (cmp q) e.0 ≡ true → lookup (is_at (cmp q)) (e ∷ es) ≡ Some e.1
  here_itself e es q is = ap (λ b. cond b (Some e.1) (lookup (is_at (cmp q)) es)) is

  not_below : (e f : K × X) (es fs : List (K × X)) → HasRisingKeys cmp (f ∷ fs) → lookup (is_at (cmp e.0)) (e ∷ es) ≡ lookup (is_at (cmp e.0)) (f ∷ fs) → cmp e.0 f.0 ≡ Less → ⊥
  not_below e f es fs g same less =
      let itself = (eq_by_cmp_equiv o).refl e.0 in
      none-some e.1 (sym (lookup-above e.0 e.0 (f ∷ fs) itself (less, above_more cmp o e.0 f.0 fs less g.0)) ∙ sym same ∙ here_itself e es e.0 itself)

  rest_same : (e f : K × X) (es fs : List (K × X)) (q : K) → e.0 ≡ f.0 → AllByRecursion (λ y. cmp e.0 y.0 ≡ Less) es → AllByRecursion (λ y. cmp f.0 y.0 ≡ Less) fs → lookup (is_at (cmp q)) (e ∷ es) ≡ lookup (is_at (cmp q)) (f ∷ fs) → lookup (is_at (cmp q)) es ≡ lookup (is_at (cmp q)) fs
  rest_same e f es fs q same h g found =
      let at : is_at (cmp q) f.0 ≡ is_at (cmp q) e.0 = ap (is_at (cmp q)) (sym same) in
      let by : (b : Bool) → is_at (cmp q) e.0 ≡ b → cond b (Some e.1) (lookup (is_at (cmp q)) es) ≡ cond b (Some f.1) (lookup (is_at (cmp q)) fs) → lookup (is_at (cmp q)) es ≡ lookup (is_at (cmp q)) fs =
      λ b. elim b as (λ b. is_at (cmp q) e.0 ≡ b → cond b (Some e.1) (lookup (is_at (cmp q)) es) ≡ cond b (Some f.1) (lookup (is_at (cmp q)) fs) → lookup (is_at (cmp q)) es ≡ lookup (is_at (cmp q)) fs) [
        | true ↦ λ is _. lookup-above e.0 q es is h ∙ sym (lookup-above f.0 q fs (at ∙ is) g)
        | false ↦ λ is more. more
      ] in
      by (is_at (cmp q) e.0) refl (found ∙ ap (λ b. cond b (Some f.1) (lookup (is_at (cmp q)) fs)) at)

  -- entries of which the same is found are the same
  pub same_entries : CmpEqualImpliesEq cmp → (es fs : List (K × X)) → HasRisingKeys cmp es → HasRisingKeys cmp fs → ((q : K) → lookup (is_at (cmp q)) es ≡ lookup (is_at (cmp q)) fs) → es ≡ fs
  same_entries exact [] [] h g same = refl
  same_entries exact [] (f ∷ fs) h g same = absurd (none-some f.1 (same f.0 ∙ here_itself f fs f.0 ((eq_by_cmp_equiv o).refl f.0)))
  same_entries exact (e ∷ es) [] h g same = absurd (none-some e.1 (sym (same e.0) ∙ here_itself e es e.0 ((eq_by_cmp_equiv o).refl e.0)))
  same_entries exact (e ∷ es) (f ∷ fs) h g same =
      let rest = same_entries exact es fs h.1 g.1 in
      let by : (r : Ordering) → cmp e.0 f.0 ≡ r → e ∷ es ≡ f ∷ fs =
      λ r. elim r as (λ r. cmp e.0 f.0 ≡ r → e ∷ es ≡ f ∷ fs) [
        | Less ↦ λ is. absurd (not_below e f es fs g (same e.0) is)
        | Equal ↦ λ is.
            let key : e.0 ≡ f.0 = exact e.0 f.0 is in
            let itself = (eq_by_cmp_equiv o).refl e.0 in
            let value : Some e.1 ≡ Some f.1 = sym (here_itself e es e.0 itself) ∙ same e.0 ∙ here_itself f fs e.0 (ap (is_at (cmp e.0)) (sym key) ∙ itself) in
            let entry : e ≡ f = ap₂ (λ (k : K) (v : X). (k, v)) key (same_Some e.1 f.1 value) in
            ap₂ (λ (x : K × X) (xs : List (K × X)). x ∷ xs) entry (rest (λ q. rest_same e f es fs q key h.0 g.0 (same q)))
        | Greater ↦ λ is. absurd (not_below f e fs es h (sym (same f.0)) (o.antisymm f.0 e.0 ∙ ap ordering_reverse is))
      ] in
      by (cmp e.0 f.0) refl

module _ {K X : Type 0} (P : X → Type 0) where
  each_step : (p : K × X) (es rest : List (K × X)) (k : K) (v : X) (r : Ordering) → P v → AllByRecursion (λ e. P e.1) (p ∷ es) → AllByRecursion (λ e. P e.1) rest → AllByRecursion (λ e. P e.1) (match_ordering r ((k, v) ∷ p ∷ es) ((p.0, v) ∷ es) (p ∷ rest))
  each_step p es rest k v Less here h more = (here, h)
  each_step p es rest k v Equal here h more = (here, h.1)
  each_step p es rest k v Greater here h more = (h.0, more)

  -- what holds of each value and of one that is put
  pub each-put : (cmp : K → K → Ordering) (es : List (K × X)) (k : K) (v : X) → P v → AllByRecursion (λ e. P e.1) es → AllByRecursion (λ e. P e.1) (insert_entry cmp es k v)
  each-put cmp [] k v here h = (here, tt)
  each-put cmp (p ∷ es) k v here h = each_step p es (insert_entry cmp es k v) k v (cmp k p.0) here h (each-put cmp es k v here h.1)

  -- what holds of each value holds of the one that is found
  pub each-found : (test : K → Bool) (es : List (K × X)) (v : X) → AllByRecursion (λ e. P e.1) es → lookup test es ≡ Some v → P v
  each-found test [] v h there = absurd cc
  each-found test (p ∷ es) v h there =
      let rest = each-found test es v h.1 in
      let here : Some p.1 ≡ Some v → P v = λ e. let same : p.1 ≡ v = cc in subst P same h.0 in
      elim (test p.0) as (λ b. cond b (Some p.1) (lookup test es) ≡ Some v → P v) [ true ↦ here | false ↦ rest ] there

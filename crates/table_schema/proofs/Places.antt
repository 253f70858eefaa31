-- the place of a key among entries whose keys rise
use Rattle.std.proofs.Common.{◌≡◌, ℕ, zero, suc, ◌<◌, ◌≤◌, false, cond, List, [], ◌∷◌, length, get_or, set, None, Some, Result, Ok, Err, OnOk, OnErr, inl, inr, refl, sym, ap, ◌∙◌, subst, arith}
use Rattle.std.specs.Map.{keys_of, lookup, remove_entry}
use Rattle.std.specs.BTreeMap.{insert_entry, is_at}
use Rattle.std.specs.List.{AllByRecursion, insert, remove}
use Rattle.std.specs.List.Sorted.{IsBinarySearchResult, IsSearchInRange, IsNonDecreasingBy, IsStrictlySortedBy}
use Rattle.std.specs.Ordering.{match_ordering, is_eq, ordering_reverse, ordering_index}
use Rattle.std.specs.Cmp.{IsTotalOrder}
use Rattle.std.proofs.lemmas.Bool.{cases_lt}
use Rattle.std.proofs.lemmas.Cmp.{tied_back, alike_right}
use Rattle.std.proofs.lemmas.Map.Keys.{sorted_head, sorted_tail}
use Rattle.std.specs.declared.cmp.Ordering.{Ordering}
use Rattle.std.specs.declared.cmp.Ordering.TheVariants.{Less, Equal, Greater}
use Rattle.table_schema.specs.Fields.{HasRisingKeys, IsPlaceBy}

index_most : (r : Ordering) → ordering_index r ≤ 2
index_most Less = omega arith
index_most Equal = omega arith
index_most Greater = omega arith

module _ {K : Type 0} {cmp : K → K → Ordering} (o : IsTotalOrder cmp) where
  back : (a b : K) (r : Ordering) → cmp b a ≡ r → cmp a b ≡ ordering_reverse r
  back a b r h = o.antisymm a b ∙ ap ordering_reverse h

  lesser_stays : (a b k : K) (r : Ordering) → cmp b k ≡ r → cmp a b ≡ Less → ordering_index (cmp a k) ≤ ordering_index r
  lesser_stays a b k Less h less = rw (o.trans a b k less h) (omega arith)
  lesser_stays a b k Equal h less = rw (sym (alike_right o b k a h) ∙ less) (omega arith)
  lesser_stays a b k Greater h less = index_most (cmp a k)

module _ {K X : Type 0} (cmp : K → K → Ordering) where
  -- the entries before this place have lesser keys
  abbrev pub AreLesser : List (K × X) → K → ℕ → Type 0
  AreLesser es k at = (j : ℕ) (d : K × X) → j < at → cmp k (get_or es j d).0 ≡ Greater

  pub put_step : (e : K × X) (es : List (K × X)) (k : K) (v : X) (r : Ordering) → cmp k e.0 ≡ r → insert_entry cmp (e ∷ es) k v ≡ match_ordering r ((k, v) ∷ e ∷ es) ((e.0, v) ∷ es) (e ∷ insert_entry cmp es k v)
  put_step e es k v r h = ap (λ o. match_ordering o ((k, v) ∷ e ∷ es) ((e.0, v) ∷ es) (e ∷ insert_entry cmp es k v)) h

  pub find_step : (e : K × X) (es : List (K × X)) (k : K) (r : Ordering) → cmp k e.0 ≡ r → lookup (is_at (cmp k)) (e ∷ es) ≡ cond (is_eq r) (Some e.1) (lookup (is_at (cmp k)) es)
  find_step e es k r h = ap (λ o. cond (is_eq o) (Some e.1) (lookup (is_at (cmp k)) es)) h

  put_over : (es : List (K × X)) (at : ℕ) (k : K) (v : X) (d : K × X) → at < length es → AreLesser es k at → cmp k (get_or es at d).0 ≡ Equal → insert_entry cmp es k v ≡ set es at ((get_or es at d).0, v)
  put_over [] at k v d lt h e = absurd (omega arith)
  put_over (x ∷ es) zero k v d lt h e = put_step x es k v Equal e
  put_over (x ∷ es) (suc at) k v d lt h e = put_step x es k v Greater (h zero x (omega arith)) ∙ ap (λ r. x ∷ r) (put_over es at k v d (omega arith) (λ j d less. h (suc j) d (omega arith)) e)

  found_at : (es : List (K × X)) (at : ℕ) (k : K) (d : K × X) → at < length es → AreLesser es k at → cmp k (get_or es at d).0 ≡ Equal → lookup (is_at (cmp k)) es ≡ Some (get_or es at d).1
  found_at [] at k d lt h e = absurd (omega arith)
  found_at (x ∷ es) zero k d lt h e = find_step x es k Equal e
  found_at (x ∷ es) (suc at) k d lt h e = find_step x es k Greater (h zero x (omega arith)) ∙ found_at es at k d (omega arith) (λ j d less. h (suc j) d (omega arith)) e

  pub out_step : (e : K × X) (es : List (K × X)) (k : K) (r : Ordering) → cmp k e.0 ≡ r → remove_entry (is_at (cmp k)) (e ∷ es) ≡ cond (is_eq r) es (e ∷ remove_entry (is_at (cmp k)) es)
  out_step e es k r h = ap (λ o. cond (is_eq o) es (e ∷ remove_entry (is_at (cmp k)) es)) h

  out_at : (es : List (K × X)) (at : ℕ) (k : K) → at < length es → AreLesser es k at → ((d : K × X) → cmp k (get_or es at d).0 ≡ Equal) → remove_entry (is_at (cmp k)) es ≡ remove es at
  out_at [] at k lt h e = absurd (omega arith)
  out_at (x ∷ es) zero k lt h e = out_step x es k Equal (e x)
  out_at (x ∷ es) (suc at) k lt h e = out_step x es k Greater (h zero x (omega arith)) ∙ ap (λ r. x ∷ r) (out_at es at k (omega arith) (λ j d less. h (suc j) d (omega arith)) e)

  put_between : (es : List (K × X)) (at : ℕ) (k : K) (v : X) → at ≤ length es → AreLesser es k at → ((d : K × X) → at < length es → cmp k (get_or es at d).0 ≡ Less) → insert_entry cmp es k v ≡ insert es at (k, v)
  put_between [] zero k v le h more = refl
  put_between [] (suc at) k v le h more = absurd (omega arith)
  put_between (x ∷ es) zero k v le h more = put_step x es k v Less (more x (omega arith))
  put_between (x ∷ es) (suc at) k v le h more = put_step x es k v Greater (h zero x (omega arith)) ∙ ap (λ r. x ∷ r) (put_between es at k v (omega arith) (λ j d less. h (suc j) d (omega arith)) (λ d lt. more d (omega arith)))

  absent_from : (es : List (K × X)) (k : K) → ((j : ℕ) (d : K × X) → j < length es → is_eq (cmp k (get_or es j d).0) ≡ false) → lookup (is_at (cmp k)) es ≡ None
  absent_from [] k h = refl
  absent_from (x ∷ es) k h = ap (λ b. cond b (Some x.1) (lookup (is_at (cmp k)) es)) (h zero x (omega arith)) ∙ absent_from es k (λ j d lt. h (suc j) d (omega arith))

  -- the key at a place, by all keys that the first one is below
  below_each : (x : K) (es : List (K × X)) (j : ℕ) (d : K × X) → j < length es → AllByRecursion (λ y. cmp x y.0 ≡ Less) es → cmp x (get_or es j d).0 ≡ Less
  below_each x [] j d lt h = absurd (omega arith)
  below_each x (e ∷ es) zero d lt h = h.0
  below_each x (e ∷ es) (suc j) d lt h = below_each x es j d (omega arith) h.1

  pub rising_at : (es : List (K × X)) (i j : ℕ) (d : K × X) → HasRisingKeys cmp es → i < j → j < length es → cmp (get_or es i d).0 (get_or es j d).0 ≡ Less
  rising_at [] i j d h less lt = absurd (omega arith)
  rising_at (e ∷ es) i zero d h less lt = absurd (omega arith)
  rising_at (e ∷ es) zero (suc j) d h less lt = below_each e.0 es j d (omega arith) h.0
  rising_at (e ∷ es) (suc i) (suc j) d h less lt = rising_at es i j d h.1 (omega arith) (omega arith)

  above_all : (x : K) (es : List (K × X)) (k : K) (v : X) → cmp x k ≡ Less → AllByRecursion (λ y. cmp x y.0 ≡ Less) es → AllByRecursion (λ y. cmp x y.0 ≡ Less) (insert_entry cmp es k v)
  above_all x [] k v less h = (less, tt)
  above_all x (e ∷ es) k v less h =
      let rest = above_all x es k v less h.1 in
      elim (cmp k e.0) as (λ r. AllByRecursion (λ y. cmp x y.0 ≡ Less) (match_ordering r ((k, v) ∷ e ∷ es) ((e.0, v) ∷ es) (e ∷ insert_entry cmp es k v))) [ Less ↦ (less, h) | Equal ↦ (h.0, h.1) | Greater ↦ (h.0, rest) ]

  module _ (o : IsTotalOrder cmp) where
    pub above_more : (a b : K) (es : List (K × X)) → cmp a b ≡ Less → AllByRecursion (λ y. cmp b y.0 ≡ Less) es → AllByRecursion (λ y. cmp a y.0 ≡ Less) es
    above_more a b [] less h = tt
    above_more a b (e ∷ es) less h = (o.trans a b e.0 less h.0, above_more a b es less h.1)

    -- an entry in its place keeps the keys rising
    pub HasRisingKeys-insert_entry : (es : List (K × X)) (k : K) (v : X) → HasRisingKeys cmp es → HasRisingKeys cmp (insert_entry cmp es k v)
    HasRisingKeys-insert_entry [] k v h = (tt, tt)
    HasRisingKeys-insert_entry (e ∷ es) k v h =
        let rest = HasRisingKeys-insert_entry es k v h.1 in
        let by : (r : Ordering) → cmp k e.0 ≡ r → HasRisingKeys cmp (match_ordering r ((k, v) ∷ e ∷ es) ((e.0, v) ∷ es) (e ∷ insert_entry cmp es k v)) =
        λ r. elim r as (λ r. cmp k e.0 ≡ r → HasRisingKeys cmp (match_ordering r ((k, v) ∷ e ∷ es) ((e.0, v) ∷ es) (e ∷ insert_entry cmp es k v))) [
          | Less ↦ λ is. ((is, above_more k e.0 es is h.0), h)
          | Equal ↦ λ is. (h.0, h.1)
          | Greater ↦ λ is. (above_all e.0 es k v (back o e.0 k Greater is) h.0, rest)
        ] in
        by (cmp k e.0) refl

    rank_rises : (es : List (K × X)) (k : K) → HasRisingKeys cmp es → IsNonDecreasingBy (λ y. ordering_index (cmp y.0 k)) es
    rank_rises es k h i j d le lt =
        elim (cases_lt i j) [
          | inl less ↦ lesser_stays o (get_or es i d).0 (get_or es j d).0 k (cmp (get_or es j d).0 k) refl (rising_at es i j d h less lt)
          | inr from ↦ let same : i ≡ j = omega arith in rw same (omega arith)
        ]

    -- what a binary search among rising keys finds
    pub placed : (es : List (K × X)) (k : K) (r : Result ℕ ℕ) → HasRisingKeys cmp es → IsSearchInRange r (length es) → IsBinarySearchResult (λ y. cmp y.0 k) es r → IsPlaceBy cmp es k r
    placed es k (Ok at) h within found =
        let here : (d : K × X) → cmp k (get_or es at d).0 ≡ Equal = λ d. tied_back o _ _ (found d) in
        let lesser : AreLesser es k at = λ j d lt. back o k (get_or es j d).0 Less (sym (alike_right o (get_or es at d).0 k (get_or es j d).0 (found d)) ∙ rising_at es j at d h lt within) in
        (within, (λ d. found_at es at k d within lesser (here d)), (λ v d. put_over es at k v d within lesser (here d)), out_at es at k within lesser here)
    placed es k (Err at) h within found =
        let parted = found (rank_rises es k h) in
        let lesser : AreLesser es k at = λ j d lt. back o k (get_or es j d).0 Less (parted.0 j d (omega arith) lt) in
        let more : (j : ℕ) (d : K × X) → at ≤ j → j < length es → cmp k (get_or es j d).0 ≡ Less = λ j d from lt. back o k (get_or es j d).0 Greater (parted.1 j d from lt) in
        (within, absent_from es k (λ j d lt. elim (cases_lt j at) [ inl less ↦ ap is_eq (lesser j d less) | inr from ↦ ap is_eq (more j d from lt) ]), (λ v. put_between es at k v within lesser (λ d lt. more at d (omega arith) lt)))

    -- a change that is a put or none keeps the keys rising
    pub kept : {T E : Type 0} (r : Result T E) (old new : List (K × X)) (k : K) (v : X) → OnOk r (new ≡ insert_entry cmp old k v) → OnErr r (new ≡ old) → HasRisingKeys cmp old → HasRisingKeys cmp new
    kept (Ok x) old new k v ok err h = subst (HasRisingKeys cmp) (sym ok) (HasRisingKeys-insert_entry old k v h)
    kept (Err e) old new k v ok err h = subst (HasRisingKeys cmp) (sym err) h

all_keys : {K X : Type 0} (P : K → Type 0) (es : List (K × X)) → AllByRecursion P (keys_of es) → AllByRecursion (λ e. P e.0) es
all_keys P [] h = tt
all_keys P (e ∷ es) h = (h.0, all_keys P es h.1)

-- the entries of a map of std rise
pub HasRisingKeys-from_sorted : {K X : Type 0} (cmp : K → K → Ordering) (es : List (K × X)) → IsStrictlySortedBy cmp (keys_of es) → HasRisingKeys cmp es
HasRisingKeys-from_sorted cmp [] h = tt
HasRisingKeys-from_sorted cmp (e ∷ es) h = (all_keys (λ k. cmp e.0 k ≡ Less) es (sorted_head cmp e.0 (keys_of es) h), HasRisingKeys-from_sorted cmp es (sorted_tail cmp e.0 (keys_of es) h))

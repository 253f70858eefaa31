-- a list of entries in order, and what is found in it under a key
use Rattle.std.proofs.Common.{◌≡◌, ◌⊎◌, inl, inr, ℕ, zero, suc, ◌+◌, ◌<◌, ◌≤◌, Bool, true, false, cond, List, [], ◌∷◌, length, map, Option, None, Some, option_map, slice_get, slice_index_or, refl, sym, ap, ap₂, ◌∙◌, subst, arith}
use Rattle.std.specs.BTreeMap.{is_at}
use Rattle.std.specs.Cmp.{IsTotalOrder}
use Rattle.std.specs.List.{AllAdjacentBelow, AllByRecursion, IsAllAdjacentAnswer}
use Rattle.std.specs.List.Sorted.{IsPartitionPoint, IsPartitionedBy, IsSortedBy}
use Rattle.std.specs.Map.{lookup}
use Rattle.std.specs.Ordering.{MatchOrdering, is_eq, is_lt, nat_cmp, ordering_reverse, ordering_then}
use Rattle.std.specs.declared.cmp.Ordering.{Ordering}
use Rattle.std.specs.declared.cmp.Ordering.TheVariants.{Less, Equal, Greater}
use Rattle.std.proofs.lemmas.Bool.{false≢true}
use Rattle.std.proofs.lemmas.Cmp.{on_total, ranked, then_total, tied_itself}
use Rattle.std.proofs.lemmas.List.Sorted.{ranks_by, sorted_far}
use Rattle.std.proofs.lemmas.Map.Views.{tells_apart}
use Rattle.std.proofs.lemmas.Option.{same_Some}
use Rattle.sai_types.specs.Alike.{IsIn}
use Rattle.view_match.specs.contracts.indexed.PartnerOrd.TheImpl as partner_ord
use Rattle.view_match.specs.contracts.indexed.PartnerOrd.TheImpl.Laws as ordered_partner
use Rattle.view_match.specs.contracts.key.NaturalKeyOrd.TheImpl.Laws as ordered_key
use Rattle.view_match.specs.declared.indexed.Partner.{Partner}
use Rattle.view_match.specs.declared.key.NaturalKey.{NaturalKey}
use Rattle.view_match.specs.Indexed.{AreStrictlySortedByKey, partner_if}
use Rattle.view_match.specs.Keys.{natural_key_cmp}
use Rattle.view_match.specs.Pairs.{AreSortedByKey}
use Rattle.view_match.proofs.Exact.{natural_key_exact}
use Rattle.view_match.proofs.Shuffled.{in-all}

abbrev pub IndexEntry : Type 0
IndexEntry = NaturalKey × Partner

abbrev pub partner_cmp : Partner → Partner → Ordering
partner_cmp = partner_ord.ghosts.cmp

-- the order of entries: by their keys, and then by their partners
abbrev pub entry_cmp : IndexEntry → IndexEntry → Ordering
entry_cmp a b = ordering_then (natural_key_cmp a.0 b.0) (partner_cmp a.1 b.1)

entry_total : IsTotalOrder entry_cmp
entry_total = then_total (on_total (λ (e : IndexEntry). e.0) ordered_key.total-law) (on_total (λ (e : IndexEntry). e.1) ordered_partner.total-law)

abbrev before : NaturalKey → NaturalKey → Bool
before k l = is_lt (natural_key_cmp k l)

all_more : {X : Type 0} (P Q : X → Type 0) (xs : List X) → ((x : X) → P x → Q x) → AllByRecursion P xs → AllByRecursion Q xs
all_more P Q [] more h = tt
all_more P Q (x ∷ xs) more h = (more x h.0, all_more P Q xs more h.1)

-- ---- entries in order

-- no entry is less than one before it
abbrev pub AreInOrder : List IndexEntry → Type 0
AreInOrder [] = Unit {0}
AreInOrder (e ∷ es) = AllByRecursion (λ y. is_lt (entry_cmp y e) ≡ false) es × AreInOrder es

first_decides : (r s : Ordering) → is_lt (ordering_then r s) ≡ false → is_lt r ≡ false
first_decides Less s h = h
first_decides Equal s h = refl
first_decides Greater s h = refl

pub rising-in_order : (es : List IndexEntry) → AreInOrder es → AreSortedByKey es
rising-in_order [] h = tt
rising-in_order (e ∷ es) h = (all_more (λ y. is_lt (entry_cmp y e) ≡ false) (λ y. before y.0 e.0 ≡ false) es (λ y. first_decides (natural_key_cmp y.0 e.0) (partner_cmp y.1 e.1)) h.0, rising-in_order es h.1)

-- of two partners the one that is not less has the greater group, or the same one and no earlier place
pub no_less : (m n x y : ℕ) → is_lt (ordering_then (nat_cmp m n) (nat_cmp x y)) ≡ false → (n < m) ⊎ ((m ≡ n) × (y ≤ x))
no_less m n x y = by (nat_cmp m n) (nat_cmp x y) (ranked m n _ refl) (ranked x y _ refl)
  where
    by : (r s : Ordering) → MatchOrdering r (m < n) (m ≡ n) (n < m) → MatchOrdering s (x < y) (x ≡ y) (y < x) → is_lt (ordering_then r s) ≡ false → (n < m) ⊎ ((m ≡ n) × (y ≤ x))
    by Less s a b h = absurd (false≢true (sym h))
    by Equal Less a b h = absurd (false≢true (sym h))
    by Equal Equal a b h = inr (a, omega (arith, b))
    by Equal Greater a b h = inr (a, omega (arith, b))
    by Greater s a b h = inl a

is_less : (r : Ordering) → true ≡ is_lt r → r ≡ Less
is_less Less h = refl
is_less Equal h = absurd (false≢true (sym h))
is_less Greater h = absurd (false≢true (sym h))

module _ {X : Type 0} (entry : X → IndexEntry) where
  abbrev lesser : X → X → Bool
  lesser x y = is_lt (entry_cmp (entry x) (entry y))

  none_lesser : (x : X) (xs : List X) → ((j : ℕ) (d : X) → j < length xs → lesser (slice_index_or xs j d) x ≡ false) → AllByRecursion (λ y. is_lt (entry_cmp y (entry x)) ≡ false) (map entry xs)
  none_lesser x [] h = tt
  none_lesser x (y ∷ xs) h = (h 0 y (omega arith), none_lesser x xs (λ j d less. h (suc j) d (omega (arith, less))))

  sorted_tail : (x : X) (xs : List X) → IsSortedBy lesser (x ∷ xs) → IsSortedBy lesser xs
  sorted_tail x xs h k d low high =
      let next : suc k + 1 ≡ suc (k + 1) = omega arith in
      subst (λ n. lesser (slice_index_or (x ∷ xs) n d) (slice_index_or xs k d) ≡ false) next (h (suc k) d (omega arith) (omega (arith, high)))

  pub in_order-sorted : (xs : List X) → IsSortedBy lesser xs → AreInOrder (map entry xs)
  in_order-sorted [] h = tt
  in_order-sorted (x ∷ xs) h = (none_lesser x xs (λ j d less. sorted_far lesser (ranks_by entry_total entry) (x ∷ xs) h 0 (suc j) d (omega arith) (omega (arith, less))), in_order-sorted xs (sorted_tail x xs h))

  abbrev IsBelow : X → X → Type 0
  IsBelow x y = true ≡ before (entry x).0 (entry y).0

  adjacent_tail : (x : X) (xs : List X) → AllAdjacentBelow IsBelow (x ∷ xs) (length (x ∷ xs)) → AllAdjacentBelow IsBelow xs (length xs)
  adjacent_tail x xs h k d high =
      let next : suc k + 1 ≡ suc (k + 1) = omega arith in
      subst (λ n. IsBelow (slice_index_or xs k d) (slice_index_or (x ∷ xs) n d)) next (h (suc k) d (omega (arith, high)))

  apart-adjacent : (xs : List X) → AllAdjacentBelow IsBelow xs (length xs) → AreStrictlySortedByKey (map entry xs)
  apart-adjacent [] h = tt
  apart-adjacent (x ∷ []) h = (tt, tt)
  apart-adjacent (x ∷ y ∷ xs) h =
      let less = is_less _ (h 0 x (omega arith)) in
      let rest = apart-adjacent (y ∷ xs) (adjacent_tail x (y ∷ xs) h) in
      ((less, all_more (λ e. natural_key_cmp (entry y).0 e.0 ≡ Less) (λ e. natural_key_cmp (entry x).0 e.0 ≡ Less) (map entry xs) (λ e. ordered_key.total-law.trans (entry x).0 (entry y).0 e.0 less) rest.0), rest)

  pub apart-answer : (xs : List X) (b : Bool) → IsAllAdjacentAnswer (λ x y r. r ≡ before (entry x).0 (entry y).0) xs b → b ≡ true → AreStrictlySortedByKey (map entry xs)
  apart-answer xs true h is = apart-adjacent xs h
  apart-answer xs false h is = absurd (false≢true is)

-- ---- look-ups

module _ (k : NaturalKey) where
  abbrev pub found : List IndexEntry → Option Partner
  found es = lookup (is_at (natural_key_cmp k)) es

  at_own : (e : IndexEntry) → k ≡ e.0 → is_at (natural_key_cmp k) e.0 ≡ true
  at_own e is = ap is_eq (ap (natural_key_cmp k) (sym is) ∙ tied_itself ordered_key.total-law k)

  -- the least entry of the key
  pub record IsLeast (es : List IndexEntry) (q : Partner) : Type 0 where
    pub has : IsIn (k, q) es
    pub least : (p : Partner) → IsIn (k, p) es → is_lt (partner_cmp p q) ≡ false

  pub least-found : (es : List IndexEntry) (q : Partner) → AreInOrder es → found es ≡ Some q → IsLeast es q
  least-found [] q h e = absurd cc
  least-found (e ∷ es) q h is = by (is_at (natural_key_cmp k) e.0) refl is (least-found es q h.1)
    where
      by : (b : Bool) → is_at (natural_key_cmp k) e.0 ≡ b → cond b (Some e.1) (found es) ≡ Some q → (found es ≡ Some q → IsLeast es q) → IsLeast (e ∷ es) q
      by true same is rest =
          let whole : (k, q) ≡ e = ap₂ (λ (x : NaturalKey) (y : Partner). (x, y)) (tells_apart natural_key_exact k e.0 same) (sym (same_Some e.1 q is)) in
          record { has = inl whole; least = none_before whole }
        where
          none_before : (k, q) ≡ e → (p : Partner) → IsIn (k, p) (e ∷ es) → is_lt (partner_cmp p q) ≡ false
          none_before whole p (inl own) = ap is_lt (ap (λ (x : IndexEntry). partner_cmp x.1 q) (own ∙ sym whole) ∙ tied_itself ordered_partner.total-law q)
          none_before whole p (inr i) =
              ap (λ r. is_lt (ordering_then r (partner_cmp p q))) (sym (tied_itself ordered_key.total-law k))
              ∙ subst (λ x. is_lt (entry_cmp (k, p) x) ≡ false) (sym whole) (in-all (λ y. is_lt (entry_cmp y e) ≡ false) es h.0 (k, p) i)
      by false other is rest = let later = rest is in record { has = inr later.has; least = λ p i. elim i [ inl own ↦ absurd (false≢true (sym other ∙ at_own e (ap (λ (x : IndexEntry). x.0) own))) | inr i ↦ later.least p i ] }

  pub none-found : (es : List IndexEntry) (p : Partner) → found es ≡ None → IsIn (k, p) es → ⊥
  none-found [] p e i = i
  none-found (e ∷ es) p is i = by (is_at (natural_key_cmp k) e.0) refl is i (none-found es p)
    where
      by : (b : Bool) → is_at (natural_key_cmp k) e.0 ≡ b → cond b (Some e.1) (found es) ≡ None → IsIn (k, p) (e ∷ es) → (found es ≡ None → IsIn (k, p) es → ⊥) → ⊥
      by true same is i rest = absurd cc
      by false other is (inl own) rest = false≢true (sym other ∙ at_own e (ap (λ (x : IndexEntry). x.0) own))
      by false other is (inr i) rest = rest is i

  -- where no two have one key, each entry is found
  pub apart-found : (es : List IndexEntry) (p : Partner) → AreStrictlySortedByKey es → IsIn (k, p) es → found es ≡ Some p
  apart-found [] p h i = absurd i
  apart-found (e ∷ es) p h (inl own) = ap (λ b. cond b (Some e.1) (found es)) (at_own e (ap (λ (x : IndexEntry). x.0) own)) ∙ ap (λ (x : IndexEntry). Some x.1) (sym own)
  apart-found (e ∷ es) p h (inr i) = ap (λ r. cond (is_eq r) (Some e.1) (found es)) (ordered_key.total-law.antisymm k e.0 ∙ ap ordering_reverse (in-all (λ y. natural_key_cmp e.0 y.0 ≡ Less) es h.0 (k, p) i)) ∙ apart-found es p h.1 i

  -- ---- a search

  none_behind : (e : IndexEntry) (es : List IndexEntry) → before k e.0 ≡ true → AllByRecursion (λ y. before y.0 e.0 ≡ false) es → found es ≡ None
  none_behind e [] less h = refl
  none_behind e (y ∷ es) less h = by (is_at (natural_key_cmp k) y.0) refl (none_behind e es less h.1)
    where
      by : (b : Bool) → is_at (natural_key_cmp k) y.0 ≡ b → found es ≡ None → cond b (Some y.1) (found es) ≡ None
      by true same rest = absurd (false≢true (sym h.0 ∙ ap (λ l. before l e.0) (sym (tells_apart natural_key_exact k y.0 same)) ∙ less))
      by false other rest = rest

  at_first : (e : IndexEntry) (es : List IndexEntry) → before e.0 k ≡ false → AllByRecursion (λ y. before y.0 e.0 ≡ false) es → found (e ∷ es) ≡ partner_if e k
  at_first e es from h = by (natural_key_cmp k e.0) refl
    where
      by : (r : Ordering) → natural_key_cmp k e.0 ≡ r → cond (is_eq r) (Some e.1) (found es) ≡ cond (is_eq r) (Some e.1) None
      by Less is = none_behind e es (ap is_lt is) h
      by Equal is = refl
      by Greater is = absurd (false≢true (sym from ∙ ap is_lt (ordered_key.total-law.antisymm e.0 k ∙ ap ordering_reverse is)))

  other_back : (r : Ordering) → is_lt r ≡ true → is_eq (ordering_reverse r) ≡ false
  other_back Less h = refl
  other_back Equal h = absurd (false≢true h)
  other_back Greater h = refl

  abbrev pub partner_in : Option IndexEntry → Option Partner
  partner_in None = None
  partner_in (Some e) = partner_if e k

  at_each : {X : Type 0} (P : IndexEntry → Type 0) (entry : X → IndexEntry) (xs : List X) (j : ℕ) (d : X) → j < length xs → AllByRecursion P (map entry xs) → P (entry (slice_index_or xs j d))
  at_each P entry [] j d less h = absurd (omega (arith, less))
  at_each P entry (x ∷ xs) zero d less h = h.0
  at_each P entry (x ∷ xs) (suc j) d less h = at_each P entry xs j d (omega (arith, less)) h.1

  lesser_first : (e y : NaturalKey) → before y e ≡ false → before y k ≡ true → before e k ≡ true
  lesser_first e y from less = by (before e k) refl
    where
      by : (b : Bool) → before e k ≡ b → b ≡ true
      by true is = refl
      by false is = sym ((ranks_by ordered_key.total-law (λ (x : NaturalKey). x)).chain y e k from is) ∙ less

  -- the entries with lesser keys come first
  parted-rising : {X : Type 0} (entry : X → IndexEntry) (xs : List X) → AreSortedByKey (map entry xs) → IsPartitionedBy (λ x. before (entry x).0 k) xs
  parted-rising entry [] rise i j d from within less = absurd (omega (arith, within))
  parted-rising entry (x ∷ xs) rise zero zero d from within less = less
  parted-rising entry (x ∷ xs) rise zero (suc j) d from within less = lesser_first (entry x).0 _ (at_each (λ y. before y.0 (entry x).0 ≡ false) entry xs j d (omega (arith, within)) rise.0) less
  parted-rising entry (x ∷ xs) rise (suc i) zero d from within less = absurd (omega (arith, from))
  parted-rising entry (x ∷ xs) rise (suc i) (suc j) d from within less = parted-rising entry xs rise.1 i j d (omega (arith, from)) (omega (arith, within)) less

  found-parted : {X : Type 0} (entry : X → IndexEntry) (xs : List X) (at : ℕ) → AreSortedByKey (map entry xs) → ((j : ℕ) (d : X) → j < at → before (entry (slice_index_or xs j d)).0 k ≡ true) → ((j : ℕ) (d : X) → at ≤ j → j < length xs → before (entry (slice_index_or xs j d)).0 k ≡ false) → found (map entry xs) ≡ partner_in (option_map entry (slice_get xs at))
  found-parted entry [] at rise low high = refl
  found-parted entry (x ∷ xs) zero rise low high = at_first (entry x) (map entry xs) (high 0 x (omega arith) (omega arith)) rise.0
  found-parted entry (x ∷ xs) (suc at) rise low high =
      ap (λ r. cond (is_eq r) (Some (entry x).1) (found (map entry xs))) (ordered_key.total-law.antisymm k (entry x).0)
      ∙ ap (λ b. cond b (Some (entry x).1) (found (map entry xs))) (other_back _ (low 0 x (omega arith)))
      ∙ found-parted entry xs at rise.1 (λ j d less. low (suc j) d (omega (arith, less))) (λ j d from less. high (suc j) d (omega (arith, from)) (omega (arith, less)))

  -- what stands where the entries with lesser keys end
  pub found-point : {X : Type 0} (entry : X → IndexEntry) (xs : List X) (at : ℕ) → AreSortedByKey (map entry xs) → (IsPartitionedBy (λ x. before (entry x).0 k) xs → IsPartitionPoint (λ x. before (entry x).0 k ≡ true) (λ x. before (entry x).0 k ≡ false) xs at) → found (map entry xs) ≡ partner_in (option_map entry (slice_get xs at))
  found-point entry xs at rise point = let parted = point (parted-rising entry xs rise) in found-parted entry xs at rise (λ j d. parted.0 j d (omega arith)) parted.1

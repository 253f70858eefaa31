-- the keys that writes name
use Rattle.std.proofs.Common.{◌≡◌, ◌⊎◌, inl, inr, ◌≤◌, List, [], ◌∷◌, ◌++◌, length, map, refl, sym, ap, ◌∙◌, subst, ⊎_elim, arith}
use Rattle.std.specs.BTreeSet.{insert_key}
use Rattle.std.specs.Cmp.{eq_by_cmp_equiv}
use Rattle.std.specs.List.{AllByRecursion}
use Rattle.std.specs.List.Sorted.{IsStrictlySortedBy}
use Rattle.std.specs.Ordering.{match_ordering, ordering_reverse}
use Rattle.std.specs.declared.cmp.Ordering.{Ordering}
use Rattle.std.specs.declared.cmp.Ordering.TheVariants.{Less, Equal, Greater}
use Rattle.swss_types.proofs.Tied.{tied}
use Rattle.table_schema.specs.Key.{key_cmp}
use Rattle.table_schema.specs.declared.key.Key.{Key}
use Rattle.table_schema.specs.declared.write.Sent.{Sent}
use Rattle.table_schema.proofs.Keys.{key_exact, key_total}
use Rattle.sai_types.specs.Alike.{IsIn}
use Rattle.switch_model.specs.Marks.{sent_writes, written_key}
use Rattle.registry_laws.proofs.Listing.{all_at}
use Rattle.machine_laws.proofs.Existing.{less_apart}
use Rattle.round_laws.specs.Named.{keys_named}

-- a key that was put is the new one or was there
pub in_put-or_there : (ks : List Key) (k q : Key) → IsIn q (insert_key key_cmp ks k) → (q ≡ k) ⊎ IsIn q ks
in_put-or_there [] k q there = there
in_put-or_there (x ∷ xs) k q there = by (key_cmp k x) (in_put-or_there xs k q) there
  where
    by : (o : Ordering) → (IsIn q (insert_key key_cmp xs k) → (q ≡ k) ⊎ IsIn q xs) → IsIn q (match_ordering o (k ∷ x ∷ xs) (x ∷ xs) (x ∷ insert_key key_cmp xs k)) → (q ≡ k) ⊎ IsIn q (x ∷ xs)
    by Less ih there = there
    by Equal ih there = inr there
    by Greater ih (inl is) = inr (inl is)
    by Greater ih (inr there) = ⊎_elim (λ is. inl is) (λ more. inr (inr more)) (ih there)

-- ---- lists of keys in order

all-put : (P : Key → Type 0) (ks : List Key) (k : Key) → AllByRecursion P ks → P k → AllByRecursion P (insert_key key_cmp ks k)
all-put P [] k all one = (one, tt)
all-put P (x ∷ xs) k (first, all) one = by (key_cmp k x) (all-put P xs k all one)
  where
    by : (o : Ordering) → AllByRecursion P (insert_key key_cmp xs k) → AllByRecursion P (match_ordering o (k ∷ x ∷ xs) (x ∷ xs) (x ∷ insert_key key_cmp xs k))
    by Less ih = (one, (first, all))
    by Equal ih = (first, all)
    by Greater ih = (first, ih)

all-map : (P Q : Key → Type 0) (ks : List Key) → ((k : Key) → P k → Q k) → AllByRecursion P ks → AllByRecursion Q ks
all-map P Q [] f all = tt
all-map P Q (x ∷ xs) f (one, all) = (f x one, all-map P Q xs f all)

greater_turned_less : (x y : Key) → key_cmp x y ≡ Greater → key_cmp y x ≡ Less
greater_turned_less x y is = key_total.antisymm y x ∙ ap ordering_reverse is

-- keys stay in order where one is put
sorted-put : (ks : List Key) (k : Key) → IsStrictlySortedBy key_cmp ks → IsStrictlySortedBy key_cmp (insert_key key_cmp ks k)
unfolding IsStrictlySortedBy
sorted-put [] k sorted = (tt, tt)
sorted-put (x ∷ xs) k (all, sorted) = by (key_cmp k x) refl (sorted-put xs k sorted)
  where
    by : (o : Ordering) → key_cmp k x ≡ o → IsStrictlySortedBy key_cmp (insert_key key_cmp xs k) → IsStrictlySortedBy key_cmp (match_ordering o (k ∷ x ∷ xs) (x ∷ xs) (x ∷ insert_key key_cmp xs k))
    by Less is ih = ((is, all-map (λ y. key_cmp x y ≡ Less) (λ y. key_cmp k y ≡ Less) xs (λ y less. key_total.trans k x y is less) all), (all, sorted))
    by Equal is ih = (all, sorted)
    by Greater is ih = (all-put (λ y. key_cmp x y ≡ Less) xs k all (greater_turned_less k x is), ih)

pub named-sorted : (sent : List Sent) → IsStrictlySortedBy key_cmp (keys_named sent)
unfolding IsStrictlySortedBy
named-sorted [] = tt
named-sorted (s ∷ more) = sorted-put (keys_named more) (written_key s.write) (named-sorted more)

pub key_self : (k : Key) → key_cmp k k ≡ Equal
key_self k = tied (key_cmp k k) ((eq_by_cmp_equiv key_total).refl k)

module _ (x y : Key) (xs ys : List Key) (x_least : AllByRecursion (λ q. key_cmp x q ≡ Less) xs) (y_least : AllByRecursion (λ q. key_cmp y q ≡ Less) ys) (among : (k : Key) → IsIn k (x ∷ xs) → IsIn k (y ∷ ys)) where
  -- where the first keys are the same, the others are among the others
  pub behind-same : x ≡ y → (k : Key) → IsIn k xs → IsIn k ys
  behind-same is k there = ⊎_elim (λ same. absurd (less_apart x k (all_at (λ q. key_cmp x q ≡ Less) xs k x_least there) (same ∙ sym is))) (λ more. more) (among k (inr there))

  -- where the first key is behind, all are among the others
  behind-less : IsIn x ys → (k : Key) → IsIn k (x ∷ xs) → IsIn k ys
  behind-less x_there k (inl is) = subst (λ q. IsIn q ys) (sym is) x_there
  behind-less x_there k (inr there) =
      ⊎_elim
      (λ same. absurd (less_apart y k (key_total.trans y x k (all_at (λ q. key_cmp y q ≡ Less) ys x y_least x_there) (all_at (λ q. key_cmp x q ≡ Less) xs k x_least there)) same))
      (λ more. more)
      (among k (inr there))

-- keys in order that are all among other keys in order are no more than those
pub few-among : (xs ys : List Key) → IsStrictlySortedBy key_cmp xs → IsStrictlySortedBy key_cmp ys → ((k : Key) → IsIn k xs → IsIn k ys) → length xs ≤ length ys
unfolding IsStrictlySortedBy
few-among [] ys xs_rise ys_rise among = omega arith
few-among (x ∷ xs) [] xs_rise ys_rise among = absurd (among x (inl refl))
few-among (x ∷ xs) (y ∷ ys) (x_least, xs_rise) (y_least, ys_rise) among =
    ⊎_elim
    (λ is. let few = few-among xs ys xs_rise ys_rise (behind-same x y xs ys x_least y_least among is) in omega (arith, few))
    (λ there. let few = few-among (x ∷ xs) ys (x_least, xs_rise) ys_rise (behind-less x y xs ys x_least y_least among there) in omega (arith, few))
    (among x (inl refl))

-- ---- the keys that writes name

in-put : (ks : List Key) (k q : Key) → IsIn q ks → IsIn q (insert_key key_cmp ks k)
in-put [] k q there = absurd there
in-put (x ∷ xs) k q there = by (key_cmp k x) (in-put xs k q) there
  where
    by : (o : Ordering) → (IsIn q xs → IsIn q (insert_key key_cmp xs k)) → IsIn q (x ∷ xs) → IsIn q (match_ordering o (k ∷ x ∷ xs) (x ∷ xs) (x ∷ insert_key key_cmp xs k))
    by Less ih there = inr there
    by Equal ih there = there
    by Greater ih (inl is) = inl is
    by Greater ih (inr there) = inr (ih there)

in-new : (ks : List Key) (k : Key) → IsIn k (insert_key key_cmp ks k)
in-new [] k = inl refl
in-new (x ∷ xs) k = by (key_cmp k x) refl (in-new xs k)
  where
    by : (o : Ordering) → key_cmp k x ≡ o → IsIn k (insert_key key_cmp xs k) → IsIn k (match_ordering o (k ∷ x ∷ xs) (x ∷ xs) (x ∷ insert_key key_cmp xs k))
    by Less is ih = inl refl
    by Equal is ih = inl (key_exact k x is)
    by Greater is ih = inr ih

pub named-front : (front back : List Sent) (k : Key) → IsIn k (keys_named front) → IsIn k (keys_named (front ++ back))
named-front [] back k there = absurd there
named-front (s ∷ front) back k there =
    ⊎_elim (λ is. subst (λ q. IsIn q (insert_key key_cmp (keys_named (front ++ back)) (written_key s.write))) (sym is) (in-new (keys_named (front ++ back)) (written_key s.write)))
    (λ more. in-put (keys_named (front ++ back)) (written_key s.write) k (named-front front back k more))
    (in_put-or_there (keys_named front) (written_key s.write) k there)

pub named-back : (front back : List Sent) (k : Key) → IsIn k (keys_named back) → IsIn k (keys_named (front ++ back))
named-back [] back k there = there
named-back (s ∷ front) back k there = in-put (keys_named (front ++ back)) (written_key s.write) k (named-back front back k there)

-- the key of a write is named
pub named-last : (front : List Sent) (s : Sent) → IsIn (written_key s.write) (keys_named (front ++ s ∷ []))
named-last front s = named-back front (s ∷ []) (written_key s.write) (in-new [] (written_key s.write))

-- each key is that of one of the writes
pub named-of : (sent : List Sent) (k : Key) → IsIn k (keys_named sent) → IsIn k (map written_key (sent_writes sent))
named-of [] k there = absurd there
named-of (s ∷ more) k there =
    ⊎_elim (λ is. inl is) (λ there. inr (named-of more k there)) (in_put-or_there (keys_named more) (written_key s.write) k there)

pub of-named : (sent : List Sent) (k : Key) → IsIn k (map written_key (sent_writes sent)) → IsIn k (keys_named sent)
of-named [] k there = absurd there
of-named (s ∷ more) k (inl is) = subst (λ q. IsIn q (keys_named (s ∷ more))) (sym is) (in-new (keys_named more) (written_key s.write))
of-named (s ∷ more) k (inr there) = in-put (keys_named more) (written_key s.write) k (of-named more k there)

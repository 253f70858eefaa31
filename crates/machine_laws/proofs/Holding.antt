-- the least of the rows that name a key, where there is one
use Rattle.std.proofs.Common.{◌≡◌, ◌⊎◌, ◌∷◌, ◌∙◌, inl, inr, true, List, [], Option, None, Some, Ordering, refl, sym, ap, subst}
use Rattle.std.proofs.lemmas.Bool.{false≢true}
use Rattle.std.specs.Cmp.{eq_by_cmp_equiv}
use Rattle.std.specs.Ordering.{is_le, ordering_reverse}
use Rattle.std.specs.declared.cmp.Ordering.TheVariants.{Less, Equal, Greater}
use Rattle.swss_types.proofs.Tied.{tied}
use Rattle.table_schema.specs.Key.{key_cmp}
use Rattle.table_schema.specs.Names.{names_of}
use Rattle.table_schema.specs.declared.key.Key.{Key}
use Rattle.table_schema.specs.declared.row.Row.{Row}
use Rattle.table_schema.proofs.Keys.{key_exact, key_total}
use Rattle.sai_types.specs.Alike.{IsIn}
use Rattle.switch_model.specs.Good.{TypedRows}
use Rattle.switch_model.specs.Marks.{IsHeldBy}
use Rattle.machine_laws.proofs.Deciding.{IsDecided}
use Rattle.machine_laws.proofs.Sharing.{key_listed_decided}

-- a key does not stand behind another
abbrev IsFirst : Key → Key → Type 0
IsFirst x y = is_le (key_cmp x y) ≡ true

first_self : (x : Key) → IsFirst x x
first_self x = ap is_le (tied (key_cmp x x) ((eq_by_cmp_equiv key_total).refl x))

first_through : (x y z : Key) → IsFirst x y → IsFirst y z → IsFirst x z
first_through x y z a b = by (key_cmp x y) refl a
  where
    next : (o : Ordering) → key_cmp x y ≡ Less → key_cmp y z ≡ o → is_le o ≡ true → IsFirst x z
    next Less less e h = ap is_le (key_total.trans x y z less e)
    next Equal less e h = subst (IsFirst x) (key_exact y z e) a
    next Greater less e h = absurd (false≢true h)

    by : (o : Ordering) → key_cmp x y ≡ o → is_le o ≡ true → IsFirst x z
    by Equal e h = subst (λ v. IsFirst v z) (sym (key_exact x y e)) b
    by Less e h = next (key_cmp y z) e refl b
    by Greater e h = absurd (false≢true h)

first_or : (x y : Key) → IsFirst x y ⊎ IsFirst y x
first_or x y = by (key_cmp x y) refl
  where
    by : (o : Ordering) → key_cmp x y ≡ o → IsFirst x y ⊎ IsFirst y x
    by Less e = inl (ap is_le e)
    by Equal e = inl (ap is_le e)
    by Greater e = inr (ap is_le (key_total.antisymm y x ∙ ap ordering_reverse e))

-- the least of some keys that are so
record Least (P : Key → Type 0) (xs : List Key) : Type 0 where
  key : Key
  so : P key
  first : (y : Key) → IsIn y xs → P y → IsFirst key y

least : (P : Key → Type 0) → ((x : Key) → IsDecided (P x)) → (xs : List Key) → Least P xs ⊎ ((y : Key) → IsIn y xs → P y → ⊥)
least P d [] = inr (λ y at p. elim at [ ])
least P d (x ∷ xs) = by (d x) (least P d xs)
  where
    none : (P x → ⊥) → ((y : Key) → IsIn y xs → P y → ⊥) → (y : Key) → IsIn y (x ∷ xs) → P y → ⊥
    none not rest y (inl e) p = not (subst P e p)
    none not rest y (inr at) p = rest y at p

    alone : ((y : Key) → IsIn y xs → P y → ⊥) → (y : Key) → IsIn y (x ∷ xs) → P y → IsFirst x y
    alone rest y (inl e) p = subst (IsFirst x) (sym e) (first_self x)
    alone rest y (inr at) p = absurd (rest y at p)

    later : (l : Least P xs) → ((P x → ⊥) ⊎ IsFirst l.key x) → (y : Key) → IsIn y (x ∷ xs) → P y → IsFirst l.key y
    later l (inl not) y (inl e) p = absurd (not (subst P e p))
    later l (inr first) y (inl e) p = subst (IsFirst l.key) (sym e) first
    later l _ y (inr at) p = l.first y at p

    here : (l : Least P xs) → IsFirst x l.key → (y : Key) → IsIn y (x ∷ xs) → P y → IsFirst x y
    here l first y (inl e) p = subst (IsFirst x) (sym e) (first_self x)
    here l first y (inr at) p = first_through x l.key y first (l.first y at p)

    both : P x → (l : Least P xs) → IsFirst x l.key ⊎ IsFirst l.key x → Least P (x ∷ xs)
    both p l (inl first) = record { key = x; so = p; first = here l first }
    both p l (inr first) = record { key = l.key; so = l.so; first = later l (inr first) }

    by : IsDecided (P x) → Least P xs ⊎ ((y : Key) → IsIn y xs → P y → ⊥) → Least P (x ∷ xs) ⊎ ((y : Key) → IsIn y (x ∷ xs) → P y → ⊥)
    by (inl p) (inl l) = inl (both p l (first_or x l.key))
    by (inl p) (inr rest) = inl (record { key = x; so = p; first = alone rest })
    by (inr not) (inl l) = inl (record { key = l.key; so = l.so; first = later l (inl not) })
    by (inr not) (inr rest) = inr (none not rest)

module _ (rows : TypedRows) (k : Key) where
  abbrev Holds : Key → Type 0
  Holds q = (r : Row) × (rows q ≡ Some r) × IsIn k (names_of q r)

  holds_or : (q : Key) → IsDecided (Holds q)
  holds_or q = by (rows q) refl
    where
      other : (r s : Row) → Some r ≡ Some s → r ≡ s
      other r s e = cc

      named : (r : Row) → rows q ≡ Some r → IsDecided (IsIn k (names_of q r)) → IsDecided (Holds q)
      named r e (inl h) = inl (r, e, h)
      named r e (inr out) = inr (λ h. out (subst (λ z. IsIn k (names_of q z)) (other h.0 r (sym h.1 ∙ e)) h.2))

      by : (o : Option Row) → rows q ≡ o → IsDecided (Holds q)
      by None e = inr (λ h. let never : None ≡ Some h.0 = sym e ∙ h.1 in cc)
      by (Some r) e = named r e (key_listed_decided k (names_of q r))

  -- where the keys of all rows are among these, a least row holds the key or none does
  pub held-or : (keys : List Key) → ((q : Key) (r : Row) → rows q ≡ Some r → IsIn q keys) → ((holder : Key) × IsHeldBy rows k holder) ⊎ ((q : Key) (r : Row) → rows q ≡ Some r → IsIn k (names_of q r) → ⊥)
  held-or keys all = by (least Holds holds_or keys)
    where
      by : Least Holds keys ⊎ ((y : Key) → IsIn y keys → Holds y → ⊥) → ((holder : Key) × IsHeldBy rows k holder) ⊎ ((q : Key) (r : Row) → rows q ≡ Some r → IsIn k (names_of q r) → ⊥)
      by (inl l) = inl (l.key, record { row = l.so.0; applied_row = l.so.1; names = l.so.2; least = λ other r at h. l.first other (all other r at) (r, at, h) })
      by (inr none) = inr (λ q r at h. none q (all q r at) (r, at, h))

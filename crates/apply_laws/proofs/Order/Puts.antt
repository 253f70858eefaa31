-- what maps that are put together pair by pair give
use Rattle.std.proofs.Common.{◌≡◌, ◌⊎◌, inl, inr, ℕ, Bool, true, false, cond, List, [], ◌∷◌, Option, None, Some, refl, sym, ap, ◌∙◌, subst}
use Rattle.std.specs.BTreeMap.{insert_entry, is_at}
use Rattle.std.specs.Cmp.{eq_by_cmp_equiv}
use Rattle.std.specs.Map.{lookup}
use Rattle.std.specs.Ordering.{nat_cmp}
use Rattle.std.proofs.lemmas.Cmp.{nat_cmp_total}
use Rattle.std.proofs.lemmas.Map.Lookups.{exact_unsigned}
use Rattle.std.proofs.lemmas.Map.Views.{tells_apart}
use Rattle.std.proofs.lemmas.Option.{same_Some}
use Rattle.swss_types.proofs.Maps.{lookup-insert_entry}
use Rattle.sai_types.specs.declared.ids.Rid.{Rid}
use Rattle.sai_types.specs.declared.ids.Vid.{Vid}
use Rattle.sai_types.specs.declared.body.Entry.{Entry}
use Rattle.sai_types.specs.declared.body.Entry.TheVariants as entry
use Rattle.sai_types.specs.declared.body.Object.{Object}
use Rattle.sai_types.specs.Alike.{IsIn}
use Rattle.std.specs.List.{slice_get}
use Rattle.apply_order.specs.Naming.{OldIds, names_from, with_entries, with_objects}
use Rattle.apply_order.specs.Places.{Places, by_new, by_old, partner_at, with_new, with_old}

-- ---- entries put for items

module _ {P X : Type 0} (f : P → Option (ℕ × X)) where
  abbrev pub put_one : List (ℕ × X) → Option (ℕ × X) → List (ℕ × X)
  put_one es None = es
  put_one es (Some x) = insert_entry nat_cmp es x.0 x.1

  abbrev pub puts : List (ℕ × X) → List P → List (ℕ × X)
  puts es [] = es
  puts es (p ∷ ps) = puts (put_one es (f p)) ps

  abbrev At : List (ℕ × X) → ℕ → Option X
  At es j = lookup (is_at (nat_cmp j)) es

  -- an item gives this entry
  pub record IsGiven (ps : List P) (j : ℕ) (x : X) : Type 0 where
    pub item : P
    pub among : IsIn item ps
    pub gives : f item ≡ Some (j, x)

  same_number : (j k : ℕ) → is_at (nat_cmp j) k ≡ true → j ≡ k
  same_number j k h = tells_apart exact_unsigned j k h

  self : (j : ℕ) → is_at (nat_cmp j) j ≡ true
  self j = (eq_by_cmp_equiv nat_cmp_total).refl j

  put_from : (es : List (ℕ × X)) (o : Option (ℕ × X)) (j : ℕ) (x : X) → At (put_one es o) j ≡ Some x → (o ≡ Some (j, x)) ⊎ (At es j ≡ Some x)
  put_from es None j x h = inr h
  put_from es (Some y) j x h = by (is_at (nat_cmp j) y.0) refl (sym (lookup-insert_entry nat_cmp nat_cmp_total es y.0 y.1 j) ∙ h)
    where
      by : (b : Bool) → is_at (nat_cmp j) y.0 ≡ b → cond b (Some y.1) (At es j) ≡ Some x → (Some y ≡ Some (j, x)) ⊎ (At es j ≡ Some x)
      by true e is =
          let number : j ≡ y.0 = same_number j y.0 e in
          let value : y.1 ≡ x = cc in
          let pair : ℕ → X → ℕ × X = λ a b. (a, b) in
          inl (ap Some (ap (λ a. pair a y.1) (sym number) ∙ ap (pair j) value))
      by false e is = inr is

  put_same : (es : List (ℕ × X)) (j : ℕ) (x : X) → At (put_one es (Some (j, x))) j ≡ Some x
  put_same es j x = lookup-insert_entry nat_cmp nat_cmp_total es j x j ∙ ap (λ b. cond b (Some x) (At es j)) (self j)

  put_kept : (es : List (ℕ × X)) (o : Option (ℕ × X)) (j : ℕ) (x : X) → ((y : X) → o ≡ Some (j, y) → y ≡ x) → At es j ≡ Some x → At (put_one es o) j ≡ Some x
  put_kept es None j x only h = h
  put_kept es (Some y) j x only h = lookup-insert_entry nat_cmp nat_cmp_total es y.0 y.1 j ∙ by (is_at (nat_cmp j) y.0) refl
    where
      by : (b : Bool) → is_at (nat_cmp j) y.0 ≡ b → cond b (Some y.1) (At es j) ≡ Some x
      by true e =
          let number : j ≡ y.0 = same_number j y.0 e in
          let pair : ℕ → X → ℕ × X = λ a b. (a, b) in
          ap Some (only y.1 (ap Some (ap (λ a. pair a y.1) (sym number))))
      by false e = h

  -- what is found is given by an item
  pub puts-from : (ps : List P) (es : List (ℕ × X)) (j : ℕ) (x : X) → At (puts es ps) j ≡ Some x → IsGiven ps j x ⊎ (At es j ≡ Some x)
  puts-from [] es j x h = inr h
  puts-from (p ∷ ps) es j x h =
      elim (puts-from ps (put_one es (f p)) j x h) [
        | inl g ↦ inl (record { item = g.item; among = inr g.among; gives = g.gives })
        | inr k ↦ elim (put_from es (f p) j x k) [
          | inl now ↦ inl (record { item = p; among = inl refl; gives = now })
          | inr before ↦ inr before
        ]
      ]

  -- and what items give, none of which gives another there, is found
  pub puts-to : (ps : List P) (es : List (ℕ × X)) (j : ℕ) (x : X) → ((q : P) (y : X) → IsIn q ps → f q ≡ Some (j, y) → y ≡ x) → IsGiven ps j x ⊎ (At es j ≡ Some x) → At (puts es ps) j ≡ Some x
  puts-to [] es j x only (inl g) = elim g.among [ ]
  puts-to [] es j x only (inr h) = h
  puts-to (p ∷ ps) es j x only (inr h) = puts-to ps (put_one es (f p)) j x (λ q y i. only q y (inr i)) (inr (put_kept es (f p) j x (λ y. only p y (inl refl)) h))
  puts-to (p ∷ ps) es j x only (inl g) =
      elim g.among [
        | inl is ↦ puts-to ps (put_one es (f p)) j x (λ q y i. only q y (inr i)) (inr (ap (λ o. At (put_one es o) j) (ap f (sym is) ∙ g.gives) ∙ put_same es j x))
        | inr i ↦ puts-to ps (put_one es (f p)) j x (λ q y i. only q y (inr i)) (inl (record { item = g.item; among = i; gives = g.gives }))
      ]

-- ---- places

abbrev pub new_pair : ℕ × ℕ → Option (ℕ × ℕ)
new_pair p = Some (p.1, p.0)

abbrev pub old_pair : ℕ × ℕ → Option (ℕ × ℕ)
old_pair p = Some (p.0, p.1)

new_puts : (places : Places) (ps : List (ℕ × ℕ)) → with_new places ps ≡ puts new_pair places ps
new_puts places [] = refl
new_puts places (p ∷ ps) = new_puts (insert_entry nat_cmp places p.1 p.0) ps

old_puts : (places : Places) (ps : List (ℕ × ℕ)) → with_old places ps ≡ puts old_pair places ps
old_puts places [] = refl
old_puts places (p ∷ ps) = old_puts (insert_entry nat_cmp places p.0 p.1) ps

parts : (p : ℕ × ℕ) (i j : ℕ) → p.0 ≡ i → p.1 ≡ j → p ≡ (i, j)
parts p i j a b = let pair : ℕ → ℕ → ℕ × ℕ = λ m n. (m, n) in ap (λ m. pair m p.1) a ∙ ap (pair i) b

module _ (pairs : List (ℕ × ℕ)) where
  pub new-from : (i j : ℕ) → partner_at (by_new pairs) j ≡ Some i → IsIn (i, j) pairs
  new-from i j h =
      elim (puts-from new_pair pairs [] j i (ap (λ es. partner_at es j) (sym (new_puts [] pairs)) ∙ h)) [
        | inl g ↦
            let gives = same_Some (g.item.1, g.item.0) (j, i) g.gives in
            subst (λ p. IsIn p pairs) (parts g.item i j (ap (λ (q : ℕ × ℕ). q.1) gives) (ap (λ (q : ℕ × ℕ). q.0) gives)) g.among
        | inr none ↦ absurd cc
      ]

  pub new-to : ((h i j : ℕ) → IsIn (h, j) pairs → IsIn (i, j) pairs → h ≡ i) → (i j : ℕ) → IsIn (i, j) pairs → partner_at (by_new pairs) j ≡ Some i
  new-to one i j h =
      ap (λ es. partner_at es j) (new_puts [] pairs)
      ∙ puts-to new_pair pairs [] j i (λ q y k is.
      let gives = same_Some (q.1, q.0) (j, y) is in
      one y i j (subst (λ p. IsIn p pairs) (parts q y j (ap (λ (z : ℕ × ℕ). z.1) gives) (ap (λ (z : ℕ × ℕ). z.0) gives)) k) h) (inl (record { item = (i, j); among = h; gives = refl }))

  pub old-from : (i j : ℕ) → partner_at (by_old pairs) i ≡ Some j → IsIn (i, j) pairs
  old-from i j h =
      elim (puts-from old_pair pairs [] i j (ap (λ es. partner_at es i) (sym (old_puts [] pairs)) ∙ h)) [
        | inl g ↦
            let gives = same_Some (g.item.0, g.item.1) (i, j) g.gives in
            subst (λ p. IsIn p pairs) (parts g.item i j (ap (λ (q : ℕ × ℕ). q.0) gives) (ap (λ (q : ℕ × ℕ). q.1) gives)) g.among
        | inr none ↦ absurd cc
      ]

  pub old-to : ((i j k : ℕ) → IsIn (i, j) pairs → IsIn (i, k) pairs → j ≡ k) → (i j : ℕ) → IsIn (i, j) pairs → partner_at (by_old pairs) i ≡ Some j
  old-to one i j h =
      ap (λ es. partner_at es i) (old_puts [] pairs)
      ∙ puts-to old_pair pairs [] i j (λ q y k is.
      let gives = same_Some (q.0, q.1) (i, y) is in
      one i y j (subst (λ p. IsIn p pairs) (parts q i y (ap (λ (z : ℕ × ℕ). z.0) gives) (ap (λ (z : ℕ × ℕ). z.1) gives)) k) h) (inl (record { item = (i, j); among = h; gives = refl }))

-- ---- names

abbrev pub entry_pair : Entry Rid → Entry Vid → Option (ℕ × Rid)
entry_pair (entry.Oid r) (entry.Oid v) = Some (v.0, r)
entry_pair e f = None

abbrev pub object_pair : Option (Object Rid) → Option (Object Vid) → Option (ℕ × Rid)
object_pair (Some o) (Some n) = entry_pair o.entry n.entry
object_pair _ _ = None

module _ (old : List (Object Rid)) (new : List (Object Vid)) where
  abbrev pub name_pair : ℕ × ℕ → Option (ℕ × Rid)
  name_pair p = object_pair (slice_get old p.0) (slice_get new p.1)

  entries_put : (names : OldIds) (e : Entry Rid) (f : Entry Vid) → with_entries names e f ≡ put_one name_pair names (entry_pair e f)
  entries_put names (entry.Oid r) (entry.Oid v) = refl
  entries_put names (entry.Oid r) (entry.Own w ip) = refl
  entries_put names (entry.Oid r) (entry.Neigh w ip) = refl
  entries_put names (entry.Oid r) (entry.Route w p) = refl
  entries_put names (entry.Own w ip) f = refl
  entries_put names (entry.Neigh w ip) f = refl
  entries_put names (entry.Route w p) f = refl

  objects_put : (names : OldIds) (o : Option (Object Rid)) (n : Option (Object Vid)) → with_objects names o n ≡ put_one name_pair names (object_pair o n)
  objects_put names (Some o) (Some n) = entries_put names o.entry n.entry
  objects_put names (Some o) None = refl
  objects_put names None n = refl

  names_put : (names : OldIds) (ps : List (ℕ × ℕ)) → names_from names old new ps ≡ puts name_pair names ps
  names_put names [] = refl
  names_put names (p ∷ ps) =
      ap (λ es. names_from es old new ps) (objects_put names (slice_get old p.0) (slice_get new p.1))
      ∙ names_put (put_one name_pair names (name_pair p)) ps

  -- a pair of objects with these identifiers
  pub record IsNamed (pairs : List (ℕ × ℕ)) (v : Vid) (r : Rid) : Type 0 where
    pub one : Object Rid
    pub other : Object Vid
    pub i : ℕ
    pub j : ℕ
    pub among : IsIn (i, j) pairs
    pub one_at : slice_get old i ≡ Some one
    pub other_at : slice_get new j ≡ Some other
    pub one_is : one.entry ≡ entry.Oid r
    pub other_is : other.entry ≡ entry.Oid v

  entry_parts : (e : Entry Rid) (f : Entry Vid) (n : ℕ) (r : Rid) → entry_pair e f ≡ Some (n, r) → (e ≡ entry.Oid r) × (f ≡ entry.Oid (record { 0 = n }))
  entry_parts (entry.Oid s) (entry.Oid v) n r h =
      let gives = same_Some (v.0, s) (n, r) h in
      let one : s ≡ r = ap (λ (z : ℕ × Rid). z.1) gives in
      let two : v.0 ≡ n = ap (λ (z : ℕ × Rid). z.0) gives in
      let vid : ℕ → Vid = λ m. record { 0 = m } in
      (ap entry.Oid one, ap entry.Oid (ap vid two))
  entry_parts (entry.Oid s) (entry.Own w ip) n r h = absurd cc
  entry_parts (entry.Oid s) (entry.Neigh w ip) n r h = absurd cc
  entry_parts (entry.Oid s) (entry.Route w p) n r h = absurd cc
  entry_parts (entry.Own w ip) f n r h = absurd cc
  entry_parts (entry.Neigh w ip) f n r h = absurd cc
  entry_parts (entry.Route w p) f n r h = absurd cc

  named_by : (pairs : List (ℕ × ℕ)) (p : ℕ × ℕ) (o : Option (Object Rid)) (m : Option (Object Vid)) (v : Vid) (r : Rid) → IsIn p pairs → slice_get old p.0 ≡ o → slice_get new p.1 ≡ m → object_pair o m ≡ Some (v.0, r) → IsNamed pairs v r
  named_by pairs p (Some o) (Some m) v r k a b h = let e = entry_parts o.entry m.entry v.0 r h in record { one = o; other = m; i = p.0; j = p.1; among = k; one_at = a; other_at = b; one_is = e.0; other_is = e.1 }
  named_by pairs p (Some o) None v r k a b h = absurd cc
  named_by pairs p None m v r k a b h = absurd cc

  -- the old identifier that a new one comes to is that of its partner
  pub names-from : (pairs : List (ℕ × ℕ)) (v : Vid) (r : Rid) → lookup (is_at (nat_cmp v.0)) (names_from [] old new pairs) ≡ Some r → IsNamed pairs v r
  names-from pairs v r h =
      elim (puts-from name_pair pairs [] v.0 r (ap (λ es. lookup (is_at (nat_cmp v.0)) es) (sym (names_put [] pairs)) ∙ h)) [
        | inl g ↦ named_by pairs g.item (slice_get old g.item.0) (slice_get new g.item.1) v r g.among refl refl g.gives
        | inr none ↦ absurd cc
      ]

  pub names-to : (pairs : List (ℕ × ℕ)) (v : Vid) (r : Rid) → ((s : Rid) → IsNamed pairs v s → s ≡ r) → IsNamed pairs v r → lookup (is_at (nat_cmp v.0)) (names_from [] old new pairs) ≡ Some r
  names-to pairs v r one x =
      ap (λ es. lookup (is_at (nat_cmp v.0)) es) (names_put [] pairs)
      ∙ puts-to name_pair pairs [] v.0 r (λ q s k is. one s (named_by pairs q (slice_get old q.0) (slice_get new q.1) v s k refl refl is)) (inl (record { item = (x.i, x.j); among = x.among; gives = both_are }))
    where
      both_are : object_pair (slice_get old x.i) (slice_get new x.j) ≡ Some (v.0, r)
      both_are = ap (λ o. object_pair o (slice_get new x.j)) x.one_at ∙ ap (object_pair (Some x.one)) x.other_at ∙ ap (λ e. entry_pair e x.other.entry) x.one_is ∙ ap (entry_pair (entry.Oid r)) x.other_is

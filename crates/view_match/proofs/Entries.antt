-- the entries of objects: which they are, and that the first of a key in order is the partner of it
use Rattle.std.proofs.Common.{◌≡◌, ◌⊎◌, inl, inr, ℕ, zero, suc, ◌+◌, ◌<◌, ◌≤◌, false, List, [], ◌∷◌, length, Option, None, Some, option_map, refl, sym, ap, ap₂, ◌∙◌, subst, arith, IsPermutation}
use Rattle.std.specs.List.{slice_get}
use Rattle.std.specs.Ordering.{is_lt}
use Rattle.sai_types.specs.declared.ids.Rid.{Rid}
use Rattle.sai_types.specs.declared.body.Body.{Body}
use Rattle.sai_types.specs.declared.body.Entry.{Entry}
use Rattle.sai_types.specs.Alike.{IsIn}
use Rattle.sai_types.specs.Objects.{Objects}
use Rattle.view_match.specs.declared.indexed.Partner.{Partner}
use Rattle.view_match.specs.declared.key.NaturalKey.{NaturalKey}
use Rattle.view_match.specs.Indexed.{AreStrictlySortedByKey, entries_from, with_entry}
use Rattle.view_match.specs.Near.{AreFound}
use Rattle.view_match.specs.Pairs.{best_from, group_number, group_of}
use Rattle.view_match.proofs.Best.{best, found-none}
use Rattle.view_match.proofs.Rising.{AreInOrder, IsLeast, apart-found, least-found, found, no_less, none-found, partner_cmp}
use Rattle.view_match.proofs.Shuffled.{in-shuffled, shuffled-in}

-- an entry is of one of the objects from a place on
record IsEntryOf (keys : List (Option NaturalKey)) (os : Objects) (place : ℕ) (k : NaturalKey) (p : Partner) : Type 0 where
  far : ℕ
  key : slice_get keys far ≡ Some (Some k)
  at : p.place ≡ place + far
  group : p.group ≡ group_of (slice_get os far)

further : (key : Option NaturalKey) (keys : List (Option NaturalKey)) (o : Entry Rid × Body Rid) (os : Objects) (place : ℕ) (k : NaturalKey) (p : Partner) → IsEntryOf keys os (place + 1) k p → IsEntryOf (key ∷ keys) (o ∷ os) place k p
further key keys o os place k p x = let at = x.at in record { far = suc x.far; key = x.key; at = omega (arith, at); group = x.group }

entry_of : (keys : List (Option NaturalKey)) (os : Objects) (place : ℕ) (k : NaturalKey) (p : Partner) → IsIn (k, p) (entries_from keys os place) → IsEntryOf keys os place k p
entry_of [] os place k p i = absurd i
entry_of (key ∷ keys) [] place k p i = absurd i
entry_of (key ∷ keys) (o ∷ os) place k p i = by key i (entry_of keys os (place + 1) k p)
  where
    here : Partner
    here = record { group = group_number o; place = place }

    by : (key : Option NaturalKey) → IsIn (k, p) (with_entry key here (entries_from keys os (place + 1))) → (IsIn (k, p) (entries_from keys os (place + 1)) → IsEntryOf keys os (place + 1) k p) → IsEntryOf (key ∷ keys) (o ∷ os) place k p
    by None i rest = further None keys o os place k p (rest i)
    by (Some l) (inr i) rest = further (Some l) keys o os place k p (rest i)
    by (Some l) (inl is) rest =
        let at : p.place ≡ place = ap (λ (e : NaturalKey × Partner). e.1.place) is in
        record { far = 0; key = ap (λ (e : NaturalKey × Partner). Some (Some e.0)) (sym is); at = omega (arith, at); group = ap (λ (e : NaturalKey × Partner). e.1.group) is }

behind : (key : Option NaturalKey) (p : Partner) (es : List (NaturalKey × Partner)) (e : NaturalKey × Partner) → IsIn e es → IsIn e (with_entry key p es)
behind None p es e i = i
behind (Some k) p es e i = inr i

of_entry : (keys : List (Option NaturalKey)) (os : Objects) (place far : ℕ) (k : NaturalKey) → length keys ≡ length os → slice_get keys far ≡ Some (Some k) → IsIn (k, record { group = group_of (slice_get os far); place = place + far }) (entries_from keys os place)
of_entry [] os place far k long h = absurd cc
of_entry (key ∷ keys) [] place far k long h = absurd cc
of_entry (key ∷ keys) (o ∷ os) place zero k long h =
    let is : key ≡ Some k = cc in
    let none_more : place + 0 ≡ place = omega arith in
    subst (λ x. IsIn (k, record { group = group_number o; place = place + 0 }) (with_entry x (record { group = group_number o; place = place }) (entries_from keys os (place + 1)))) (sym is) (inl (ap (λ n. (k, record { group = group_number o; place = n })) none_more))
of_entry (key ∷ keys) (o ∷ os) place (suc far) k long h =
    let next : place + 1 + far ≡ place + suc far = omega arith in
    let same : length keys ≡ length os = cc in
    behind key _ _ _ (subst (λ n. IsIn (k, record { group = group_of (slice_get os far); place = n }) (entries_from keys os (place + 1))) next (of_entry keys os (place + 1) far k same h))

module _ (keys : List (Option NaturalKey)) (os : Objects) (long : length keys ≡ length os) (es : List (NaturalKey × Partner)) (same : IsPermutation (entries_from keys os 0) es) where
  from_none : (n : ℕ) → 0 + n ≡ n
  from_none n = omega arith

  -- each object with a key stands in the list
  stands : (n : ℕ) (k : NaturalKey) → slice_get keys n ≡ Some (Some k) → IsIn (k, record { group = group_of (slice_get os n); place = n }) es
  stands n k h = shuffled-in _ es same _ (subst (λ m. IsIn (k, record { group = group_of (slice_get os n); place = m }) (entries_from keys os 0)) (from_none n) (of_entry keys os 0 n k long h))

  pub found-apart : AreStrictlySortedByKey es → AreFound keys es (length keys)
  found-apart apart i k within h = ap (option_map (λ (p : Partner). p.place)) (apart-found k es _ apart (stands i k h))

  module _ (k : NaturalKey) (order : AreInOrder es) where
    one_partner : (p q : Partner) → is_lt (partner_cmp q p) ≡ false → (q.group < p.group) ⊎ ((q.group ≡ p.group) × (q.place ≤ p.place)) → p ≡ q
    one_partner p q h less = by (no_less q.group p.group q.place p.place h) less
      where
        by : (p.group < q.group) ⊎ ((q.group ≡ p.group) × (p.place ≤ q.place)) → (q.group < p.group) ⊎ ((q.group ≡ p.group) × (q.place ≤ p.place)) → p ≡ q
        by (inl a) (inl b) = absurd (omega (arith, a, b))
        by (inl a) (inr b) = let same = b.0 in absurd (omega (arith, a, same))
        by (inr a) (inl b) = let same = a.0 in absurd (omega (arith, b, same))
        by (inr a) (inr b) =
            let one = a.1 in
            let two = b.1 in
            let place : p.place ≡ q.place = omega (arith, one, two) in
            ap₂ (λ g n. record { group = g; place = n }) (sym a.0) place

    best_stands : (q : Partner) → best_from None keys os k 0 ≡ Some q → IsIn (k, q) es
    best_stands q f = elim (best k None keys os 0 q long (λ f h. absurd cc) f).origin [
      | inl none ↦ absurd cc
      | inr x ↦
          let whole : (record { group = group_of (slice_get os x.0); place = x.0 }) ≡ q = ap₂ (λ g n. record { group = g; place = n }) (sym x.3) (sym (x.1 ∙ from_none x.0)) in
          subst (λ y. IsIn (k, y) es) whole (stands x.0 k x.2)
    ]

    best_least : (p q : Partner) → IsIn (k, p) es → best_from None keys os k 0 ≡ Some q → (q.group < p.group) ⊎ ((q.group ≡ p.group) × (q.place ≤ p.place))
    best_least p q i f =
        let own = entry_of keys os 0 k p (in-shuffled _ es same (k, p) i) in
        elim ((best k None keys os 0 q long (λ f h. absurd cc) f).below own.far own.key) [
          | inl less ↦ inl (subst (λ g. q.group < g) (sym own.group) less)
          | inr x ↦ inr (x.0 ∙ sym own.group, subst (λ n. q.place ≤ n) (sym own.at) x.1)
        ]

    least_is : (p q : Partner) → IsLeast k es p → best_from None keys os k 0 ≡ Some q → p ≡ q
    least_is p q x f = one_partner p q (x.least q (best_stands q f)) (best_least p q x.has f)

    pub found-best : found k es ≡ best_from None keys os k 0
    found-best = by (found k es) (best_from None keys os k 0) refl refl
      where
        by : (o b : Option Partner) → found k es ≡ o → best_from None keys os k 0 ≡ b → o ≡ b
        by None None e f = refl
        by (Some p) (Some q) e f = ap Some (least_is p q (least-found k es p order e) f)
        by None (Some q) e f = absurd (none-found k es q e (best_stands q f))
        by (Some p) None e f =
            let own = entry_of keys os 0 k p (in-shuffled _ es same (k, p) (least-found k es p order e).has) in
            absurd (found-none k None keys os 0 long f own.far own.key)

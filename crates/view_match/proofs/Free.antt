-- no place stands in two pairs
use Rattle.std.proofs.Common.{◌≡◌, ◌≢◌, ◌⊎◌, inl, inr, ℕ, ◌+◌, ◌<◌, ◌≤◌, Bool, true, false, cond, List, [], ◌∷◌, ◌++◌, Option, None, Some, refl, sym, ap, ◌∙◌, subst, arith}
use Rattle.std.specs.BTreeMap.{is_at}
use Rattle.std.proofs.lemmas.List.{append_assoc}
use Rattle.std.proofs.lemmas.Map.Views.{tells_apart}
use Rattle.swss_types.proofs.Proper.{mapped}
use Rattle.sai_types.specs.Alike.{IsIn}
use Rattle.sai_types.specs.Named.{those}
use Rattle.sai_types.specs.Objects.{Objects}
use Rattle.sai_types.specs.Pairing.{IsFreePair}
use Rattle.chip_layout.specs.Counted.{AreDistinct}
use Rattle.view_match.specs.declared.indexed.Partner.{Partner}
use Rattle.view_match.specs.declared.key.NaturalKey.{NaturalKey}
use Rattle.view_match.specs.Keys.{natural_key_cmp, keys_of_objects}
use Rattle.view_match.specs.Pairs.{best_from, group_number, pairs_from, partner_of, replaces, with_object, with_pair_at}
use Rattle.view_match.proofs.Exact.{natural_key_exact}

-- ---- the partner of a key has that key

-- a place has this key, counted from the first one
abbrev pub IsAt : List (Option NaturalKey) → ℕ → ℕ → NaturalKey → Type 0
IsAt [] first place k = ⊥
IsAt (key ∷ keys) first place k = ((place ≡ first) × (key ≡ Some k)) ⊎ IsAt keys (first + 1) place k

at_least : (keys : List (Option NaturalKey)) (first place : ℕ) (k : NaturalKey) → IsAt keys first place k → first ≤ place
at_least [] first place k h = absurd h
at_least (key ∷ keys) first place k (inl h) = let is = h.0 in omega (arith, is)
at_least (key ∷ keys) first place k (inr h) = let rest = at_least keys (first + 1) place k h in omega (arith, rest)

-- a place has one key
one_key : (keys : List (Option NaturalKey)) (first place : ℕ) (k l : NaturalKey) → IsAt keys first place k → IsAt keys first place l → k ≡ l
one_key [] first place k l h i = absurd h
one_key (key ∷ keys) first place k l (inl h) (inl i) = let one = h.1 in let two = i.1 in cc
one_key (key ∷ keys) first place k l (inl h) (inr i) = let is = h.0 in let rest = at_least keys (first + 1) place l i in absurd (omega (arith, is, rest))
one_key (key ∷ keys) first place k l (inr h) (inl i) = let is = i.0 in let rest = at_least keys (first + 1) place k h in absurd (omega (arith, is, rest))
one_key (key ∷ keys) first place k l (inr h) (inr i) = one_key keys (first + 1) place k l h i

partner_chosen : (b : Bool) (found : Option Partner) (p q : Partner) → cond b (Some p) found ≡ Some q → (found ≡ Some q) ⊎ (p ≡ q)
partner_chosen true found p q h = inr cc
partner_chosen false found p q h = inl h

matched : (b : Bool) (key k : NaturalKey) (found : Option Partner) (p q : Partner) → is_at (natural_key_cmp key) k ≡ b → cond b (cond (replaces found p) (Some p) found) found ≡ Some q → (found ≡ Some q) ⊎ ((key ≡ k) × (p ≡ q))
matched true key k found p q e h = elim (partner_chosen (replaces found p) found p q h) [ inl x ↦ inl x | inr y ↦ inr (tells_apart natural_key_exact key k e, y) ]
matched false key k found p q e h = inl h

put_or_found : (found : Option Partner) (key : Option NaturalKey) (p q : Partner) (k : NaturalKey) → with_object found key p k ≡ Some q → (found ≡ Some q) ⊎ ((key ≡ Some k) × (p ≡ q))
put_or_found found None p q k h = inl h
put_or_found found (Some key) p q k h = elim (matched (is_at (natural_key_cmp key) k) key k found p q refl h) [ inl x ↦ inl x | inr y ↦ inr (ap Some y.0, y.1) ]

best_at : (found : Option Partner) (keys : List (Option NaturalKey)) (os : Objects) (k : NaturalKey) (place : ℕ) (q : Partner) → best_from found keys os k place ≡ Some q → (found ≡ Some q) ⊎ IsAt keys place q.place k
best_at found [] os k place q h = inl h
best_at found (key ∷ keys) [] k place q h = inl h
best_at found (key ∷ keys) (o ∷ os) k place q h =
    let p : Partner = record { group = group_number o; place = place } in
    elim (best_at (with_object found key p k) keys os k (place + 1) q h) [
      | inr later ↦ inr (inr later)
      | inl now ↦ elim (put_or_found found key p q k now) [
        | inl before ↦ inl before
        | inr here ↦ inr (inl (sym (ap (λ (r : Partner). r.place) here.1), here.0))
      ]
    ]

partner_at : (objects : Objects) (k : NaturalKey) (i : ℕ) → partner_of objects (Some k) ≡ Some i → IsAt (keys_of_objects objects) 0 i k
partner_at objects k i h =
    let m = mapped (λ (p : Partner). p.place) (best_from None (keys_of_objects objects) objects k 0) i h in
    elim (best_at None (keys_of_objects objects) objects k 0 m.0 m.1) [
      | inl none ↦ absurd cc
      | inr at ↦ subst (λ j. IsAt (keys_of_objects objects) 0 j k) m.2 at
    ]

-- two keys with one partner are one key
pub one-partner : (objects : Objects) (k l : NaturalKey) (i : ℕ) → partner_of objects (Some k) ≡ Some i → partner_of objects (Some l) ≡ Some i → k ≡ l
one-partner objects k l i h j = one_key (keys_of_objects objects) 0 i k l (partner_at objects k i h) (partner_at objects l i j)

-- ---- the pairs

-- a pair's new place is at this or a later one, and its old place is the partner of one of the keys
record IsPairOf (objects : Objects) (keys : List (Option NaturalKey)) (place : ℕ) (p : ℕ × ℕ) : Type 0 where
  later : place ≤ p.1
  key : NaturalKey
  among : IsIn key (those keys)
  partner : partner_of objects (Some key) ≡ Some p.0

further : (objects : Objects) (key : Option NaturalKey) (keys : List (Option NaturalKey)) (place : ℕ) (p : ℕ × ℕ) → IsPairOf objects keys (place + 1) p → IsPairOf objects (key ∷ keys) place p
further objects None keys place p h = let l = h.later in record { later = omega (arith, l); key = h.key; among = h.among; partner = h.partner }
further objects (Some k) keys place p h = let l = h.later in record { later = omega (arith, l); key = h.key; among = inr h.among; partner = h.partner }

pair_by : (objects : Objects) (key : Option NaturalKey) (keys : List (Option NaturalKey)) (place : ℕ) (o : Option ℕ) (p : ℕ × ℕ) → partner_of objects key ≡ o → (IsIn p (pairs_from objects keys (place + 1)) → IsPairOf objects keys (place + 1) p) → IsIn p (with_pair_at o place (pairs_from objects keys (place + 1))) → IsPairOf objects (key ∷ keys) place p
pair_by objects key keys place None p e rest h = further objects key keys place p (rest h)
pair_by objects key keys place (Some i) p e rest (inr h) = further objects key keys place p (rest h)
pair_by objects None keys place (Some i) p e rest (inl h) = absurd cc
pair_by objects (Some k) keys place (Some i) p e rest (inl h) = record { later = subst (λ (q : ℕ × ℕ). place ≤ q.1) (sym h) (omega arith); key = k; among = inl refl; partner = e ∙ ap (λ (q : ℕ × ℕ). Some q.0) (sym h) }

pair_of : (objects : Objects) (keys : List (Option NaturalKey)) (place : ℕ) (p : ℕ × ℕ) → IsIn p (pairs_from objects keys place) → IsPairOf objects keys place p
pair_of objects [] place p h = absurd h
pair_of objects (key ∷ keys) place p h = pair_by objects key keys place (partner_of objects key) p refl (pair_of objects keys (place + 1) p) h

-- a pair and those behind it have no place in common
abbrev pub AreFree : List (ℕ × ℕ) → Type 0
AreFree [] = Unit {0}
AreFree (p ∷ ps) = ((q : ℕ × ℕ) → IsIn q ps → (p.0 ≢ q.0) × (p.1 ≢ q.1)) × AreFree ps

pub rest_distinct : (k : Option NaturalKey) (keys : List (Option NaturalKey)) → AreDistinct (those (k ∷ keys)) → AreDistinct (those keys)
rest_distinct None keys h = h
rest_distinct (Some k) keys h = h.1

free_by : (objects : Objects) (key : Option NaturalKey) (keys : List (Option NaturalKey)) (place : ℕ) (o : Option ℕ) → partner_of objects key ≡ o → AreDistinct (those (key ∷ keys)) → AreFree (pairs_from objects keys (place + 1)) → AreFree (with_pair_at o place (pairs_from objects keys (place + 1)))
free_by objects key keys place None e apart rest = rest
free_by objects None keys place (Some i) e apart rest = absurd cc
free_by objects (Some k) keys place (Some i) e apart rest = (
  λ q h.
      let x = pair_of objects keys (place + 1) q h in
      let l = x.later in
      (λ same. apart.0 (subst (λ z. IsIn z (those keys)) (one-partner objects x.key k q.0 x.partner (e ∙ ap Some same)) x.among), λ same. omega (arith, l, same)),
  rest,
)

pub pairs-free : (objects : Objects) (keys : List (Option NaturalKey)) (place : ℕ) → AreDistinct (those keys) → AreFree (pairs_from objects keys place)
pairs-free objects [] place apart = tt
pairs-free objects (key ∷ keys) place apart = free_by objects key keys place (partner_of objects key) refl apart (pairs-free objects keys (place + 1) (rest_distinct key keys apart))

-- so a pair has no place of those before it
pub free-before : (front rest : List (ℕ × ℕ)) (p : ℕ × ℕ) → AreFree (front ++ p ∷ rest) → IsFreePair front p
free-before [] rest p h = tt
free-before (q ∷ front) rest p h = let apart = h.0 p (in_middle front rest p) in (apart.0, apart.1, free-before front rest p h.1)
  where
    in_middle : (front rest : List (ℕ × ℕ)) (p : ℕ × ℕ) → IsIn p (front ++ p ∷ rest)
    in_middle [] rest p = inl refl
    in_middle (q ∷ front) rest p = inr (in_middle front rest p)

pub push-free : (objects : Objects) (keys back : List (Option NaturalKey)) (place i : ℕ) (key : Option NaturalKey) (front : List (ℕ × ℕ)) → partner_of objects key ≡ Some i → AreDistinct (those keys) → front ++ pairs_from objects (key ∷ back) place ≡ pairs_from objects keys 0 → IsFreePair front (i, place)
push-free objects keys back place i key front partner apart all =
    let rest = pairs_from objects back (place + 1) in
    let here : pairs_from objects (key ∷ back) place ≡ (i, place) ∷ rest = ap (λ o. with_pair_at o place rest) partner in
    free-before front rest (i, place) (subst AreFree (sym all ∙ ap (λ ps. front ++ ps) here) (pairs-free objects keys 0 apart))

-- the pairs so far, and the pair of the next key, with those of the keys that are left
pub pairs-next : (objects : Objects) (front more all : List (ℕ × ℕ)) (key : Option NaturalKey) (back : List (Option NaturalKey)) (place : ℕ) (o : Option ℕ) → o ≡ partner_of objects key → more ≡ front ++ with_pair_at o place [] → front ++ pairs_from objects (key ∷ back) place ≡ all → more ++ pairs_from objects back (place + 1) ≡ all
pairs-next objects front more all key back place o is put so_far =
    let rest = pairs_from objects back (place + 1) in
    ap (λ ps. ps ++ rest) put
    ∙ append_assoc front (with_pair_at o place []) rest
    ∙ ap (λ ps. front ++ ps) (one o)
    ∙ ap (λ p. front ++ with_pair_at p place rest) is
    ∙ so_far
  where
    one : (p : Option ℕ) → with_pair_at p place [] ++ pairs_from objects back (place + 1) ≡ with_pair_at p place (pairs_from objects back (place + 1))
    one None = refl
    one (Some i) = refl

-- pairs are of one natural key, and the old one is that of the least group
use Rattle.std.proofs.Common.{◌≡◌, ◌⊎◌, inl, inr, ℕ, zero, suc, ◌+◌, ◌<◌, ◌≤◌, List, [], ◌∷◌, length, map, Option, None, Some, option_map, refl, sym, ap, ◌∙◌, subst, arith}
use Rattle.std.specs.List.{slice_get}
use Rattle.swss_types.proofs.Proper.{mapped}
use Rattle.sai_types.specs.declared.ids.Rid.{Rid}
use Rattle.sai_types.specs.declared.ids.Vid.{Vid}
use Rattle.sai_types.specs.declared.body.Object.{Object}
use Rattle.sai_types.specs.Alike.{IsIn}
use Rattle.sai_types.specs.Named.{things_among}
use Rattle.sai_types.specs.Objects.{Objects}
use Rattle.chip_names.specs.Naming.{entries_of}
use Rattle.view_match.specs.declared.indexed.Partner.{Partner}
use Rattle.view_match.specs.declared.key.NaturalKey.{NaturalKey}
use Rattle.view_match.specs.Keys.{natural_key_of, keys_of_objects}
use Rattle.view_match.specs.Listed.{objects_as}
use Rattle.view_match.specs.Paired.{ArePaired, ComesFirst, HasKey}
use Rattle.view_match.specs.Pairs.{best_from, group_of, pairs_from, pairs_of, partner_of, with_pair_at}
use Rattle.view_match.proofs.Best.{best, found-none}

pub length_keys : (objects os : Objects) → length (map (option_map natural_key_of) (things_among objects os)) ≡ length os
length_keys objects [] = refl
length_keys objects (o ∷ os) = ap suc (length_keys objects os)

pub length-keys : (objects : Objects) → length (keys_of_objects objects) ≡ length objects
length-keys objects = length_keys objects objects

pub length-entries : (objects : List (Object Rid)) → length (entries_of objects) ≡ length objects
length-entries [] = refl
length-entries (o ∷ os) = ap suc (length-entries os)

module _ (objects : Objects) (k : NaturalKey) where
  abbrev found : Option Partner
  found = best_from None (keys_of_objects objects) objects k 0

  pub record IsFirst (i : ℕ) : Type 0 where
    pub has : HasKey objects i k
    pub first : (h : ℕ) → HasKey objects h k → ComesFirst objects i h

  first_of : (q : Partner) → found ≡ Some q → IsFirst q.place
  first_of q e =
      let b = best k None (keys_of_objects objects) objects 0 q (length-keys objects) (λ f h. absurd cc) e in
      elim b.origin [
        | inl none ↦ absurd cc
        | inr x ↦
            let away = x.1 in
            let at : q.place ≡ x.0 = omega (arith, away) in
            record {
              has = ap (slice_get (keys_of_objects objects)) at ∙ x.2;
              first = λ h is.
                  let group : q.group ≡ group_of (slice_get objects q.place) = x.3 ∙ ap (λ n. group_of (slice_get objects n)) (sym at) in
                  let zero_more : 0 + h ≡ h = omega arith in
                  subst (λ g. (g < group_of (slice_get objects h)) ⊎ ((g ≡ group_of (slice_get objects h)) × (q.place ≤ h))) group (subst (λ m. (q.group < group_of (slice_get objects h)) ⊎ ((q.group ≡ group_of (slice_get objects h)) × (q.place ≤ m))) zero_more (b.below h is));
            }
      ]

  pub partner-first : (i : ℕ) → partner_of objects (Some k) ≡ Some i → IsFirst i
  partner-first i h = let m = mapped (λ (p : Partner). p.place) found i h in subst IsFirst m.2 (first_of m.0 m.1)

  one_first : (i j : ℕ) → IsFirst i → IsFirst j → i ≡ j
  one_first i j x y = by (x.first j y.has) (y.first i x.has)
    where
      by : ComesFirst objects i j → ComesFirst objects j i → i ≡ j
      by (inl a) (inl b) = absurd (omega (arith, a, b))
      by (inl a) (inr b) = let same = b.0 in absurd (omega (arith, a, same))
      by (inr a) (inl b) = let same = a.0 in absurd (omega (arith, b, same))
      by (inr a) (inr b) = let one = a.1 in let two = b.1 in omega (arith, one, two)

  pub first-partner : (i : ℕ) → IsFirst i → partner_of objects (Some k) ≡ Some i
  first-partner i x = by found refl
    where
      by : (o : Option Partner) → found ≡ o → option_map (λ (p : Partner). p.place) found ≡ Some i
      by None e = absurd (found-none k None (keys_of_objects objects) objects 0 (length-keys objects) e i x.has)
      by (Some q) e = ap (option_map (λ (p : Partner). p.place)) e ∙ ap Some (one_first q.place i (first_of q e) x)

-- ---- the pairs

module _ (objects : Objects) where
  record IsAmong (keys : List (Option NaturalKey)) (place : ℕ) (p : ℕ × ℕ) : Type 0 where
    far : ℕ
    key : NaturalKey
    at : p.1 ≡ place + far
    has : slice_get keys far ≡ Some (Some key)
    partner : partner_of objects (Some key) ≡ Some p.0

  further : (key : Option NaturalKey) (keys : List (Option NaturalKey)) (place : ℕ) (p : ℕ × ℕ) → IsAmong keys (place + 1) p → IsAmong (key ∷ keys) place p
  further key keys place p x = let at = x.at in record { far = suc x.far; key = x.key; at = omega (arith, at); has = x.has; partner = x.partner }

  in_by : (key : Option NaturalKey) (keys : List (Option NaturalKey)) (place : ℕ) (o : Option ℕ) (p : ℕ × ℕ) → partner_of objects key ≡ o → (IsIn p (pairs_from objects keys (place + 1)) → IsAmong keys (place + 1) p) → IsIn p (with_pair_at o place (pairs_from objects keys (place + 1))) → IsAmong (key ∷ keys) place p
  in_by key keys place None p e rest h = further key keys place p (rest h)
  in_by key keys place (Some i) p e rest (inr h) = further key keys place p (rest h)
  in_by None keys place (Some i) p e rest (inl h) = absurd cc
  in_by (Some k) keys place (Some i) p e rest (inl h) =
      let at : p.1 ≡ place = ap (λ (q : ℕ × ℕ). q.1) h in
      record { far = 0; key = k; at = omega (arith, at); has = refl; partner = e ∙ ap (λ (q : ℕ × ℕ). Some q.0) (sym h) }

  in_pairs : (keys : List (Option NaturalKey)) (place : ℕ) (p : ℕ × ℕ) → IsIn p (pairs_from objects keys place) → IsAmong keys place p
  in_pairs [] place p h = absurd h
  in_pairs (key ∷ keys) place p h = in_by key keys place (partner_of objects key) p refl (in_pairs keys (place + 1) p) h

  behind : (o : Option ℕ) (place : ℕ) (ps : List (ℕ × ℕ)) (p : ℕ × ℕ) → IsIn p ps → IsIn p (with_pair_at o place ps)
  behind None place ps p h = h
  behind (Some i) place ps p h = inr h

  pairs_in : (keys : List (Option NaturalKey)) (place n : ℕ) (k : NaturalKey) (i : ℕ) → slice_get keys n ≡ Some (Some k) → partner_of objects (Some k) ≡ Some i → IsIn (i, place + n) (pairs_from objects keys place)
  pairs_in [] place n k i h e = absurd cc
  pairs_in (key ∷ keys) place zero k i h e =
      let is : key ≡ Some k = cc in
      let here : partner_of objects key ≡ Some i = ap (partner_of objects) is ∙ e in
      let at : place + 0 ≡ place = omega arith in
      subst (λ o. IsIn (i, place + 0) (with_pair_at o place (pairs_from objects keys (place + 1)))) (sym here) (inl (ap (λ n. (i, n)) at))
  pairs_in (key ∷ keys) place (suc n) k i h e =
      let at : place + 1 + n ≡ place + suc n = omega arith in
      behind (partner_of objects key) place (pairs_from objects keys (place + 1)) (i, place + suc n) (subst (λ m. IsIn (i, m) (pairs_from objects keys (place + 1))) at (pairs_in keys (place + 1) n k i h e))

pub from_none : (n : ℕ) → 0 + n ≡ n
from_none n = omega arith

pub pairs-paired : (old : List (Object Rid)) (new : List (Object Vid)) (i j : ℕ) → IsIn (i, j) (pairs_of old new) → ArePaired (entries_of old) (entries_of (objects_as new)) i j
pairs-paired old new i j h =
    let x = in_pairs (entries_of old) (keys_of_objects (entries_of (objects_as new))) 0 (i, j) h in
    let f = partner-first (entries_of old) x.key i x.partner in
    record { key = x.key; old_key = f.has; new_key = ap (slice_get (keys_of_objects (entries_of (objects_as new)))) (x.at ∙ from_none x.far) ∙ x.has; least = f.first }

pub paired-pairs : (old : List (Object Rid)) (new : List (Object Vid)) (i j : ℕ) → ArePaired (entries_of old) (entries_of (objects_as new)) i j → IsIn (i, j) (pairs_of old new)
paired-pairs old new i j x = subst (λ m. IsIn (i, m) (pairs_of old new)) (from_none j) (pairs_in (entries_of old) (keys_of_objects (entries_of (objects_as new))) 0 j x.key i x.new_key (first-partner (entries_of old) x.key i (record { has = x.old_key; first = x.least })))

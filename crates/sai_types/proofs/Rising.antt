-- lists that rise, and what is in them
use Rattle.std.proofs.Common.{◌≡◌, ◌⊎◌, inl, inr, ℕ, true, List, [], ◌∷◌, Ordering, refl, sym, ap, ap₂, ◌∙◌}
use Rattle.std.specs.BTreeSet.{insert_key}
use Rattle.std.specs.Cmp.{IsTotalOrder}
use Rattle.std.specs.List.{AllByRecursion}
use Rattle.std.specs.List.Sorted.{IsStrictlySortedBy}
use Rattle.std.specs.Ordering.{is_eq, match_ordering, ordering_reverse}
use Rattle.std.specs.declared.cmp.Ordering.TheVariants.{Less, Equal, Greater}
use Rattle.std.specs.Cmp.Lexicographic.{slice_cmp}
use Rattle.std.proofs.lemmas.Bool.{and_parts, eqb-true, false≢true}
use Rattle.std.proofs.lemmas.Map.Lookups.{CmpEqualImpliesEq}
use Rattle.swss_types.specs.declared.address.Ip.{Ip}
use Rattle.swss_types.proofs.Tied.{then_first, then_last}
use Rattle.sai_types.specs.declared.hop.Base.{Base}
use Rattle.sai_types.specs.declared.hop.Base.TheVariants as base
use Rattle.sai_types.specs.declared.hop.Hop.{Hop}
use Rattle.sai_types.specs.declared.weight.WHop.{WHop}
use Rattle.sai_types.specs.contracts.hop.BasePartialEq.TheImpl as base_eq
use Rattle.sai_types.specs.contracts.hop.HopPartialEq.TheImpl as hop_eq
use Rattle.sai_types.specs.contracts.hop.HopOrd.TheImpl.Laws as ordered_hop
use Rattle.sai_types.specs.contracts.weight.WHopPartialEq.TheImpl as whop_eq
use Rattle.sai_types.specs.contracts.weight.WHopOrd.TheImpl.Laws as ordered_whop
use Rattle.sai_types.specs.Alike.{IsIn}
use Rattle.sai_types.specs.Hop.{hop_cmp, whop_cmp}
use Rattle.sai_types.specs.Refusal.{same_ip}
use Rattle.sai_types.proofs.Exact.{ip-exact}

pub hop_total : IsTotalOrder hop_cmp
hop_total = ordered_hop.total-law

pub base-exact : (a b : Base) → base_eq.ghosts.eq a b ≡ true → a ≡ b
base-exact (base.Port m) (base.Port n) h = ap base.Port (eqb-true m n h)
base-exact (base.Vlan m) (base.Vlan n) h = ap base.Vlan (eqb-true m n h)
base-exact (base.Port m) (base.Vlan n) h = absurd (false≢true h)
base-exact (base.Vlan m) (base.Port n) h = absurd (false≢true h)

pub hop-same : (a b : Hop) → hop_eq.ghosts.eq a b ≡ true → a ≡ b
hop-same a b h =
    let parts = and_parts (base_eq.ghosts.eq a.on b.on) (same_ip a.ip b.ip) h in
    let made : Base → Ip → Hop = λ x y. record { on = x; ip = y } in
    ap₂ made (base-exact a.on b.on parts.0) (ip-exact a.ip b.ip parts.1)

pub hop_exact : CmpEqualImpliesEq hop_cmp
hop_exact a b h = hop-same a b (ordered_hop.matches_eq-law a b ∙ ap is_eq h)

pub whop_total : IsTotalOrder whop_cmp
whop_total = ordered_whop.total-law

pub whop-same : (a b : WHop) → whop_eq.ghosts.eq a b ≡ true → a ≡ b
whop-same a b h =
    let parts = and_parts (hop_eq.ghosts.eq a.hop b.hop) _ h in
    let made : Hop → ℕ → WHop = λ x y. record { hop = x; weight = y } in
    ap₂ made (hop-same a.hop b.hop parts.0) (eqb-true a.weight b.weight parts.1)

pub whop_exact : CmpEqualImpliesEq whop_cmp
whop_exact a b h = whop-same a b (ordered_whop.matches_eq-law a b ∙ ap is_eq h)

pub hops_exact : CmpEqualImpliesEq (slice_cmp whop_cmp)
hops_exact [] [] h = refl
hops_exact [] (y ∷ ys) h = absurd cc
hops_exact (x ∷ xs) [] h = absurd cc
hops_exact (x ∷ xs) (y ∷ ys) h = ap₂ (λ a b. a ∷ b) (whop_exact x y (then_first _ _ h)) (hops_exact xs ys (then_last _ _ h))

module _ {K : Type 0} (R : K → K → Ordering) (o : IsTotalOrder R) (exact : CmpEqualImpliesEq R) where
  here_step : (x k : K) (xs : List K) (r : Ordering) → R k x ≡ r → IsIn k (insert_key R xs k) → IsIn k (match_ordering r (k ∷ x ∷ xs) (x ∷ xs) (x ∷ insert_key R xs k))
  here_step x k xs Less e h = inl refl
  here_step x k xs Equal e h = inl (exact k x e)
  here_step x k xs Greater e h = inr h

  pub in-insert : (xs : List K) (k : K) → IsIn k (insert_key R xs k)
  in-insert [] k = inl refl
  in-insert (x ∷ xs) k = here_step x k xs (R k x) refl (in-insert xs k)

  there_step : (x k y : K) (xs : List K) (r : Ordering) → IsIn y (x ∷ xs) → (IsIn y xs → IsIn y (insert_key R xs k)) → IsIn y (match_ordering r (k ∷ x ∷ xs) (x ∷ xs) (x ∷ insert_key R xs k))
  there_step x k y xs Less h rest = inr h
  there_step x k y xs Equal h rest = h
  there_step x k y xs Greater (inl is) rest = inl is
  there_step x k y xs Greater (inr h) rest = inr (rest h)

  pub in-kept : (xs : List K) (k y : K) → IsIn y xs → IsIn y (insert_key R xs k)
  in-kept [] k y h = elim h [ ]
  in-kept (x ∷ xs) k y h = there_step x k y xs (R k x) h (in-kept xs k y)

  back_step : (x k y : K) (xs : List K) (r : Ordering) → (IsIn y (insert_key R xs k) → (y ≡ k) ⊎ IsIn y xs) → IsIn y (match_ordering r (k ∷ x ∷ xs) (x ∷ xs) (x ∷ insert_key R xs k)) → (y ≡ k) ⊎ IsIn y (x ∷ xs)
  back_step x k y xs Less rest (inl is) = inl is
  back_step x k y xs Less rest (inr h) = inr h
  back_step x k y xs Equal rest h = inr h
  back_step x k y xs Greater rest (inl is) = inr (inl is)
  back_step x k y xs Greater rest (inr h) = more (rest h)
    where
      more : (y ≡ k) ⊎ IsIn y xs → (y ≡ k) ⊎ IsIn y (x ∷ xs)
      more (inl is) = inl is
      more (inr g) = inr (inr g)

  pub in-back : (xs : List K) (k y : K) → IsIn y (insert_key R xs k) → (y ≡ k) ⊎ IsIn y xs
  in-back [] k y (inl is) = inl is
  in-back [] k y (inr h) = elim h [ ]
  in-back (x ∷ xs) k y h = back_step x k y xs (R k x) (in-back xs k y) h

  above : (x k : K) (xs : List K) → R x k ≡ Less → AllByRecursion (λ y. R k y ≡ Less) xs → AllByRecursion (λ y. R x y ≡ Less) xs
  above x k [] e h = tt
  above x k (y ∷ ys) e h = (o.trans x k y e h.0, above x k ys e h.1)

  all_step : (P : K → Type 0) (x k : K) (xs : List K) (r : Ordering) → P k → AllByRecursion P (x ∷ xs) → AllByRecursion P (insert_key R xs k) → AllByRecursion P (match_ordering r (k ∷ x ∷ xs) (x ∷ xs) (x ∷ insert_key R xs k))
  all_step P x k xs Less p h rest = (p, h)
  all_step P x k xs Equal p h rest = h
  all_step P x k xs Greater p h rest = (h.0, rest)

  all-insert : (P : K → Type 0) (xs : List K) (k : K) → P k → AllByRecursion P xs → AllByRecursion P (insert_key R xs k)
  all-insert P [] k p h = (p, tt)
  all-insert P (x ∷ xs) k p h = all_step P x k xs (R k x) p h (all-insert P xs k p h.1)

  rising_step : (x k : K) (xs : List K) (r : Ordering) → R k x ≡ r → IsStrictlySortedBy R (x ∷ xs) → IsStrictlySortedBy R (insert_key R xs k) → IsStrictlySortedBy R (match_ordering r (k ∷ x ∷ xs) (x ∷ xs) (x ∷ insert_key R xs k))
  unfolding IsStrictlySortedBy
  rising_step x k xs Less e h rest = ((e, above k x xs e h.0), h)
  rising_step x k xs Equal e h rest = h
  rising_step x k xs Greater e h rest = (all-insert (λ y. R x y ≡ Less) xs k (o.antisymm x k ∙ ap ordering_reverse e) h.0, rest)

  pub rising-insert : (xs : List K) (k : K) → IsStrictlySortedBy R xs → IsStrictlySortedBy R (insert_key R xs k)
  unfolding IsStrictlySortedBy
  rising-insert [] k h = (tt, tt)
  rising-insert (x ∷ xs) k h = rising_step x k xs (R k x) refl h (rising-insert xs k h.1)

  above_in : (x y : K) (xs : List K) → AllByRecursion (λ z. R x z ≡ Less) xs → IsIn y xs → R x y ≡ Less
  above_in x y [] a h = elim h [ ]
  above_in x y (z ∷ zs) a (inl is) = ap (R x) is ∙ a.0
  above_in x y (z ∷ zs) a (inr h) = above_in x y zs a.1 h

  not_both : (x y : K) → R x y ≡ Less → R y x ≡ Less → ⊥
  not_both x y a b = let turned = o.antisymm x y in let reversed = ap ordering_reverse b in absurd cc

  heads : (x y : K) (xs ys : List K) → AllByRecursion (λ z. R x z ≡ Less) xs → AllByRecursion (λ z. R y z ≡ Less) ys → IsIn x (y ∷ ys) → IsIn y (x ∷ xs) → x ≡ y
  heads x y xs ys a b (inl is) h = is
  heads x y xs ys a b (inr g) (inl is) = sym is
  heads x y xs ys a b (inr g) (inr h) = absurd (not_both x y (above_in x y xs a h) (above_in y x ys b g))

  behind : (x y z : K) (xs ys : List K) → AllByRecursion (λ w. R x w ≡ Less) xs → x ≡ y → IsIn z xs → IsIn z (y ∷ ys) → IsIn z ys
  behind x y z xs ys a e h (inr g) = g
  behind x y z xs ys a e h (inl is) =
      let less = above_in x z xs a h in
      let same : z ≡ x = is ∙ sym e in
      absurd (not_both x z less (ap (R z) (sym same) ∙ ap (λ w. R w z) same ∙ less))

  -- rising lists with the same items are equal
  pub same-rising : (xs ys : List K) → IsStrictlySortedBy R xs → IsStrictlySortedBy R ys → ((z : K) → IsIn z xs → IsIn z ys) → ((z : K) → IsIn z ys → IsIn z xs) → xs ≡ ys
  unfolding IsStrictlySortedBy
  same-rising [] [] s t f g = refl
  same-rising [] (y ∷ ys) s t f g = elim (g y (inl refl)) [ ]
  same-rising (x ∷ xs) [] s t f g = elim (f x (inl refl)) [ ]
  same-rising (x ∷ xs) (y ∷ ys) s t f g =
      let head = heads x y xs ys s.0 t.0 (f x (inl refl)) (g y (inl refl)) in
      ap₂ (λ z zs. z ∷ zs) head (same-rising xs ys s.1 t.1 (λ z h. behind x y z xs ys s.0 head h (f z (inr h))) (λ z h. behind y x z ys xs t.0 (sym head) h (g z (inr h))))

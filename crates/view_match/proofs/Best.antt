-- the partner of a key: of the objects that have it that of the least group, of these the first
use Rattle.std.proofs.Common.{◌≡◌, ◌⊎◌, inl, inr, ℕ, zero, suc, ◌+◌, ◌<◌, ◌≤◌, Bool, true, false, cond, List, [], ◌∷◌, length, Option, None, Some, refl, sym, ap, ◌∙◌, subst, arith}
use Rattle.std.specs.BTreeMap.{is_at}
use Rattle.std.specs.Cmp.{eq_by_cmp_equiv}
use Rattle.std.specs.List.{slice_get}
use Rattle.std.proofs.lemmas.Bool.{false≢true}
use Rattle.std.proofs.lemmas.Bool.Decides.{nat_tests}
use Rattle.std.proofs.lemmas.Map.Views.{tells_apart}
use Rattle.std.proofs.lemmas.Option.{same_Some}
use Rattle.sai_types.specs.declared.ids.Rid.{Rid}
use Rattle.sai_types.specs.declared.body.Body.{Body}
use Rattle.sai_types.specs.declared.body.Entry.{Entry}
use Rattle.sai_types.specs.Objects.{Objects}
use Rattle.view_match.specs.declared.indexed.Partner.{Partner}
use Rattle.view_match.specs.declared.key.NaturalKey.{NaturalKey}
use Rattle.view_match.specs.contracts.key.NaturalKeyOrd.TheImpl.Laws as ordered_key
use Rattle.view_match.specs.Keys.{natural_key_cmp}
use Rattle.view_match.specs.Pairs.{best_from, group_number, group_of, replaces, with_object}
use Rattle.view_match.proofs.Exact.{natural_key_exact}

natural_key_self : (k : NaturalKey) → is_at (natural_key_cmp k) k ≡ true
natural_key_self k = (eq_by_cmp_equiv ordered_key.total-law).refl k

module _ (k : NaturalKey) where
  -- ---- one object more

  -- the object takes the place of what was found, or not
  record IsPut (found : Option Partner) (key : Option NaturalKey) (p : Partner) : Type 0 where
    is : key ≡ Some k
    lesser : (f : Partner) → found ≡ Some f → p.group < f.group

  record IsLeft (found : Option Partner) (key : Option NaturalKey) (p : Partner) : Type 0 where
    stays : key ≡ Some k → (f : Partner) × (found ≡ Some f) × (f.group ≤ p.group)

  abbrev Steps : Option Partner → Option NaturalKey → Partner → Option Partner → Type 0
  Steps found key p later = ((later ≡ Some p) × IsPut found key p) ⊎ ((later ≡ found) × IsLeft found key p)

  replaced : (found : Option Partner) (p : Partner) (b : Bool) → replaces found p ≡ b → Steps found (Some k) p (cond b (Some p) found)
  replaced None p true e = inl (refl, record { is = refl; lesser = λ f h. absurd cc })
  replaced None p false e = absurd cc
  replaced (Some g) p true e = inl (refl, record { is = refl; lesser = λ f h. let same = same_Some g f h in let less : p.group < g.group = grind (arith, nat_tests) in subst (λ (x : Partner). p.group < x.group) same less })
  replaced (Some g) p false e = inr (refl, record { stays = λ is. let no_less : g.group ≤ p.group = grind (arith, nat_tests) in (g, refl, no_less) })

  at_key : (found : Option Partner) (key : NaturalKey) (p : Partner) (b : Bool) → is_at (natural_key_cmp key) k ≡ b → Steps found (Some key) p (cond b (cond (replaces found p) (Some p) found) found)
  at_key found key p true e = subst (λ x. Steps found (Some x) p (cond (replaces found p) (Some p) found)) (sym (tells_apart natural_key_exact key k e)) (replaced found p (replaces found p) refl)
  at_key found key p false e = inr (refl, record { stays = λ is. let same : key ≡ k = cc in absurd (false≢true (sym e ∙ ap (λ x. is_at (natural_key_cmp x) k) same ∙ natural_key_self k)) })

  steps : (found : Option Partner) (key : Option NaturalKey) (p : Partner) → Steps found key p (with_object found key p k)
  steps found None p = inr (refl, record { stays = λ is. absurd cc })
  steps found (Some key) p = at_key found key p (is_at (natural_key_cmp key) k) refl

  -- ---- all objects

  abbrev At : List (Option NaturalKey) → ℕ → Type 0
  At keys n = slice_get keys n ≡ Some (Some k)

  abbrev group_at : Objects → ℕ → ℕ
  group_at os n = group_of (slice_get os n)

  pub record IsBest (found : Option Partner) (keys : List (Option NaturalKey)) (os : Objects) (place : ℕ) (q : Partner) : Type 0 where
    pub origin : (found ≡ Some q) ⊎ ((n : ℕ) × (q.place ≡ place + n) × At keys n × (q.group ≡ group_at os n))
    pub before : (f : Partner) → found ≡ Some f → (q ≡ f) ⊎ (q.group < f.group)
    pub below : (n : ℕ) → At keys n → (q.group < group_at os n) ⊎ ((q.group ≡ group_at os n) × (q.place ≤ place + n))

  head_key : (key : Option NaturalKey) (keys : List (Option NaturalKey)) → At (key ∷ keys) 0 → key ≡ Some k
  head_key key keys h = cc

  module _ (key : Option NaturalKey) (keys : List (Option NaturalKey)) (o : Entry Rid × Body Rid) (os : Objects) (place : ℕ) (q : Partner) where
    abbrev here : Partner
    here = record { group = group_number o; place = place }

    further : (n : ℕ) → q.place ≡ place + 1 + n → q.place ≡ place + suc n
    further n e = omega (arith, e)

    behind : (n : ℕ) → (q.group < group_at os n) ⊎ ((q.group ≡ group_at os n) × (q.place ≤ place + 1 + n)) → (q.group < group_at (o ∷ os) (suc n)) ⊎ ((q.group ≡ group_at (o ∷ os) (suc n)) × (q.place ≤ place + suc n))
    behind n (inl less) = inl less
    behind n (inr same) = let late = same.1 in inr (same.0, omega (arith, late))

    best_after_put : (found : Option Partner) → IsPut found key here → IsBest (Some here) keys os (place + 1) q → IsBest found (key ∷ keys) (o ∷ os) place q
    best_after_put found p b = record {
      origin = elim b.origin [
        | inl is ↦ inr (0, let same = same_Some here q is in ap (λ (x : Partner). x.place) (sym same) ∙ plus_none place, ap Some p.is, ap (λ (x : Partner). x.group) (sym (same_Some here q is)))
        | inr x ↦ inr (suc x.0, further x.0 x.1, x.2, x.3)
      ];
      before = λ f e. let less = p.lesser f e in elim (b.before here refl) [
        | inl is ↦ inr (subst (λ (x : Partner). x.group < f.group) (sym is) less)
        | inr lower ↦ inr (omega (arith, less, lower))
      ];
      below = at_or;
    }
      where
        plus_none : (m : ℕ) → m ≡ m + 0
        plus_none m = omega arith

        at_or : (n : ℕ) → At (key ∷ keys) n → (q.group < group_at (o ∷ os) n) ⊎ ((q.group ≡ group_at (o ∷ os) n) × (q.place ≤ place + n))
        at_or zero h = elim (b.before here refl) [
          | inl is ↦ inr (ap (λ (x : Partner). x.group) is, let at = ap (λ (x : Partner). x.place) is in omega (arith, at))
          | inr lower ↦ inl lower
        ]
        at_or (suc n) h = behind n (b.below n h)

    left : (found : Option Partner) → ((f : Partner) → found ≡ Some f → f.place < place) → IsLeft found key here → IsBest found keys os (place + 1) q → IsBest found (key ∷ keys) (o ∷ os) place q
    left found early p b = record {
      origin = elim b.origin [ inl is ↦ inl is | inr x ↦ inr (suc x.0, further x.0 x.1, x.2, x.3) ];
      before = b.before;
      below = at_or;
    }
      where
        or_same : (f : Partner) → found ≡ Some f → f.group ≤ group_number o → (q ≡ f) ⊎ (q.group < f.group) → (q.group < group_number o) ⊎ ((q.group ≡ group_number o) × (q.place ≤ place + 0))
        or_same f e low (inr less) = inl (omega (arith, low, less))
        or_same f e low (inl is) =
            let group : q.group ≡ f.group = ap (λ (x : Partner). x.group) is in
            let at : q.place ≡ f.place = ap (λ (x : Partner). x.place) is in
            let soon = early f e in
            let close : q.place ≤ place + 0 = omega (arith, at, soon) in
            elim (less_or q.group (group_number o) (omega (arith, group, low))) [ inl less ↦ inl less | inr same ↦ inr (same, close) ]
          where
            less_or : (m n : ℕ) → m ≤ n → (m < n) ⊎ (m ≡ n)
            less_or m n h = grind arith

        at_or : (n : ℕ) → At (key ∷ keys) n → (q.group < group_at (o ∷ os) n) ⊎ ((q.group ≡ group_at (o ∷ os) n) × (q.place ≤ place + n))
        at_or zero h = let f = p.stays (head_key key keys h) in or_same f.0 f.1 f.2 (b.before f.0 f.1)
        at_or (suc n) h = behind n (b.below n h)

  pub best : (found : Option Partner) (keys : List (Option NaturalKey)) (os : Objects) (place : ℕ) (q : Partner) → length keys ≡ length os → ((f : Partner) → found ≡ Some f → f.place < place) → best_from found keys os k place ≡ Some q → IsBest found keys os place q
  best found [] os place q long early e = record { origin = inl e; before = λ f h. inl (same_Some q f (sym e ∙ h)); below = λ n h. absurd (none_at n h) }
    where
      none_at : (n : ℕ) → At [] n → ⊥
      none_at n h = cc
  best found (key ∷ keys) [] place q long early e = absurd cc
  best found (key ∷ keys) (o ∷ os) place q long early e =
      let p : Partner = record { group = group_number o; place = place } in
      let same : length keys ≡ length os = cc in
      elim (steps found key p) [
        | inl x ↦ best_after_put key keys o os place q found x.1 (best (Some p) keys os (place + 1) q same (λ f h. subst (λ (y : Partner). y.place < place + 1) (same_Some p f h) (omega arith)) (ap (λ later. best_from later keys os k (place + 1)) (sym x.0) ∙ e))
        | inr x ↦ left key keys o os place q found early x.1 (best found keys os (place + 1) q same (λ f h. let soon = early f h in omega (arith, soon)) (ap (λ later. best_from later keys os k (place + 1)) (sym x.0) ∙ e))
      ]

  -- where an object has the key, one is found
  some_stays : (f : Partner) (keys : List (Option NaturalKey)) (os : Objects) (place : ℕ) → best_from (Some f) keys os k place ≡ None → ⊥
  some_stays f [] os place e = cc
  some_stays f (key ∷ keys) [] place e = cc
  some_stays f (key ∷ keys) (o ∷ os) place e =
      let p : Partner = record { group = group_number o; place = place } in
      elim (steps (Some f) key p) [
        | inl x ↦ some_stays p keys os (place + 1) (ap (λ later. best_from later keys os k (place + 1)) (sym x.0) ∙ e)
        | inr x ↦ some_stays f keys os (place + 1) (ap (λ later. best_from later keys os k (place + 1)) (sym x.0) ∙ e)
      ]

  pub found-none : (found : Option Partner) (keys : List (Option NaturalKey)) (os : Objects) (place : ℕ) → length keys ≡ length os → best_from found keys os k place ≡ None → (n : ℕ) → At keys n → ⊥
  found-none found [] os place long e n h = cc
  found-none found (key ∷ keys) [] place long e n h = cc
  found-none found (key ∷ keys) (o ∷ os) place long e n h =
      let p : Partner = record { group = group_number o; place = place } in
      let same : length keys ≡ length os = cc in
      elim (steps found key p) [
        | inl x ↦ some_stays p keys os (place + 1) (ap (λ later. best_from later keys os k (place + 1)) (sym x.0) ∙ e)
        | inr x ↦ not_here n h x (found-none found keys os (place + 1) same (ap (λ later. best_from later keys os k (place + 1)) (sym x.0) ∙ e))
      ]
    where
      not_here : (n : ℕ) → At (key ∷ keys) n → (with_object found key (record { group = group_number o; place = place }) k ≡ found) × IsLeft found key (record { group = group_number o; place = place }) → ((m : ℕ) → At keys m → ⊥) → ⊥
      not_here zero h x rest =
          let f = x.1.stays (head_key key keys h) in
          some_stays f.0 keys os (place + 1) (ap (λ later. best_from later keys os k (place + 1)) (sym f.1 ∙ sym x.0) ∙ e)
      not_here (suc n) h x rest = rest n h

-- which steps are due
use Rattle.std.proofs.Common.{◌≡◌, inl, inr, ℕ, zero, suc, ◌+◌, ◌<◌, ◌≤◌, ◌++◌, List, [], ◌∷◌, length, map, Option, None, Some, refl, sym, ap, ◌∙◌, subst, arith}
use Rattle.std.specs.List.{slice_get}
use Rattle.sai_types.specs.declared.ids.Rid.{Rid}
use Rattle.sai_types.specs.declared.ids.Vid.{Vid}
use Rattle.sai_types.specs.declared.body.Object.{Object}
use Rattle.sai_types.specs.declared.plan.Mode.{Mode}
use Rattle.sai_types.specs.Alike.{IsIn}
use Rattle.sai_types.proofs.Membership.{in-either, in-left, in-right, map-in}
use Rattle.chip_layout.specs.Counted.{AreDistinct}
use Rattle.view_match.specs.declared.key.NaturalKey.{NaturalKey}
use Rattle.apply_order.specs.Due.{entry_number, new_step, new_steps, old_step, old_steps}
use Rattle.apply_order.specs.Places.{Places, partner_at}
use Rattle.apply_order.specs.Ranks.{remove_rank}
use Rattle.apply_order.specs.declared.ranks.PlanStep.TheVariants as step
use Rattle.apply_order.specs.declared.ranks.Timed.{Timed}

abbrev Key : Type 0
Key = Option NaturalKey

plus_none : (n : ℕ) → n + 0 ≡ n
plus_none n = omega arith

plus_next : (n m : ℕ) → n + 1 + m ≡ n + suc m
plus_next n m = omega arith

-- the step that removes an old object
abbrev pub removal : Mode → Key → Object Rid → ℕ → Timed
removal m key o place = record { rank = remove_rank m o.body; key = key; id = entry_number o.entry; step = step.Remove place }

module _ (m : Mode) (paired : Places) where
  -- ---- new objects

  abbrev step_at : Key → Object Vid → ℕ → Timed
  step_at key n place = new_step m key n place (partner_at paired place)

  pub record IsNewDue (keys : List Key) (ns : List (Object Vid)) (place : ℕ) (t : Timed) : Type 0 where
    pub far : ℕ
    pub key : Key
    pub object : Object Vid
    pub object_at : slice_get ns far ≡ Some object
    pub is : t ≡ new_step m key object (place + far) (partner_at paired (place + far))

  pub new-due : (keys : List Key) (ns : List (Object Vid)) (place : ℕ) (t : Timed) → IsIn t (new_steps m paired keys ns place) → IsNewDue keys ns place t
  new-due [] ns place t i = elim i [ ]
  new-due (key ∷ keys) [] place t i = elim i [ ]
  new-due (key ∷ keys) (n ∷ ns) place t (inl is) = record { far = 0; key = key; object = n; object_at = refl; is = is ∙ ap (step_at key n) (sym (plus_none place)) }
  new-due (key ∷ keys) (n ∷ ns) place t (inr i) =
      let x = new-due keys ns (place + 1) t i in
      record { far = suc x.far; key = x.key; object = x.object; object_at = x.object_at; is = x.is ∙ ap (step_at x.key x.object) (plus_next place x.far) }

  pub due-new : (keys : List Key) (ns : List (Object Vid)) (place far : ℕ) (key : Key) (n : Object Vid) → slice_get keys far ≡ Some key → slice_get ns far ≡ Some n → IsIn (new_step m key n (place + far) (partner_at paired (place + far))) (new_steps m paired keys ns place)
  due-new [] ns place far key n a b = absurd cc
  due-new (k ∷ keys) [] place far key n a b = absurd cc
  due-new (k ∷ keys) (o ∷ ns) place zero key n a b =
      let one : k ≡ key = cc in
      let two : o ≡ n = cc in
      inl (ap (step_at key n) (plus_none place) ∙ ap (λ z. step_at z n place) (sym one) ∙ ap (λ z. step_at k z place) (sym two))
  due-new (k ∷ keys) (o ∷ ns) place (suc far) key n a b = inr (subst (λ p. IsIn (step_at key n p) (new_steps m paired keys ns (place + 1))) (plus_next place far) (due-new keys ns (place + 1) far key n a b))

  -- ---- old objects

  pub record IsOldDue (keys : List Key) (os : List (Object Rid)) (place : ℕ) (t : Timed) : Type 0 where
    pub far : ℕ
    pub key : Key
    pub object : Object Rid
    pub object_at : slice_get os far ≡ Some object
    pub free : partner_at paired (place + far) ≡ None
    pub is : t ≡ removal m key object (place + far)

  old_here : (key : Key) (o : Object Rid) (place : ℕ) (p : Option ℕ) (t : Timed) → IsIn t (old_step m key o place p) → (p ≡ None) × (t ≡ removal m key o place)
  old_here key o place None t (inl is) = (refl, is)
  old_here key o place None t (inr i) = elim i [ ]
  old_here key o place (Some j) t i = elim i [ ]

  here_old : (key : Key) (o : Object Rid) (place : ℕ) (p : Option ℕ) → p ≡ None → IsIn (removal m key o place) (old_step m key o place p)
  here_old key o place None e = inl refl
  here_old key o place (Some j) e = absurd cc

  pub old-due : (keys : List Key) (os : List (Object Rid)) (place : ℕ) (t : Timed) → IsIn t (old_steps m paired keys os place) → IsOldDue keys os place t
  old-due [] os place t i = elim i [ ]
  old-due (key ∷ keys) [] place t i = elim i [ ]
  old-due (key ∷ keys) (o ∷ os) place t i =
      elim (in-either t (old_step m key o place (partner_at paired place)) (old_steps m paired keys os (place + 1)) i) [
        | inl here ↦
            let x = old_here key o place (partner_at paired place) t here in
            record { far = 0; key = key; object = o; object_at = refl; free = ap (partner_at paired) (plus_none place) ∙ x.0; is = x.1 ∙ ap (removal m key o) (sym (plus_none place)) }
        | inr rest ↦
            let x = old-due keys os (place + 1) t rest in
            record { far = suc x.far; key = x.key; object = x.object; object_at = x.object_at; free = ap (partner_at paired) (sym (plus_next place x.far)) ∙ x.free; is = x.is ∙ ap (removal m x.key x.object) (plus_next place x.far) }
      ]

  pub due-old : (keys : List Key) (os : List (Object Rid)) (place far : ℕ) (key : Key) (o : Object Rid) → slice_get keys far ≡ Some key → slice_get os far ≡ Some o → partner_at paired (place + far) ≡ None → IsIn (removal m key o (place + far)) (old_steps m paired keys os place)
  due-old [] os place far key o a b free = absurd cc
  due-old (k ∷ keys) [] place far key o a b free = absurd cc
  due-old (k ∷ keys) (p ∷ os) place zero key o a b free =
      let one : k ≡ key = cc in
      let two : p ≡ o = cc in
      let there = here_old k p place (partner_at paired place) (ap (partner_at paired) (sym (plus_none place)) ∙ free) in
      let same : removal m key o (place + 0) ≡ removal m k p place = ap (removal m key o) (plus_none place) ∙ ap (λ z. removal m z o place) (sym one) ∙ ap (λ z. removal m k z place) (sym two) in
      in-left _ (old_step m k p place (partner_at paired place)) _ (subst (λ z. IsIn z (old_step m k p place (partner_at paired place))) (sym same) there)
  due-old (k ∷ keys) (p ∷ os) place (suc far) key o a b free =
      in-right _ (old_step m k p place (partner_at paired place)) _
      (subst (λ n. IsIn (removal m key o n) (old_steps m paired keys os (place + 1))) (plus_next place far) (due-old keys os (place + 1) far key o a b (ap (partner_at paired) (plus_next place far) ∙ free)))

  -- ---- names of their own

  module _ {K : Type 0} (name : Timed → K) where
    pub new-distinct : (at : ℕ → K) → ((key : Key) (n : Object Vid) (p : ℕ) → name (step_at key n p) ≡ at p) → (keys : List Key) (ns : List (Object Vid)) (place size : ℕ) → place + length ns ≤ size → ((p q : ℕ) → p < size → q < size → at p ≡ at q → p ≡ q) → AreDistinct (map name (new_steps m paired keys ns place))
    new-distinct at named [] ns place size within one = tt
    new-distinct at named (key ∷ keys) [] place size within one = tt
    new-distinct at named (key ∷ keys) (n ∷ ns) place size within one = (
      λ i.
          let t = map-in name (new_steps m paired keys ns (place + 1)) (name (step_at key n place)) i in
          let x = new-due keys ns (place + 1) t.0 t.1 in
          let far = far_within ns x.far x.object x.object_at in
          let names : at place ≡ at (place + 1 + x.far) = sym (named key n place) ∙ t.2 ∙ ap name x.is ∙ named x.key x.object (place + 1 + x.far) in
          let same = one place (place + 1 + x.far) (omega (arith, within)) (omega (arith, within, far)) names in
          omega (arith, same),
      new-distinct at named keys ns (place + 1) size (omega (arith, within)) one,
    )
      where
        far_within : (xs : List (Object Vid)) (k : ℕ) (x : Object Vid) → slice_get xs k ≡ Some x → k < length xs
        far_within [] k x e = absurd cc
        far_within (y ∷ ys) zero x e = omega arith
        far_within (y ∷ ys) (suc k) x e = let rest = far_within ys k x e in omega (arith, rest)

    pub joined-distinct : (xs ys : List K) → AreDistinct xs → AreDistinct ys → ((k : K) → IsIn k xs → IsIn k ys → ⊥) → AreDistinct (xs ++ ys)
    joined-distinct [] ys a b apart = b
    joined-distinct (x ∷ xs) ys a b apart = (λ i. elim (in-either x xs ys i) [ inl here ↦ a.0 here | inr there ↦ apart x (inl refl) there ], joined-distinct xs ys a.1 b (λ k i. apart k (inr i)))

    pub old-distinct : (at : ℕ → K) → ((key : Key) (o : Object Rid) (p : ℕ) → name (removal m key o p) ≡ at p) → (keys : List Key) (os : List (Object Rid)) (place : ℕ) → ((p q : ℕ) (o u : Object Rid) → slice_get os p ≡ Some o → slice_get os q ≡ Some u → at (place + p) ≡ at (place + q) → p ≡ q) → AreDistinct (map name (old_steps m paired keys os place))
    old-distinct at named [] os place one = tt
    old-distinct at named (key ∷ keys) [] place one = tt
    old-distinct at named (key ∷ keys) (o ∷ os) place one =
        let rest = old-distinct at named keys os (place + 1) (λ p q u w a b same. down (one (suc p) (suc q) u w a b (ap at (sym (plus_next place p)) ∙ same ∙ ap at (plus_next place q)))) in
        by (partner_at paired place) rest
      where
        down : {p q : ℕ} → suc p ≡ suc q → p ≡ q
        down e = omega (arith, e)

        by : (p : Option ℕ) → AreDistinct (map name (old_steps m paired keys os (place + 1))) → AreDistinct (map name (old_step m key o place p ++ old_steps m paired keys os (place + 1)))
        by (Some j) rest = rest
        by None rest = (
          λ i.
              let t = map-in name (old_steps m paired keys os (place + 1)) (name (removal m key o place)) i in
              let x = old-due keys os (place + 1) t.0 t.1 in
              let names : at (place + 0) ≡ at (place + suc x.far) = ap at (plus_none place) ∙ sym (named key o place) ∙ t.2 ∙ ap name x.is ∙ named x.key x.object (place + 1 + x.far) ∙ ap at (plus_next place x.far) in
              let same = one 0 (suc x.far) o x.object refl x.object_at names in
              omega (arith, same),
          rest,
        )

-- what stands after some of a plan's changes, of which no two are about one name
use Rattle.std.proofs.Common.{◌≡◌, inl, inr, ◌⊎◌, ℕ, ◌≤◌, ◌++◌, List, [], ◌∷◌, Some, refl, sym, ap, ◌∙◌, subst}
use Rattle.sai_types.specs.declared.thing.Thing.{Thing}
use Rattle.sai_types.specs.Alike.{IsIn}
use Rattle.sai_types.specs.Names.{ThingName, name_of}
use Rattle.sai_types.proofs.Membership.{in-either, in-left, in-right}
use Rattle.plan_laws.specs.Plans.{AreRanked, PlanChange, IsViewPlan, Make, Remove, Set, stands_after_all, stands_after, outcome, subject}
use Rattle.plan_laws.specs.Views.{HaveOwnNames}
use Rattle.plan_laws.proofs.Named.{same-or}

pub outcome-named : (c : PlanChange) (t : Thing) → outcome c ≡ Some t → name_of t ≡ subject c
outcome-named (Make u) t e = let same : u ≡ t = cc in ap name_of (sym same)
outcome-named (Set u) t e = let same : u ≡ t = cc in ap name_of (sym same)
outcome-named (Remove k) t e = absurd cc

-- no change is about a name
abbrev pub IsUntouched : List PlanChange → ThingName → Type 0
IsUntouched cs k = (c : PlanChange) → IsIn c cs → subject c ≡ k → ⊥

-- whether one is, is told
touched-or : (cs : List PlanChange) (k : ThingName) → ((c : PlanChange) × IsIn c cs × (subject c ≡ k)) ⊎ IsUntouched cs k
touched-or [] k = inr (λ c i e. elim i [ ])
touched-or (c ∷ cs) k =
    elim (same-or (subject c) k) [
      | inl same ↦ inl (c, inl refl, same)
      | inr apart ↦ elim (touched-or cs k) [
        | inl t ↦ inl (t.0, inr t.1, t.2)
        | inr free ↦ inr (λ d i e. elim i [ inl is ↦ apart (ap subject (sym is) ∙ e) | inr j ↦ free d j e ])
      ]
    ]

pub still : (cs : List PlanChange) (now : Thing → Type 0) (t : Thing) → IsUntouched cs (name_of t) → now t → stands_after_all cs now t
still [] now t free h = h
still (c ∷ cs) now t free h = still cs (stands_after c now) t (λ d i. free d (inr i)) (inl (h, λ same. free c (inl refl) (sym same)))

pub made : (order : PlanChange → ℕ) (cs : List PlanChange) (now : Thing → Type 0) → AreRanked order cs → (c : PlanChange) (t : Thing) → IsIn c cs → outcome c ≡ Some t → stands_after_all cs now t
made order [] now up c t i o = elim i [ ]
made order (d ∷ cs) now up c t (inl is) o =
    let comes = ap outcome (sym is) ∙ o in
    still cs (stands_after d now) t (λ e j same. (up.0 e j).1 (sym (outcome-named d t comes) ∙ sym same)) (inr comes)
made order (d ∷ cs) now up c t (inr i) o = made order cs (stands_after d now) up.1 c t i o

-- what stands afterwards stood before, and no change is about it, or a change comes to it
pub origin : (cs : List PlanChange) (now : Thing → Type 0) (t : Thing) → stands_after_all cs now t → (now t × IsUntouched cs (name_of t)) ⊎ ((c : PlanChange) × IsIn c cs × (outcome c ≡ Some t))
origin [] now t h = inl (h, λ c i e. elim i [ ])
origin (c ∷ cs) now t h =
    elim (origin cs (stands_after c now) t h) [
      | inl old ↦ elim old.0 [
        | inl kept ↦ inl (kept.0, λ d i e. elim i [ inl is ↦ kept.1 (sym e ∙ ap subject is) | inr j ↦ old.1 d j e ])
        | inr comes ↦ inr (c, inl refl, comes)
      ]
      | inr d ↦ inr (d.0, inr d.1, d.2)
    ]

-- something stands that has this name
abbrev pub HasNamed : (Thing → Type 0) → ThingName → Type 0
HasNamed now k = (t : Thing) × now t × (name_of t ≡ k)

pub ranked-left : (order : PlanChange → ℕ) (xs ys : List PlanChange) → AreRanked order (xs ++ ys) → AreRanked order xs
ranked-left order [] ys up = tt
ranked-left order (x ∷ xs) ys up = (λ d i. up.0 d (in-left d xs ys i), ranked-left order xs ys up.1)

ranked-cut : (order : PlanChange → ℕ) (xs ys : List PlanChange) → AreRanked order (xs ++ ys) → (c d : PlanChange) → IsIn c xs → IsIn d ys → (order c ≤ order d) × (subject c ≡ subject d → ⊥)
ranked-cut order [] ys up c d i j = elim i [ ]
ranked-cut order (x ∷ xs) ys up c d (inl is) j = subst (λ z. (order z ≤ order d) × (subject z ≡ subject d → ⊥)) (sym is) (up.0 d (in-right d xs ys j))
ranked-cut order (x ∷ xs) ys up c d (inr i) j = ranked-cut order xs ys up.1 c d i j

pub ranked-right : (order : PlanChange → ℕ) (xs ys : List PlanChange) → AreRanked order (xs ++ ys) → AreRanked order ys
ranked-right order [] ys up = up
ranked-right order (x ∷ xs) ys up = ranked-right order xs ys up.1

module _ {order : PlanChange → ℕ} {old new : List Thing} {plan : List PlanChange} (is_plan : IsViewPlan order old new plan) where
  -- what a change comes to is new
  pub outcome-new : (c : PlanChange) (t : Thing) → IsIn c plan → outcome c ≡ Some t → IsIn t new
  outcome-new (Make u) t i o = let same : u ≡ t = cc in subst (λ z. IsIn z new) same (is_plan.makes u i).0
  outcome-new (Set u) t i o = let same : u ≡ t = cc in subst (λ z. IsIn z new) same (is_plan.sets u i).0
  outcome-new (Remove k) t i o = absurd cc

  module _ (done due : List PlanChange) (cut : plan ≡ done ++ due) where
    abbrev stood : Thing → Type 0
    stood u = IsIn u old

    abbrev now : Thing → Type 0
    now = stands_after_all done stood

    up : AreRanked order (done ++ due)
    up = subst (AreRanked order) cut is_plan.in_order

    pub done-in : (c : PlanChange) → IsIn c done → IsIn c plan
    done-in c i = subst (λ p. IsIn c p) (sym cut) (in-left c done due i)

    pub due-in : (c : PlanChange) → IsIn c due → IsIn c plan
    due-in c i = subst (λ p. IsIn c p) (sym cut) (in-right c done due i)

    pub done-or_due : (c : PlanChange) → IsIn c plan → IsIn c done ⊎ IsIn c due
    done-or_due c i = in-either c done due (subst (λ p. IsIn c p) cut i)

    -- what is done comes before what is due, and is about another name
    pub before : (c d : PlanChange) → IsIn c done → IsIn d due → (order c ≤ order d) × (subject c ≡ subject d → ⊥)
    before = ranked-cut order done due up

    pub done-stands : (c : PlanChange) (t : Thing) → IsIn c done → outcome c ≡ Some t → now t
    done-stands = made order done stood (ranked-left order done due up)

    -- a name that stood still stands, or it was removed
    pub old-stands : (u : Thing) → IsIn u old → HasNamed now (name_of u) ⊎ IsIn (Remove (name_of u)) done
    old-stands u i = elim (touched-or done (name_of u)) [ inl c ↦ by c.0 c.1 c.2 | inr free ↦ inl (u, still done stood u free i, refl) ]
      where
        by : (c : PlanChange) → IsIn c done → subject c ≡ name_of u → HasNamed now (name_of u) ⊎ IsIn (Remove (name_of u)) done
        by (Make t) j e = inl (t, done-stands (Make t) t j refl, e)
        by (Set t) j e = inl (t, done-stands (Set t) t j refl, e)
        by (Remove k) j e = inr (subst (λ n. IsIn (Remove n) done) e j)

    -- a name of a new thing stands, or the thing is still to be made
    pub new-stands : (v : Thing) → IsIn v new → HasNamed now (name_of v) ⊎ IsIn (Make v) due
    new-stands v i =
        elim (is_plan.whole v i) [
          | inl there ↦ inl (by v there refl)
          | inr change ↦ elim change [
            | inl make ↦ elim (done-or_due (Make v) make) [ inl j ↦ inl (v, done-stands (Make v) v j refl, refl) | inr j ↦ inr j ]
            | inr set ↦ let has = is_plan.sets v set in inl (by has.1 has.2 has.3)
          ]
        ]
      where
        by : (u : Thing) → IsIn u old → name_of u ≡ name_of v → HasNamed now (name_of v)
        by u j e =
            elim (old-stands u j) [
              | inl h ↦ (h.0, h.1, h.2 ∙ e)
              | inr gone ↦ absurd ((is_plan.removes (name_of u) (done-in (Remove (name_of u)) gone)).3 v i (sym e))
            ]

    -- an old thing that is neither to be set nor to be removed is new
    pub old-new : HaveOwnNames old → (u : Thing) → IsIn u old → IsUntouched done (name_of u) → ((t : Thing) → IsIn (Set t) due → name_of t ≡ name_of u → ⊥) → (IsIn (Remove (name_of u)) due → ⊥) → IsIn u new
    old-new named u i free sets removes =
        elim (is_plan.gone u i) [
          | inl t ↦ elim (is_plan.whole t.0 t.1) [
            | inl there ↦ subst (λ z. IsIn z new) (named.one t.0 u there i t.2) t.1
            | inr change ↦ elim change [
              | inl make ↦ absurd ((is_plan.makes t.0 make).1 u i (sym t.2))
              | inr set ↦ elim (done-or_due (Set t.0) set) [ inl j ↦ absurd (free (Set t.0) j t.2) | inr j ↦ absurd (sets t.0 j t.2) ]
            ]
          ]
          | inr remove ↦ elim (done-or_due (Remove (name_of u)) remove) [ inl j ↦ absurd (free (Remove (name_of u)) j refl) | inr j ↦ absurd (removes j) ]
        ]

    -- what stands of an old thing that is not to be set or removed any more, or of a change, is new
    pub now-new : HaveOwnNames old → (u : Thing) → now u → ((t : Thing) → IsIn (Set t) due → name_of t ≡ name_of u → ⊥) → (IsIn (Remove (name_of u)) due → ⊥) → IsIn u new
    now-new named u h sets removes =
        elim (origin done stood u h) [
          | inl there ↦ old-new named u there.0 there.1 sets removes
          | inr c ↦ outcome-new c.0 u (done-in c.0 c.1) c.2
        ]

-- a hitless plan moves an address at most once, from the old decision to the new one
use Rattle.std.proofs.Common.{◌≡◌, inl, inr, ◌⊎◌, ◌<◌, ◌≤◌, ◌++◌, List, Some, refl, sym, ap, ◌∙◌, subst, arith}
use Rattle.std.proofs.lemmas.List.{append_assoc}
use Rattle.swss_types.specs.declared.vrf.Packet.{Packet}
use Rattle.swss_types.proofs.Most.{most_or_more}
use Rattle.sai_types.specs.declared.thing.Thing.{Thing}
use Rattle.sai_types.specs.Alike.{IsIn}
use Rattle.sai_types.specs.Forwarding.{decide}
use Rattle.sai_types.specs.Names as name
use Rattle.sai_types.specs.Names.{ThingName, name_of}
use Rattle.sai_types.proofs.Membership.{in-left}
use Rattle.plan_laws.specs.Plans.{PlanChange, IsViewPlan, Make, Remove, Set, stands_after_all, hitless_rank, make_place, outcome, remove_place, set_place}
use Rattle.plan_laws.specs.Steady.{ForwardsAfter, IsForwarding}
use Rattle.plan_laws.specs.Views.{HaveOwnNames}
use Rattle.plan_laws.proofs.Deciders.{Decides, IsGood, IsStrongest, NoneDecides, decided, decision, good-names, none-decides, strength, strength-most, strongest-decides}
use Rattle.plan_laws.proofs.Following.{IsUntouched, before, done-in, done-stands, new-stands, old-new, old-stands, origin, outcome-named, outcome-new, still}

decides_forwarding : (a : Packet) (k : ThingName) → Decides a k → IsForwarding k
decides_forwarding a (name.Own w ip) h = tt
decides_forwarding a (name.Route v p) h = tt
decides_forwarding a _ h = elim h [ ]

good_if : (k : ThingName) → (IsForwarding k → IsGood k) → IsGood k
good_if (name.Route v p) h = h tt
good_if _ h = tt

-- ---- of what decides an address the stronger is made first and removed last

make_falls : (a : Packet) (k m : ThingName) → IsGood m → Decides a k → Decides a m → strength k < strength m → make_place m < make_place k
make_falls a (name.Route v p) (name.Route w q) good x y less = let most = strength-most (name.Route w q) good in omega (arith, less, most)
make_falls a (name.Route v p) (name.Own w ip) good x y less = omega (arith, less)
make_falls a (name.Own w ip) m good x y less = let most = strength-most m good in absurd (omega (arith, less, most))
make_falls a (name.Route v p) _ good x y less = elim y [ ]
make_falls a _ _ good x y less = elim x [ ]

remove_rises : (a : Packet) (k m : ThingName) → IsGood m → Decides a k → Decides a m → strength k < strength m → remove_place k < remove_place m
remove_rises a (name.Route v p) (name.Route w q) good x y less = omega (arith, less)
remove_rises a (name.Route v p) (name.Own w ip) good x y less = omega (arith, less)
remove_rises a (name.Own w ip) m good x y less = let most = strength-most m good in absurd (omega (arith, less, most))
remove_rises a (name.Route v p) _ good x y less = elim y [ ]
remove_rises a _ _ good x y less = elim x [ ]

route_set : (a : Packet) (k m : ThingName) → IsGood m → Decides a k → strength k < strength m → set_place k ≡ 800
route_set a (name.Route v p) m good x less = refl
route_set a (name.Own w ip) m good x less = let most = strength-most m good in absurd (omega (arith, less, most))
route_set a _ m good x less = elim x [ ]

make_most : (k : ThingName) → make_place k ≤ 728
make_most (name.Route v p) = omega arith
make_most _ = omega arith

pub set-most : (k : ThingName) → set_place k ≤ 800
set-most (name.Route v p) = omega arith
set-most _ = omega arith

remove_least : (k : ThingName) → 1000 ≤ remove_place k
remove_least (name.Route v p) = omega arith
remove_least _ = omega arith

module _ (a : Packet) {old new : List Thing} (old_named : HaveOwnNames old) (new_named : HaveOwnNames new) {plan : List PlanChange} (is_plan : IsViewPlan hitless_rank old new plan) where
  abbrev stood : Thing → Type 0
  stood u = IsIn u old

  old_good : (u : Thing) → IsIn u old → IsGood (name_of u)
  old_good = good-names old old_named

  new_good : (u : Thing) → IsIn u new → IsGood (name_of u)
  new_good = good-names new new_named

  old_decides : (t : Thing) → IsStrongest a stood t → decide old a ≡ decision t
  old_decides = strongest-decides a old old_good (λ t u i j d e. old_named.one t u i j e)

  module _ (done due : List PlanChange) (cut : plan ≡ done ++ due) (now : List Thing) (stands : ForwardsAfter old done now) where
    abbrev these : Thing → Type 0
    these u = IsIn u now

    here : (u : Thing) → stands_after_all done stood u → Decides a (name_of u) → IsIn u now
    here u h d = stands.all u (decides_forwarding a (name_of u) d) h

    from : (u : Thing) → IsIn u now → Decides a (name_of u) → (IsIn u old × IsUntouched done (name_of u)) ⊎ ((c : PlanChange) × IsIn c done × (outcome c ≡ Some u))
    from u i d = origin done stood u (stands.sound u (decides_forwarding a (name_of u) d) i)

    comes : (c : PlanChange) (u : Thing) → IsIn c done → outcome c ≡ Some u → IsIn u new
    comes c u i o = outcome-new is_plan c u (done-in is_plan done due cut c i) o

    now_good : (u : Thing) → IsIn u now → IsGood (name_of u)
    now_good u i =
        good_if (name_of u) (λ fw. elim (origin done stood u (stands.sound u fw i)) [
          | inl there ↦ old_good u there.0
          | inr c ↦ new_good u (comes c.0 u c.1 c.2)
        ])

    other : (u v : Thing) (c : PlanChange) → IsUntouched done (name_of u) → IsIn c done → outcome c ≡ Some v → name_of u ≡ name_of v → ⊥
    other u v c free i o e = free c i (sym (outcome-named c v o) ∙ sym e)

    now_one : (u v : Thing) → IsIn u now → IsIn v now → Decides a (name_of u) → name_of u ≡ name_of v → u ≡ v
    now_one u v i j d e =
        elim (from u i d) [
          | inl x ↦ elim (from v j (subst (Decides a) e d)) [ inl y ↦ old_named.one u v x.0 y.0 e | inr y ↦ absurd (other u v y.0 x.1 y.1 y.2 e) ]
          | inr x ↦ elim (from v j (subst (Decides a) e d)) [ inl y ↦ absurd (other v u x.0 y.1 x.1 x.2 (sym e)) | inr y ↦ new_named.one u v (comes x.0 u x.1 x.2) (comes y.0 v y.1 y.2) e ]
        ]

    now_decides : (t : Thing) → IsStrongest a these t → decide now a ≡ decision t
    now_decides = strongest-decides a now now_good now_one

    -- the strongest that stands is the new ones' strongest, where it is new and no stronger one is still to be made
    as_new : (t : Thing) → IsStrongest a these t → IsIn t new → ((v : Thing) → IsIn (Make v) due → IsIn v new → Decides a (name_of v) → strength (name_of v) ≤ strength (name_of t)) → decide now a ≡ decide new a
    as_new t s i makes =
        now_decides t s
        ∙ sym (strongest-decides a new new_good (λ u v j k d e. new_named.one u v j k e) t (record {
          there = i;
          decides = s.decides;
          most = λ v j d. elim (new-stands is_plan done due cut v j) [
            | inl w ↦ let e = subst (Decides a) (sym w.2) d in subst (λ k. strength k ≤ strength (name_of t)) w.2 (s.most w.0 (here w.0 w.1 e) e)
            | inr make ↦ makes v make j d
          ];
        }))

    -- an old thing that decides and does not stand has been removed
    is_gone : (u : Thing) → IsIn u old → Decides a (name_of u) → ((w : Thing) → IsIn w now → Decides a (name_of w) → name_of w ≡ name_of u → ⊥) → IsIn (Remove (name_of u)) done
    is_gone u i d none =
        elim (old-stands is_plan done due cut u i) [
          | inl w ↦ let e = subst (Decides a) (sym w.2) d in absurd (none w.0 (here w.0 w.1 e) e w.2)
          | inr gone ↦ gone
        ]

    -- and then nothing is still to be made or set
    no_make : (k : ThingName) (v : Thing) → IsIn (Remove k) done → IsIn (Make v) due → ⊥
    no_make k v gone make = let order = (before is_plan done due cut (Remove k) (Make v) gone make).0 in let least = remove_least k in let most = make_most (name_of v) in absurd (omega (arith, order, least, most))

    no_set : (k : ThingName) (v : Thing) → IsIn (Remove k) done → IsIn (Set v) due → ⊥
    no_set k v gone set = let order = (before is_plan done due cut (Remove k) (Set v) gone set).0 in let least = remove_least k in let most = set-most (name_of v) in absurd (omega (arith, order, least, most))

    late_change : (t v : Thing) (c : PlanChange) → outcome c ≡ Some t → IsIn v new → Decides a (name_of t) → Decides a (name_of v) → strength (name_of t) < strength (name_of v) → make_place (name_of v) < hitless_rank c
    late_change t v (Make u) o i d e less =
        let same : t ≡ u = cc in
        subst (λ z. make_place (name_of v) < make_place (name_of z)) same (make_falls a (name_of t) (name_of v) (new_good v i) d e less)
    late_change t v (Set u) o i d e less =
        let same : t ≡ u = cc in
        let most = make_most (name_of v) in
        let is : set_place (name_of u) ≡ 800 = ap (λ z. set_place (name_of z)) (sym same) ∙ route_set a (name_of t) (name_of v) (new_good v i) d less in
        omega (arith, most, is)
    late_change t v (Remove k) o i d e less = absurd cc

    -- as before: what decided decides, and no change is about it; or nothing did and does
    abbrev pub AsBefore : Type 0
    AsBefore = ((t : Thing) × IsStrongest a stood t × IsUntouched done (name_of t) × IsStrongest a these t) ⊎ (NoneDecides a stood × NoneDecides a these)

    by_change : (t : Thing) → IsStrongest a these t → (c : PlanChange) → IsIn c done → outcome c ≡ Some t → decide now a ≡ decide new a
    by_change t s c i o =
        as_new t s (comes c t i o) (λ v make j d. elim (most_or_more (strength (name_of v)) (strength (name_of t))) [
          | inl le ↦ le
          | inr less ↦ let order = (before is_plan done due cut c (Make v) i make).0 in let late = late_change t v c o j s.decides d less in absurd (omega (arith, order, late))
        ])

    by_old : (t : Thing) → IsStrongest a these t → IsIn t old → IsUntouched done (name_of t) → (u : Thing) → IsStrongest a stood u → (decide now a ≡ decide new a) ⊎ AsBefore
    by_old t s i free u most =
        elim (most_or_more (strength (name_of u)) (strength (name_of t))) [
          | inl le ↦ inr (inl (t, record { there = i; decides = s.decides; most = λ v j d. let one = most.most v j d in omega (arith, one, le) }, free, s))
          | inr less ↦
              let gone = is_gone u most.there most.decides (λ w j d e. let below = s.most w j d in let same : strength (name_of w) ≡ strength (name_of u) = ap strength e in absurd (omega (arith, below, same, less))) in
              let new_t = old-new is_plan done due cut old_named t i free (λ v set e. no_set (name_of u) v gone set) (λ remove. let order = (before is_plan done due cut (Remove (name_of u)) (Remove (name_of t)) gone remove).0 in let rises = remove_rises a (name_of t) (name_of u) (old_good u most.there) s.decides most.decides less in absurd (omega (arith, order, rises))) in
              inl (as_new t s new_t (λ v make j d. absurd (no_make (name_of u) v gone make)))
        ]

    by_none : NoneDecides a these → (decide now a ≡ decide new a) ⊎ AsBefore
    by_none none =
        elim (decided a old old_good) [
          | inr old_none ↦ inr (inr (old_none.0, none))
          | inl u ↦
              let gone = is_gone u.0 u.1.there u.1.decides (λ w j d e. none w j d) in
              inl (none-decides a now now_good none ∙ sym (none-decides a new new_good (λ v j d. elim (new-stands is_plan done due cut v j) [
                | inl w ↦ let e = subst (Decides a) (sym w.2) d in none w.0 (here w.0 w.1 e) e
                | inr make ↦ no_make (name_of u.0) v gone make
              ])))
        ]

    -- at each moment the address is decided as by the new things, or as before
    pub moved : (decide now a ≡ decide new a) ⊎ AsBefore
    moved =
        elim (decided a now now_good) [
          | inr none ↦ by_none none.0
          | inl t ↦ elim (from t.0 t.1.there t.1.decides) [
            | inr c ↦ inl (by_change t.0 t.1 c.0 c.1 c.2)
            | inl there ↦ elim (decided a old old_good) [
              | inr none ↦ absurd (none.0 t.0 there.0 t.1.decides)
              | inl u ↦ by_old t.0 t.1 there.0 there.1 u.0 u.1
            ]
          ]
        ]

    pub old-or-new : (decide now a ≡ decide old a) ⊎ (decide now a ≡ decide new a)
    old-or-new =
        elim moved [
          | inl is ↦ inr is
          | inr same ↦ inl (elim same [ inl t ↦ now_decides t.0 t.3 ∙ sym (old_decides t.0 t.1) | inr none ↦ none-decides a now now_good none.1 ∙ sym (none-decides a old old_good none.0) ])
        ]

  -- ---- two moments

  module _ (done more due : List PlanChange) (cut : plan ≡ done ++ (more ++ due)) (now later : List Thing) (stands : ForwardsAfter old done now) (after : ForwardsAfter old (done ++ more) later) where
    cut' : plan ≡ (done ++ more) ++ due
    cut' = cut ∙ sym (append_assoc done more due)

    still_there : (u : Thing) → IsIn u now → Decides a (name_of u) → IsIn u old ⊎ IsIn u later
    still_there u i d =
        elim (from done (more ++ due) cut now stands u i d) [
          | inl x ↦ inl x.0
          | inr c ↦ inr (here (done ++ more) due cut' later after u (done-stands is_plan (done ++ more) due cut' c.0 u (in-left c.0 done more c.1) c.2) d)
        ]

    -- what is as before later is so now
    so_before : AsBefore (done ++ more) due cut' later after → decide now a ≡ decide later a
    so_before (inl t) =
        let there = here done (more ++ due) cut now stands t.0 (still done stood t.0 (λ c i. t.2 c (in-left c done more i)) t.1.there) t.1.decides in
        now_decides done (more ++ due) cut now stands t.0 (record { there = there; decides = t.1.decides; most = λ u i d. elim (still_there u i d) [ inl j ↦ t.1.most u j d | inr j ↦ t.3.most u j d ] })
        ∙ sym (now_decides (done ++ more) due cut' later after t.0 t.3)
    so_before (inr none) =
        none-decides a now (now_good done (more ++ due) cut now stands) (λ u i d. elim (still_there u i d) [ inl j ↦ none.0 u j d | inr j ↦ none.1 u j d ])
        ∙ sym (none-decides a later (now_good (done ++ more) due cut' later after) none.1)

    pub stays-new : decide now a ≡ decide new a → decide later a ≡ decide new a
    stays-new is = elim (moved (done ++ more) due cut' later after) [ inl new_is ↦ new_is | inr same ↦ sym (so_before same) ∙ is ]

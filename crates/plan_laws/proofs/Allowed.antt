-- each change of a plan may be made when its turn has come, and at the end the new things stand
use Rattle.std.proofs.Common.{◌≡◌, inl, inr, ◌⊎◌, ℕ, ◌-◌, ◌<◌, ◌≤◌, true, nat_lt, ◌++◌, List, [], ◌∷◌, refl, sym, ap, ◌∙◌, subst, arith}
use Rattle.std.specs.List.{list_all}
use Rattle.std.proofs.lemmas.Bool.{and_parts, ltb-true}
use Rattle.std.proofs.lemmas.List.{append-nil}
use Rattle.swss_types.specs.declared.vrf.Vrf.TheVariants as vrf
use Rattle.sai_types.specs.declared.hop.Base.TheVariants as base
use Rattle.sai_types.specs.declared.kind.Kind.TheVariants as kind
use Rattle.sai_types.specs.declared.thing.Goal.TheVariants as goal
use Rattle.sai_types.specs.declared.thing.Thing.{Thing}
use Rattle.sai_types.specs.declared.thing.Thing.TheVariants as thing
use Rattle.sai_types.specs.Alike.{IsIn}
use Rattle.sai_types.specs.Objects.{level}
use Rattle.sai_types.specs.Names as name
use Rattle.sai_types.specs.Names.{Meet, Overlap, ThingName, Refers, name_kind, name_of, thing_references}
use Rattle.plan_laws.specs.Plans.{AreRanked, PlanChange, IsViewPlan, Make, Remove, Set, stands_after_all, cold_rank, hitless_rank, make_place, remove_place, set_place, subject}
use Rattle.plan_laws.specs.Views.{HaveOwnNames, ReferWithin}
use Rattle.plan_laws.proofs.Following.{HasNamed, before, done-in, due-in, ranked-right, new-stands, now-new, old-stands, origin, outcome-named, outcome-new}
use Rattle.plan_laws.proofs.Deciders.{IsGood, good-names, len_within}
use Rattle.plan_laws.proofs.Moving.{set-most}

-- ---- what refers is of a higher kind

abbrev pub height : ThingName → ℕ
height k = level (name_kind k)

-- nothing is higher than a route
abbrev pub highest : ℕ
highest = level kind.Route

low_enough : (n : ℕ) (ks : List ThingName) (k : ThingName) → list_all (λ m. nat_lt (height m) n) ks ≡ true → IsIn k ks → height k < n
low_enough n [] k h i = elim i [ ]
low_enough n (m ∷ ks) k h (inl is) = let less = (and_parts (nat_lt (height m) n) _ h).0 in subst (λ z. height z < n) (sym is) (ltb-true (height m) n less)
low_enough n (m ∷ ks) k h (inr i) = low_enough n ks k (and_parts (nat_lt (height m) n) _ h).1 i

all_low : (t : Thing) → list_all (λ m. nat_lt (height m) (height (name_of t))) (thing_references t) ≡ true
all_low (thing.Rif (base.Port lane) vrf.Default) = refl
all_low (thing.Rif (base.Port lane) (vrf.Named n)) = refl
all_low (thing.Rif (base.Vlan vlan) vrf.Default) = refl
all_low (thing.Rif (base.Vlan vlan) (vrf.Named n)) = refl
all_low (thing.Own vrf.Default ip) = refl
all_low (thing.Own (vrf.Named n) ip) = refl
all_low (thing.Route vrf.Default prefix goal.Drop) = refl
all_low (thing.Route vrf.Default prefix (goal.Direct on)) = refl
all_low (thing.Route vrf.Default prefix (goal.Via hop)) = refl
all_low (thing.Route vrf.Default prefix (goal.Group hops)) = refl
all_low (thing.Route (vrf.Named n) prefix goal.Drop) = refl
all_low (thing.Route (vrf.Named n) prefix (goal.Direct on)) = refl
all_low (thing.Route (vrf.Named n) prefix (goal.Via hop)) = refl
all_low (thing.Route (vrf.Named n) prefix (goal.Group hops)) = refl
all_low _ = refl

pub refers-lower : (t : Thing) (k : ThingName) → Refers t k → height k < height (name_of t)
refers-lower t k r = low_enough (height (name_of t)) (thing_references t) k (all_low t) r

height_most : (k : ThingName) → height k ≤ highest
height_most (name.Route v p) = omega arith
height_most _ = omega arith

-- ---- turns

make_low : (k : ThingName) → height k < highest → make_place k ≡ height k
make_low (name.Route v p) less = absurd (omega (arith, less))
make_low _ less = refl

remove_low : (k : ThingName) → height k < highest → remove_place k ≡ 1400 - height k
remove_low (name.Route v p) less = absurd (omega (arith, less))
remove_low _ less = refl

-- what is made later than by this turn is no lower than this
make_high : (k : ThingName) (n : ℕ) → IsGood k → n < height k → n < highest → n < make_place k
make_high (name.Route v p) n good less small = let len = len_within p good in omega (arith, len, small)
make_high _ n good less small = less

set_high : (k : ThingName) (n : ℕ) → n < highest → n < set_place k
set_high (name.Route v p) n small = omega (arith, small)
set_high _ n small = omega (arith, small)

remove_less : (k : ThingName) (n : ℕ) → IsGood k → n < height k → n < highest → remove_place k < 1400 - n
remove_less (name.Route v p) n good less small = let len = len_within p good in omega (arith, len, small)
remove_less _ n good less small = omega (arith, less)

-- the numbers that an order needs: what is referred to is made before, and what refers is removed before
pub record IsSafeOrder (order : PlanChange → ℕ) : Type 0 where
  pub make_after : (t w : Thing) → IsGood (name_of t) → height (name_of w) < height (name_of t) → height (name_of w) < highest → order (Make w) < order (Make t)
  pub set_after : (t w : Thing) → height (name_of w) < highest → order (Make w) < order (Set t)
  pub remove_before : (k m : ThingName) → IsGood m → height k < height m → height k < highest → order (Remove m) < order (Remove k)
  pub set_before : (t : Thing) (k : ThingName) → height k < highest → order (Set t) < order (Remove k)

pub hitless-safe : IsSafeOrder hitless_rank
hitless-safe = record {
  make_after = λ t w good less small. let turns = make_low (name_of w) small in let high = make_high (name_of t) (height (name_of w)) good less small in omega (arith, turns, high);
  set_after = λ t w small. let turns = make_low (name_of w) small in let high = set_high (name_of t) (height (name_of w)) small in omega (arith, turns, high);
  remove_before = λ k m good less small. let turns = remove_low k small in let low = remove_less m (height k) good less small in omega (arith, turns, low);
  set_before = λ t k small. let turns = remove_low k small in let most = set-most (name_of t) in omega (arith, turns, most, small);
}

pub cold-safe : IsSafeOrder cold_rank
cold-safe = record {
  make_after = λ t w good less small. less;
  set_after = λ t w small. omega (arith, small);
  remove_before = λ k m good less small. let most = height_most m in omega (arith, less, most);
  set_before = λ t k small. omega (arith, small);
}

-- a new thing and another have one name where they overlap
pub record ThingsApart (old new : List Thing) : Type 0 where
  pub each : (t u : Thing) → IsIn t new → IsIn u old ⊎ IsIn u new → Overlap t u → name_of t ≡ name_of u

-- a plan in an order that leads from old things to new ones, where each are told apart and the new ones refer to each other
pub record IsSafePlan (order : PlanChange → ℕ) (old new : List Thing) (plan : List PlanChange) : Type 0 where
  pub safe : IsSafeOrder order
  pub old_named : HaveOwnNames old
  pub new_named : HaveOwnNames new
  pub within : ReferWithin new
  pub apart : ThingsApart old new
  pub is_plan : IsViewPlan order old new plan

module _ {order : PlanChange → ℕ} {old new : List Thing} {plan : List PlanChange} (p : IsSafePlan order old new plan) where
  abbrev stood : Thing → Type 0
  stood u = IsIn u old

  module _ (done : List PlanChange) (next : PlanChange) (due : List PlanChange) (cut : plan ≡ done ++ (next ∷ due)) where
    abbrev now : Thing → Type 0
    now = stands_after_all done stood

    next_in : IsIn next plan
    next_in = due-in p.is_plan done (next ∷ due) cut next (inl refl)

    -- no change that is due comes before the next
    not_before : (d : PlanChange) → IsIn d (next ∷ due) → order next ≤ order d
    not_before d (inl is) = let same : order d ≡ order next = ap order is in omega (arith, same)
    not_before d (inr i) = ((ranked-right order done (next ∷ due) (subst (AreRanked order) cut p.is_plan.in_order)).0 d i).0

    -- what a new thing refers to stands where that is made before the next change
    refers_well : (t : Thing) → IsIn t new → ((w : Thing) → height (name_of w) < height (name_of t) → height (name_of w) < highest → order (Make w) < order next) → (k : ThingName) → Refers t k → HasNamed now k
    refers_well t i late k r =
        let w = p.within.refers t k i r in
        let low = refers-lower t k r in
        let most = height_most (name_of t) in
        let heights : height (name_of w.0) ≡ height k = ap height w.2 in
        elim (new-stands p.is_plan done (next ∷ due) cut w.0 w.1) [
          | inl h ↦ (h.0, h.1, h.2 ∙ w.2)
          | inr make ↦ let early = not_before (Make w.0) make in let after_it = late w.0 (omega (arith, low, heights)) (omega (arith, most, low, heights)) in absurd (omega (arith, early, after_it))
        ]

    -- no thing that stands has the name of the next change, if no old one has
    fresh : ((u : Thing) → IsIn u old → name_of u ≡ subject next → ⊥) → (u : Thing) → now u → name_of u ≡ subject next → ⊥
    fresh none u h same =
        elim (origin done stood u h) [
          | inl there ↦ none u there.0 same
          | inr c ↦ (before p.is_plan done (next ∷ due) cut c.0 next c.1 (inl refl)).1 (sym (outcome-named c.0 u c.2) ∙ same)
        ]

    old_or_new : (u : Thing) → now u → IsIn u old ⊎ IsIn u new
    old_or_new u h = elim (origin done stood u h) [ inl there ↦ inl there.0 | inr c ↦ inr (outcome-new p.is_plan c.0 u (done-in p.is_plan done (next ∷ due) cut c.0 c.1) c.2) ]

  module _ (t : Thing) (done due : List PlanChange) where
    module _ (cut : plan ≡ done ++ (Make t ∷ due)) where
      make_new : IsIn t new × ((u : Thing) → IsIn u old → name_of u ≡ name_of t → ⊥)
      make_new = p.is_plan.makes t (next_in done (Make t) due cut)

      pub make-free : (u : Thing) → stands_after_all done stood u → Meet t u → ⊥
      make-free u h (inl same) = fresh done (Make t) due cut make_new.1 u h (sym same)
      make-free u h (inr lane) = fresh done (Make t) due cut make_new.1 u h (sym (p.apart.each t u make_new.0 (old_or_new done (Make t) due cut u h) lane))

      pub make-refers : (k : ThingName) → Refers t k → HasNamed (stands_after_all done stood) k
      make-refers = refers_well done (Make t) due cut t make_new.0 (λ w. p.safe.make_after t w (good-names new p.new_named t make_new.0))

    module _ (cut : plan ≡ done ++ (Set t ∷ due)) where
      set_new : IsIn t new × (u : Thing) × IsIn u old × (name_of u ≡ name_of t)
      set_new = p.is_plan.sets t (next_in done (Set t) due cut)

      pub set-there : HasNamed (stands_after_all done stood) (name_of t)
      set-there =
          elim (new-stands p.is_plan done (Set t ∷ due) cut t set_new.0) [
            | inl h ↦ h
            | inr make ↦ absurd ((p.is_plan.makes t (due-in p.is_plan done (Set t ∷ due) cut (Make t) make)).1 set_new.1 set_new.2 set_new.3)
          ]

      pub set-refers : (k : ThingName) → Refers t k → HasNamed (stands_after_all done stood) k
      set-refers = refers_well done (Set t) due cut t set_new.0 (λ w less small. p.safe.set_after t w small)

  module _ (k : ThingName) (done due : List PlanChange) (cut : plan ≡ done ++ (Remove k ∷ due)) where
    gone_old : (u : Thing) × IsIn u old × (name_of u ≡ k) × ((t : Thing) → IsIn t new → name_of t ≡ k → ⊥)
    gone_old = p.is_plan.removes k (next_in done (Remove k) due cut)

    pub remove-there : HasNamed (stands_after_all done stood) k
    remove-there =
        elim (old-stands p.is_plan done (Remove k ∷ due) cut gone_old.0 gone_old.1) [
          | inl h ↦ (h.0, h.1, h.2 ∙ gone_old.2)
          | inr gone ↦ absurd ((before p.is_plan done (Remove k ∷ due) cut (Remove (name_of gone_old.0)) (Remove k) gone (inl refl)).1 gone_old.2)
        ]

    -- what stands and refers to the name would be new
    pub remove-unused : (v : Thing) → stands_after_all done stood v → Refers v k → ⊥
    remove-unused v h r =
        let low = refers-lower v k r in
        let most = height_most (name_of v) in
        let small : height k < highest = omega (arith, low, most) in
        let i = now-new p.is_plan done (Remove k ∷ due) cut p.old_named v h
        (λ t set same. let late = not_before done (Remove k) due cut (Set t) set in let early = p.safe.set_before t k small in absurd (omega (arith, late, early)))
        (λ gone. let late = not_before done (Remove k) due cut (Remove (name_of v)) gone in let early = p.safe.remove_before k (name_of v) good low small in absurd (omega (arith, late, early))) in
        let w = p.within.refers v k i r in
        gone_old.3 w.0 w.1 w.2
      where
        good : IsGood (name_of v)
        good = elim (old_or_new done (Remove k) due cut v h) [ inl i ↦ good-names old p.old_named v i | inr i ↦ good-names new p.new_named v i ]

  -- ---- the end

  pub ends-new : (t : Thing) → stands_after_all plan stood t → IsIn t new
  ends-new t h = now-new p.is_plan plan [] (sym (append-nil plan)) p.old_named t h (λ u i same. elim i [ ]) (λ i. elim i [ ])

  pub new-ends : (t : Thing) → IsIn t new → stands_after_all plan stood t
  new-ends t i =
      elim (new-stands p.is_plan plan [] (sym (append-nil plan)) t i) [
        | inl h ↦ subst (stands_after_all plan stood) (p.new_named.one h.0 t (ends-new h.0 h.1) i h.2) h.1
        | inr make ↦ elim make [ ]
      ]

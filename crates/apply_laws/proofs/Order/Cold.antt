-- the due steps of a cold plan are two plans: all that is removed, and then all that is made
use Rattle.std.proofs.Common.{◌≡◌, ◌⊎◌, inl, inr, ℕ, ◌+◌, ◌-◌, ◌*◌, ◌≤◌, ◌++◌, List, [], ◌∷◌, length, map, refl, sym, ap, ◌∙◌, subst, arith, IsPermutation, IsSorted}
use Rattle.std.proofs.lemmas.List.{map-append}
use Rattle.sai_types.specs.declared.ids.Rid.{Rid}
use Rattle.sai_types.specs.declared.ids.Vid.{Vid}
use Rattle.sai_types.specs.declared.body.Object.{Object}
use Rattle.sai_types.specs.declared.plan.Mode.TheVariants as mode
use Rattle.sai_types.specs.declared.thing.Thing.{Thing}
use Rattle.sai_types.specs.Alike.{IsIn}
use Rattle.sai_types.specs.Names.{ThingName, name_kind, name_of}
use Rattle.sai_types.specs.Objects.{Objects, level}
use Rattle.sai_types.proofs.Membership.{in-either, in-left, in-map, map-in}
use Rattle.chip_names.specs.Naming.{entries_of}
use Rattle.chip_layout.specs.Counted.{AreDistinct}
use Rattle.chip_layout.specs.Layout.{Has}
use Rattle.chip_layout.proofs.Bodies.{kind-body}
use Rattle.chip_layout.proofs.Distinct.{distinct-by}
use Rattle.plan_laws.specs.Applied.{IsListedChip}
use Rattle.plan_laws.specs.Calls.{viewed}
use Rattle.plan_laws.specs.Old.{old_layout, old_things, tag_of}
use Rattle.plan_laws.specs.Plans.{IsViewPlan, PlanChange, Make, Remove, Set, cold_rank, subject}
use Rattle.plan_laws.proofs.Starting.{old-seen, seen-old}
use Rattle.view_match.specs.Keys.{keys_of_objects}
use Rattle.view_match.specs.Pairs.{new_keys, pairs_of}
use Rattle.apply_order.specs.Due.{due_steps, new_steps, old_steps}
use Rattle.apply_order.specs.Places.{by_new, by_old}
use Rattle.apply_order.specs.Ranks.{timed_cmp}
use Rattle.apply_order.specs.declared.ranks.PlanStep.{PlanStep}
use Rattle.apply_order.specs.declared.ranks.PlanStep.TheVariants as step
use Rattle.apply_order.specs.declared.ranks.Timed.{Timed}
use Rattle.apply_laws.specs.Viewed.{IsViewOf, things_in}
use Rattle.apply_laws.proofs.Order.Changes.{IsGoneDue, IsMadeDue, change_of, due-of, gone-due, made-due, name-is, new_thing, old_name, ranked, thing-is}
use Rattle.apply_laws.proofs.Order.Placed.{in-new, new-in, new-place, old-one, old-place}
use Rattle.apply_laws.proofs.Order.Dues.{joined-distinct, new-distinct, new-due, old-distinct, old-due}
use Rattle.apply_laws.proofs.Order.Ranked.{AreRising, IsColdRank, cold-rising, cold_value, level_most, top_level}
use Rattle.apply_laws.proofs.Order.Shuffled.{IsTold, distinct-shuffled, in-shuffled, shuffled-in}

-- ---- lists that are cut in two

pub rising-left : {X : Type 0} (n : X → ℕ) (xs ys : List X) → AreRising n (xs ++ ys) → AreRising n xs
rising-left n [] ys h = tt
rising-left n (x ∷ xs) ys h = (λ y i. h.0 y (in-left y xs ys i), rising-left n xs ys h.1)

pub rising-right : {X : Type 0} (n : X → ℕ) (xs ys : List X) → AreRising n (xs ++ ys) → AreRising n ys
rising-right n [] ys h = h
rising-right n (x ∷ xs) ys h = rising-right n xs ys h.1

rising-by : {X : Type 0} (n k : X → ℕ) (xs : List X) → ((x y : X) → IsIn x xs → IsIn y xs → n x ≤ n y → k x ≤ k y) → AreRising n xs → AreRising k xs
rising-by n k [] f h = tt
rising-by n k (x ∷ xs) f h = (λ y i. f x y (inl refl) (inr i) (h.0 y i), rising-by n k xs (λ a b i j. f a b (inr i) (inr j)) h.1)

distinct-left : {K : Type 0} (xs ys : List K) → AreDistinct (xs ++ ys) → AreDistinct xs
distinct-left [] ys h = tt
distinct-left (x ∷ xs) ys h = (λ i. h.0 (in-left x xs ys i), distinct-left xs ys h.1)

distinct-right : {K : Type 0} (xs ys : List K) → AreDistinct (xs ++ ys) → AreDistinct ys
distinct-right [] ys h = h
distinct-right (x ∷ xs) ys h = distinct-right xs ys h.1

-- items of one sort come before those of another
pub record IsCutInTwo {X : Type 0} (P Q : X → Type 0) (xs : List X) : Type 0 where
  pub front : List X
  pub back : List X
  pub all : xs ≡ front ++ back
  pub first : (x : X) → IsIn x front → P x
  pub last : (x : X) → IsIn x back → Q x

cut : {X : Type 0} (P Q : X → Type 0) (n : X → ℕ) → ((x y : X) → Q x → P y → n x ≤ n y → ⊥) → (xs : List X) → ((x : X) → IsIn x xs → Q x ⊎ P x) → AreRising n xs → IsCutInTwo P Q xs
cut P Q n apart [] each rising = record { front = []; back = []; all = refl; first = λ x i. elim i [ ]; last = λ x i. elim i [ ] }
cut {X} P Q n apart (x ∷ xs) each rising =
    let rest = cut P Q n apart xs (λ y i. each y (inr i)) rising.1 in
    elim (each x (inl refl)) [
      | inl made ↦ record {
        front = [];
        back = x ∷ xs;
        all = refl;
        first = λ y i. elim i [ ];
        last = λ y i. elim i [
          | inl is ↦ subst Q (sym is) made
          | inr k ↦ elim (each y (inr k)) [ inl q ↦ q | inr p ↦ absurd (apart x y made p (rising.0 y k)) ]
        ];
      }
      | inr gone ↦ record {
        front = x ∷ rest.front;
        back = rest.back;
        all = ap (λ l. x ∷ l) rest.all;
        first = λ y i. elim i [ inl is ↦ subst P (sym is) gone | inr k ↦ rest.first y k ];
        last = rest.last;
      }
    ]

-- a number for each step of a cold plan
abbrev step_code : PlanStep → ℕ
step_code (step.Make j) = 2 * j
step_code (step.Set i j) = 0
step_code (step.Remove i) = 2 * i + 1

abbrev code : Timed → ℕ
code t = step_code t.step

told_or_not : (m n : ℕ) → IsTold m n
told_or_not m n = grind arith

-- ---- the steps

module _ {made : ℕ} (old : List (Object Rid)) {new : List (Object Vid)} {things : List (Vid × Thing)} (chip : IsListedChip made (entries_of old)) (view : IsViewOf things new) where
  abbrev O : Objects
  O = entries_of old

  abbrev N : List Thing
  N = things_in things

  abbrev due : List Timed
  due = due_steps mode.Cold old new (pairs_of old new)

  abbrev by_step : PlanStep → PlanChange
  by_step = change_of (new_thing things) (old_name (tag_of O N) O)

  abbrev change : Timed → PlanChange
  change t = by_step t.step

  abbrev pub IsGone : Timed → Type 0
  IsGone t = IsGoneDue old chip view mode.Cold t

  abbrev pub IsMade : Timed → Type 0
  IsMade t = IsMadeDue old chip view mode.Cold t

  of_due : (t : Timed) → IsIn t due → IsMade t ⊎ IsGone t
  of_due t i = elim (due-of old chip view mode.Cold t i) [ inl d ↦ inl d | inr r ↦ elim r [ inl d ↦ elim d.pair [ ] | inr d ↦ inr d ] ]

  good_of : (t : Timed) → IsMade t ⊎ IsGone t → IsColdRank t.rank
  good_of t (inl d) = subst IsColdRank (sym d.rank) tt
  good_of t (inr d) = subst IsColdRank (sym d.rank) tt

  made_is : (t : Timed) → (d : IsMade t) → change t ≡ Make d.x.1
  made_is t d = ap by_step d.step ∙ ap Make (thing-is old chip view mode.Cold d.j d.x d.there)

  gone_is : (t : Timed) → (d : IsGone t) → change t ≡ Remove (name_of d.was.thing)
  gone_is t d = ap by_step d.step ∙ ap Remove (name-is old chip view mode.Cold d.i d.o.entry d.o.body d.was)

  made_value : (t : Timed) → IsMade t → cold_value t.rank ≡ 100 + cold_rank (change t)
  made_value t d = ap cold_value d.rank ∙ ap (λ k. 100 + level k) (kind-body (Has (viewed things)) d.x.1 d.n.body d.of) ∙ ap (λ c. 100 + cold_rank c) (sym (made_is t d))

  gone_value : (t : Timed) → IsGone t → cold_rank (change t) + top_level ≡ 1400 + cold_value t.rank
  gone_value t d =
      let kinds = kind-body (Has (old_layout O N)) d.was.thing d.o.body d.was.of in
      let rank : cold_value t.rank ≡ top_level - level (name_kind (name_of d.was.thing)) = ap cold_value d.rank ∙ ap (λ k. top_level - level k) kinds in
      let value : cold_rank (change t) ≡ 1400 - level (name_kind (name_of d.was.thing)) = ap cold_rank (gone_is t d) in
      let most = level_most (name_kind (name_of d.was.thing)) in
      omega (arith, rank, value, most)

  gone_low : (t : Timed) → IsGone t → cold_value t.rank ≤ top_level
  gone_low t d =
      let kinds = kind-body (Has (old_layout O N)) d.was.thing d.o.body d.was.of in
      let rank : cold_value t.rank ≡ top_level - level (name_kind (name_of d.was.thing)) = ap cold_value d.rank ∙ ap (λ k. top_level - level k) kinds in
      omega (arith, rank)

  made_before : (s t : Timed) → IsMade s → IsGone t → cold_value s.rank ≤ cold_value t.rank → ⊥
  made_before s t a b h = let one = made_value s a in let two = gone_low t b in omega (arith, one, two, h)

  due-places : AreDistinct (map code due)
  due-places =
      let news = new_steps mode.Cold (by_new []) (new_keys new) new 0 in
      let olds = old_steps mode.Cold (by_old []) (keys_of_objects O) old 0 in
      subst AreDistinct (sym (map-append code news olds))
      (joined-distinct mode.Cold (by_new []) code (map code news) (map code olds)
      (new-distinct mode.Cold (by_new []) code (λ p. 2 * p) (λ key n p. refl) (new_keys new) new 0 (length new) (omega arith) (λ p q a b h. omega (arith, h)))
      (old-distinct mode.Cold (by_old []) code (λ p. 2 * p + 1) (λ key o p. refl) (keys_of_objects O) old 0 (λ p q o u a b h. omega (arith, h)))
      (λ k i j.
      let s = map-in code news k i in
      let t = map-in code olds k j in
      let d = new-due mode.Cold (by_new []) (new_keys new) new 0 s.0 s.1 in
      let g = old-due mode.Cold (by_old []) (keys_of_objects O) old 0 t.0 t.1 in
      let one : k ≡ 2 * (0 + d.far) = s.2 ∙ ap code d.is in
      let two : k ≡ 2 * (0 + g.far) + 1 = t.2 ∙ ap code g.is in
      omega (arith, one, two)))

  thing_in : (t u : Thing) → Make t ≡ Make u → t ≡ u
  thing_in t u e = cc

  name_in : (k l : ThingName) → Remove k ≡ Remove l → k ≡ l
  name_in k l e = cc

  module _ (steps : List Timed) (same : IsPermutation due steps) (sorted : IsSorted timed_cmp steps) where
    of_step : (t : Timed) → IsIn t steps → IsMade t ⊎ IsGone t
    of_step t i = of_due t (in-shuffled due steps same t i)

    rises : AreRising (λ (t : Timed). cold_value t.rank) steps
    rises = cold-rising steps (λ t i. good_of t (of_step t i)) sorted

    -- the steps that remove come before those that make
    pub cold-cut : IsCutInTwo IsGone IsMade steps
    cold-cut = cut IsGone IsMade (λ (t : Timed). cold_value t.rank) made_before steps of_step rises

    abbrev pub removes : List PlanChange
    removes = map change cold-cut.front

    abbrev pub makes : List PlanChange
    makes = map change cold-cut.back

    abbrev front : List Timed
    front = cold-cut.front

    abbrev back : List Timed
    back = cold-cut.back

    in_halves : (s : PlanStep) → (t : Timed) × IsIn t due × (t.step ≡ s) → (t : Timed) × (IsIn t front ⊎ IsIn t back) × (t.step ≡ s)
    in_halves s x = (x.0, in-either x.0 front back (subst (λ l. IsIn x.0 l) cold-cut.all (shuffled-in due steps same x.0 x.1)), x.2)

    removed_in : (k : ℕ) (x : (t : Timed) × (IsIn t front ⊎ IsIn t back) × (t.step ≡ step.Remove k)) → IsIn x.0 front
    removed_in k x = elim x.1 [ inl i ↦ i | inr i ↦ let steps_same = sym (cold-cut.last x.0 i).step ∙ x.2 in absurd cc ]

    made_in : (k : ℕ) (x : (t : Timed) × (IsIn t front ⊎ IsIn t back) × (t.step ≡ step.Make k)) → IsIn x.0 back
    made_in k x = elim x.1 [ inr i ↦ i | inl i ↦ let steps_same = sym (cold-cut.first x.0 i).step ∙ x.2 in absurd cc ]

    in_front : (c : PlanChange) → IsIn c removes → (t : Timed) × IsGone t × (c ≡ change t)
    in_front c i = let t = map-in change front c i in (t.0, cold-cut.first t.0 t.1, t.2)

    in_back : (c : PlanChange) → IsIn c makes → (t : Timed) × IsMade t × (c ≡ change t)
    in_back c i = let t = map-in change back c i in (t.0, cold-cut.last t.0 t.1, t.2)

    removes_only : (t : Thing) → IsIn (Make t) removes ⊎ IsIn (Set t) removes → ⊥
    removes_only t (inl i) = let x = in_front (Make t) i in let is = x.2 ∙ gone_is x.0 x.1 in cc
    removes_only t (inr i) = let x = in_front (Set t) i in let is = x.2 ∙ gone_is x.0 x.1 in cc

    makes_only : (c : PlanChange) → IsIn c makes → (t : Thing) × IsIn t N × (c ≡ Make t)
    makes_only c i = let x = in_back c i in (x.1.x.1, new-in old chip view x.1.j x.1.x x.1.there, x.2 ∙ made_is x.0 x.1)

    -- ---- no two are about one name

    places : AreDistinct (map code steps)
    places = distinct-shuffled told_or_not code due steps same (due-places)

    halves : AreDistinct (map code front ++ map code back)
    halves = subst AreDistinct (ap (map code) cold-cut.all ∙ map-append code front back) places

    front-apart : AreDistinct (map (λ t. subject (change t)) front)
    front-apart = distinct-by code (λ t. subject (change t)) front (λ s t i j e.
        let a = cold-cut.first s i in
        let b = cold-cut.first t j in
        let same_place = old-one old chip view a.i b.i a.o.entry b.o.entry a.o.body b.o.body a.was b.was (ap subject (sym (gone_is s a)) ∙ e ∙ ap subject (gone_is t b)) in
        ap step_code a.step ∙ ap (λ n. step_code (step.Remove n)) same_place ∙ sym (ap step_code b.step)) (distinct-left (map code front) (map code back) halves)

    back-apart : AreDistinct (map (λ t. subject (change t)) back)
    back-apart = distinct-by code (λ t. subject (change t)) back (λ s t i j e.
        let a = cold-cut.last s i in
        let b = cold-cut.last t j in
        let same_place = new-place old chip view a.j b.j a.x b.x a.there b.there (ap subject (sym (made_is s a)) ∙ e ∙ ap subject (made_is t b)) in
        ap step_code a.step ∙ ap (λ n. step_code (step.Make n)) same_place ∙ sym (ap step_code b.step)) (distinct-right (map code front) (map code back) halves)

    -- ---- the two plans

    pub cold-removes : IsViewPlan cold_rank (old_things O N) [] removes
    cold-removes = record {
      makes = λ t i. absurd (removes_only t (inl i));
      sets = λ t i. absurd (removes_only t (inr i));
      removes = λ k i.
          let x = in_front (Remove k) i in
          let is : k ≡ name_of x.1.was.thing = name_in k (name_of x.1.was.thing) (x.2 ∙ gone_is x.0 x.1) in
          (x.1.was.thing, seen-old chip N x.1.was.id x.1.was.thing x.1.was.stands, sym is, λ t j e. elim j [ ]);
      whole = λ t i. elim i [ ];
      gone = λ u i.
          let s = old-seen chip N u i in
          let w = old-place old chip view s.0 u s.1 in
          let x = in_halves (step.Remove w.place) (gone-due old chip view mode.Cold w.place w.entry w.body w.was refl) in
          let is : change x.0 ≡ Remove (name_of u) = ap by_step x.2 ∙ ap Remove (name-is old chip view mode.Cold w.place w.entry w.body w.was ∙ ap name_of w.thing) in
          inr (subst (λ c. IsIn c removes) is (in-map change front x.0 (removed_in w.place x)));
      in_order = ranked cold_rank change (λ (t : Timed). cold_rank (change t)) front (λ t i. refl) (rising-by (λ (t : Timed). cold_value t.rank) (λ (t : Timed). cold_rank (change t)) front (λ s t i j h.
          let a = gone_value s (cold-cut.first s i) in
          let b = gone_value t (cold-cut.first t j) in
          omega (arith, a, b, h)) (rising-left (λ (t : Timed). cold_value t.rank) front back (subst (AreRising (λ (t : Timed). cold_value t.rank)) cold-cut.all rises))) front-apart;
    }

    pub cold-makes : IsViewPlan cold_rank [] N makes
    cold-makes = record {
      makes = λ t i.
          let x = makes_only (Make t) i in
          let is : t ≡ x.0 = thing_in t x.0 x.2 in
          (subst (λ z. IsIn z N) (sym is) x.1, λ u j e. elim j [ ]);
      sets = λ t i. let x = makes_only (Set t) i in let is = x.2 in absurd cc;
      removes = λ k i. let x = makes_only (Remove k) i in let is = x.2 in absurd cc;
      whole = λ t i.
          let n = in-new old chip view t i in
          let x = in_halves (step.Make n.0) (made-due old chip view mode.Cold n.0 n.1 n.2 refl) in
          let is : change x.0 ≡ Make t = ap by_step x.2 ∙ ap Make (thing-is old chip view mode.Cold n.0 n.1 n.2 ∙ sym n.3) in
          inr (inl (subst (λ c. IsIn c makes) is (in-map change back x.0 (made_in n.0 x))));
      gone = λ u i. elim i [ ];
      in_order = ranked cold_rank change (λ (t : Timed). cold_rank (change t)) back (λ t i. refl) (rising-by (λ (t : Timed). cold_value t.rank) (λ (t : Timed). cold_rank (change t)) back (λ s t i j h.
          let a = made_value s (cold-cut.last s i) in
          let b = made_value t (cold-cut.last t j) in
          omega (arith, a, b, h)) (rising-right (λ (t : Timed). cold_value t.rank) front back (subst (AreRising (λ (t : Timed). cold_value t.rank)) cold-cut.all rises))) back-apart;
    }

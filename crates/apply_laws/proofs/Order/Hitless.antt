-- the due steps of a hitless plan are a plan of the views, in its order
use Rattle.std.proofs.Common.{◌≡◌, ◌⊎◌, inl, inr, ℕ, List, [], ◌∷◌, map, Option, None, Some, refl, sym, ap, ◌∙◌, subst, IsPermutation, IsSorted, arith}
use Rattle.std.specs.List.{slice_get}
use Rattle.sai_types.specs.declared.ids.Rid.{Rid}
use Rattle.sai_types.specs.declared.ids.Vid.{Vid}
use Rattle.sai_types.specs.declared.body.Body.{Body}
use Rattle.sai_types.specs.declared.body.Entry.{Entry}
use Rattle.sai_types.specs.declared.body.Object.{Object}
use Rattle.sai_types.specs.declared.plan.Mode.TheVariants as mode
use Rattle.sai_types.specs.declared.thing.Thing.{Thing}
use Rattle.sai_types.specs.Alike.{IsIn}
use Rattle.sai_types.specs.Names.{ThingName, name_of}
use Rattle.sai_types.specs.Objects.{Objects}
use Rattle.chip_names.specs.Naming.{entries_of}
use Rattle.chip_layout.specs.Counted.{AreDistinct}
use Rattle.chip_layout.specs.Layout.{Has}
use Rattle.plan_laws.specs.Applied.{IsListedChip}
use Rattle.plan_laws.specs.Calls.{viewed}
use Rattle.plan_laws.specs.Old.{old_layout, old_things, tag_of}
use Rattle.plan_laws.specs.Plans.{AreRanked, IsViewPlan, PlanChange, Make, Remove, Set, hitless_rank, subject}
use Rattle.sai_types.specs.Named.{thing_by}
use Rattle.sai_types.proofs.Membership.{in-map, map-in}
use Rattle.chip_layout.specs.Seen.{tagged}
use Rattle.plan_laws.proofs.Named.{same-or}
use Rattle.plan_laws.proofs.Starting.{old-named, old-seen, seen-old}
use Rattle.view_match.specs.Pairs.{pairs_of}
use Rattle.apply_order.specs.Due.{due_steps}
use Rattle.apply_order.specs.Places.{by_new, by_old, partner_at}
use Rattle.apply_order.specs.Ranks.{timed_cmp}
use Rattle.apply_order.specs.declared.ranks.PlanStep.{PlanStep}
use Rattle.apply_order.specs.declared.ranks.PlanStep.TheVariants as step
use Rattle.apply_order.specs.declared.ranks.Timed.{Timed}
use Rattle.apply_laws.specs.Viewed.{HaveOneLanes, IsViewOf, things_in}
use Rattle.apply_laws.proofs.Order.Changes.{AreApart, IsDueStep, change_of, due-distinct, due-of, free-new, free-old, gone-due, made-due, name-is, new_thing, old_name, ranked, set-due, thing-is}
use Rattle.apply_laws.proofs.Order.Placed.{IsOldAt, in-new, matched, new-in, old-place, pair-at}
use Rattle.apply_laws.proofs.Order.Puts.{old-from}
use Rattle.apply_laws.proofs.Order.Ranked.{AreRising, IsHitlessRank, hitless-rising, hitless_value}
use Rattle.apply_laws.proofs.Order.Shuffled.{distinct-shuffled, in-shuffled, shuffled-in}
use Rattle.apply_laws.proofs.Order.Valued.{make-good, make-value, remove-good, remove-value, set-good, set-value}
use Rattle.std.proofs.lemmas.Option.{same_Some}

module _ {made : ℕ} (old : List (Object Rid)) {new : List (Object Vid)} {things : List (Vid × Thing)} (chip : IsListedChip made (entries_of old)) (view : IsViewOf things new) (lanes : HaveOneLanes (entries_of old) (things_in things)) where
  abbrev O : Objects
  O = entries_of old

  abbrev N : List Thing
  N = things_in things

  abbrev pairs : List (ℕ × ℕ)
  pairs = pairs_of old new

  abbrev due : List Timed
  due = due_steps mode.Hitless old new (pairs_of old new)

  abbrev change : Timed → PlanChange
  change t = change_of (new_thing things) (old_name (tag_of O N) O) t.step

  -- a new thing without a partner has the name of no old one, and an old one without has that of no new one
  pub lacks : (j : ℕ) (x : Vid × Thing) → slice_get things j ≡ Some x → partner_at (by_new pairs) j ≡ None → (u : Thing) → IsIn u (old_things O N) → name_of u ≡ name_of x.1 → ⊥
  lacks j x there free u i same =
      let s = old-seen chip N u i in
      let w = old-place old chip view s.0 u s.1 in
      free-new old chip view mode.Hitless w.place j free (matched old chip view lanes w.place j w.entry w.body w.was x there (ap name_of w.thing ∙ same))

  pub apart : AreApart old chip view mode.Hitless
  apart i j e b w free x there same = free-old old chip view mode.Hitless i j free (matched old chip view lanes i j e b w x there same)

  -- ---- what the changes are

  abbrev ChangeMade : PlanChange → Type 0
  ChangeMade c = (j : ℕ) × (x : Vid × Thing) × (slice_get things j ≡ Some x) × (partner_at (by_new pairs) j ≡ None) × (c ≡ Make x.1)

  abbrev ChangeSet : PlanChange → Type 0
  ChangeSet c = (i : ℕ) × (j : ℕ) × (x : Vid × Thing) × (slice_get things j ≡ Some x) × IsIn (i, j) pairs × (c ≡ Set x.1)

  abbrev ChangeGone : PlanChange → Type 0
  ChangeGone c = (i : ℕ) × (e : Entry Rid) × (b : Body Rid) × (w : IsOldAt old chip view i e b) × (partner_at (by_old pairs) i ≡ None) × (c ≡ Remove (name_of w.thing))

  by_due : (t : Timed) → IsDueStep old chip view mode.Hitless t → ChangeMade (change t) ⊎ (ChangeSet (change t) ⊎ ChangeGone (change t))
  by_due t (inl d) = inl (d.j, d.x, d.there, d.free, ap (change_of (new_thing things) (old_name (tag_of O N) O)) d.step ∙ ap Make (thing-is old chip view mode.Hitless d.j d.x d.there))
  by_due t (inr (inl d)) = inr (inl (d.i, d.j, d.x, d.there, d.pair, ap (change_of (new_thing things) (old_name (tag_of O N) O)) d.step ∙ ap Set (thing-is old chip view mode.Hitless d.j d.x d.there)))
  by_due t (inr (inr d)) = inr (inr (d.i, d.o.entry, d.o.body, d.was, d.free, ap (change_of (new_thing things) (old_name (tag_of O N) O)) d.step ∙ ap Remove (name-is old chip view mode.Hitless d.i d.o.entry d.o.body d.was)))

  -- ---- their ranks

  value_of : (t : Timed) → IsDueStep old chip view mode.Hitless t → hitless_rank (change t) ≡ hitless_value t.rank
  value_of t (inl d) =
      ap hitless_rank (ap (change_of (new_thing things) (old_name (tag_of O N) O)) d.step ∙ ap Make (thing-is old chip view mode.Hitless d.j d.x d.there))
      ∙ sym (ap hitless_value d.rank ∙ make-value (Has (viewed things)) d.x.1 d.n.body d.of)
  value_of t (inr (inl d)) =
      ap hitless_rank (ap (change_of (new_thing things) (old_name (tag_of O N) O)) d.step ∙ ap Set (thing-is old chip view mode.Hitless d.j d.x d.there))
      ∙ sym (ap hitless_value d.rank ∙ set-value (Has (viewed things)) d.x.1 d.n.body d.of)
  value_of t (inr (inr d)) =
      ap hitless_rank (ap (change_of (new_thing things) (old_name (tag_of O N) O)) d.step ∙ ap Remove (name-is old chip view mode.Hitless d.i d.o.entry d.o.body d.was))
      ∙ sym (ap hitless_value d.rank ∙ remove-value (Has (old_layout O N)) d.was.thing d.o.body d.was.of)

  good_of : (t : Timed) → IsDueStep old chip view mode.Hitless t → IsHitlessRank t.rank
  good_of t (inl d) = subst IsHitlessRank (sym d.rank) (make-good (Has (viewed things)) d.x.1 d.n.body d.of (λ v p g is. view.view.named.proper v p g (subst (λ z. IsIn z N) is (new-in old chip view d.j d.x d.there))))
  good_of t (inr (inl d)) = subst IsHitlessRank (sym d.rank) (set-good (Has (viewed things)) d.x.1 d.n.body d.of)
  good_of t (inr (inr d)) = subst IsHitlessRank (sym d.rank) (remove-good (Has (old_layout O N)) d.was.thing d.o.body d.was.of (λ v p g is. (old-named chip N).proper v p g (subst (λ z. IsIn z (old_things O N)) is (seen-old chip N d.was.id d.was.thing d.was.stands))))

  -- ---- the plan

  module _ (steps : List Timed) (same : IsPermutation due steps) where
    abbrev pub changes : List PlanChange
    changes = map change steps

    of_step : (t : Timed) → IsIn t steps → IsDueStep old chip view mode.Hitless t
    of_step t i = due-of old chip view mode.Hitless t (in-shuffled due steps same t i)

    of_change : (c : PlanChange) → IsIn c changes → ChangeMade c ⊎ (ChangeSet c ⊎ ChangeGone c)
    of_change c i =
        let t = map-in change steps c i in
        subst (λ d. ChangeMade d ⊎ (ChangeSet d ⊎ ChangeGone d)) (sym t.2) (by_due t.0 (of_step t.0 t.1))

    has_change : (s : PlanStep) (c : PlanChange) → (t : Timed) × IsIn t due × (t.step ≡ s) → change_of (new_thing things) (old_name (tag_of O N) O) s ≡ c → IsIn c changes
    has_change s c t is = subst (λ d. IsIn d changes) (ap (change_of (new_thing things) (old_name (tag_of O N) O)) t.2 ∙ is) (in-map change steps t.0 (shuffled-in due steps same t.0 t.1))

    makes : (t : Thing) → IsIn (Make t) changes → IsIn t N × ((u : Thing) → IsIn u (old_things O N) → name_of u ≡ name_of t → ⊥)
    makes t i = by (of_change (Make t) i)
      where
        by : ChangeMade (Make t) ⊎ (ChangeSet (Make t) ⊎ ChangeGone (Make t)) → IsIn t N × ((u : Thing) → IsIn u (old_things O N) → name_of u ≡ name_of t → ⊥)
        by (inl c) =
            let is : t ≡ c.1.1 = cc (c.4) in
            (subst (λ z. IsIn z N) (sym is) (new-in old chip view c.0 c.1 c.2), λ u j e. lacks c.0 c.1 c.2 c.3 u j (e ∙ ap name_of is))
        by (inr (inl c)) = absurd (cc (c.5))
        by (inr (inr c)) = absurd (cc (c.5))

    sets : (t : Thing) → IsIn (Set t) changes → IsIn t N × (u : Thing) × IsIn u (old_things O N) × (name_of u ≡ name_of t)
    sets t i = by (of_change (Set t) i)
      where
        by : ChangeMade (Set t) ⊎ (ChangeSet (Set t) ⊎ ChangeGone (Set t)) → IsIn t N × (u : Thing) × IsIn u (old_things O N) × (name_of u ≡ name_of t)
        by (inl c) = absurd (cc (c.4))
        by (inr (inl c)) =
            let is : t ≡ c.2.1 = cc (c.5) in
            let p = pair-at old chip view c.0 c.1 c.4 in
            let news = same_Some p.now c.2 (sym p.there ∙ c.3) in
            (subst (λ z. IsIn z N) (sym is) (new-in old chip view c.1 c.2 c.3), p.was.thing, seen-old chip N p.was.id p.was.thing p.was.stands, p.same ∙ ap (λ (z : Vid × Thing). name_of z.1) news ∙ ap name_of (sym is))
        by (inr (inr c)) = absurd (cc (c.5))

    removes : (k : ThingName) → IsIn (Remove k) changes → (u : Thing) × IsIn u (old_things O N) × (name_of u ≡ k) × ((t : Thing) → IsIn t N → name_of t ≡ k → ⊥)
    removes k i = by (of_change (Remove k) i)
      where
        by : ChangeMade (Remove k) ⊎ (ChangeSet (Remove k) ⊎ ChangeGone (Remove k)) → (u : Thing) × IsIn u (old_things O N) × (name_of u ≡ k) × ((t : Thing) → IsIn t N → name_of t ≡ k → ⊥)
        by (inl c) = absurd (cc (c.4))
        by (inr (inl c)) = absurd (cc (c.5))
        by (inr (inr c)) =
            let is : k ≡ name_of c.3.thing = cc (c.5) in (
              c.3.thing,
              seen-old chip N c.3.id c.3.thing c.3.stands,
              sym is,
              λ t j e.
                  let n = in-new old chip view t j in
                  apart c.0 n.0 c.1 c.2 c.3 c.4 n.1 n.2 (sym is ∙ sym e ∙ ap name_of n.3),
            )

    whole : (t : Thing) → IsIn t N → IsIn (Make t) changes ⊎ IsIn (Set t) changes
    whole t i =
        let n = in-new old chip view t i in
        let is = thing-is old chip view mode.Hitless n.0 n.1 n.2 ∙ sym n.3 in
        by n.0 n.1 n.2 is (partner_at (by_new pairs) n.0) refl
      where
        by : (j : ℕ) (x : Vid × Thing) → slice_get things j ≡ Some x → new_thing things j ≡ t → (p : Option ℕ) → partner_at (by_new pairs) j ≡ p → IsIn (Make t) changes ⊎ IsIn (Set t) changes
        by j x there is None e = inl (has_change (step.Make j) (Make t) (made-due old chip view mode.Hitless j x there e) (ap Make is))
        by j x there is (Some k) e = inr (has_change (step.Set k j) (Set t) (set-due old chip view mode.Hitless k j x there e) (ap Set is))

    gone : (u : Thing) → IsIn u (old_things O N) → ((t : Thing) × IsIn t N × (name_of t ≡ name_of u)) ⊎ IsIn (Remove (name_of u)) changes
    gone u i =
        let s = old-seen chip N u i in
        let w = old-place old chip view s.0 u s.1 in
        by w.place w.entry w.body w.was (ap name_of w.thing) (partner_at (by_old pairs) w.place) refl
      where
        by : (n : ℕ) (e : Entry Rid) (b : Body Rid) → (w : IsOldAt old chip view n e b) → name_of w.thing ≡ name_of u → (p : Option ℕ) → partner_at (by_old pairs) n ≡ p → ((t : Thing) × IsIn t N × (name_of t ≡ name_of u)) ⊎ IsIn (Remove (name_of u)) changes
        by n e b w is None free = inr (has_change (step.Remove n) (Remove (name_of u)) (gone-due old chip view mode.Hitless n e b w free) (ap Remove (name-is old chip view mode.Hitless n e b w ∙ is)))
        by n e b w is (Some j) found =
            let p = pair-at old chip view n j (old-from pairs n j found) in
            let objects = same_Some (p.entry, p.body) (e, b) (sym p.was.at ∙ w.at) in
            let things_same : p.was.thing ≡ w.thing = same_Some p.was.thing w.thing (sym p.was.is ∙ ap (thing_by (tagged (tag_of O N)) O) objects ∙ w.is) in
            inl (p.now.1, new-in old chip view j p.now p.there, sym p.same ∙ ap name_of things_same ∙ is)

    pub plan-by : (rank : PlanChange → ℕ) → AreRanked rank changes → IsViewPlan rank (old_things O N) N changes
    plan-by rank in_order = record {
      makes = makes;
      sets = sets;
      removes = removes;
      whole = λ t i. inr (whole t i);
      gone = gone;
      in_order = in_order;
    }

    own_names : AreDistinct (map (λ t. subject (change t)) steps)
    own_names = distinct-shuffled same-or (λ t. subject (change t)) due steps same (due-distinct old chip view mode.Hitless apart)

    pub hitless-plan : IsSorted timed_cmp steps → IsViewPlan hitless_rank (old_things O N) N changes
    hitless-plan sorted = plan-by hitless_rank (ranked hitless_rank change (λ (t : Timed). hitless_value t.rank) steps (λ t i. value_of t (of_step t i)) (hitless-rising steps (λ t i. good_of t (of_step t i)) sorted) own_names)

    -- in whatever order
    pub plain-plan : IsViewPlan (λ c. 0) (old_things O N) N changes
    plain-plan = plan-by (λ c. 0) (ranked (λ c. 0) change (λ t. 0) steps (λ t i. refl) (level_all steps) own_names)
      where
        level_all : {X : Type 0} (xs : List X) → AreRising (λ x. 0) xs
        level_all [] = tt
        level_all (x ∷ xs) = (λ y i. omega arith, level_all xs)

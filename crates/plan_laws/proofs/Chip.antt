-- what a chip shows while a hitless plan is made, and that it is steady
use Rattle.std.proofs.Common.{◌≡◌, ◌⊎◌, inl, inr, ℕ, ◌++◌, List, [], map, Some, refl, sym, ap, ◌∙◌, subst}
use Rattle.std.proofs.lemmas.List.{append_assoc}
use Rattle.swss_types.specs.Address.{IsProperPrefix}
use Rattle.swss_types.specs.declared.vrf.Packet.{Packet}
use Rattle.swss_types.specs.declared.vrf.Vrf.{Vrf}
use Rattle.swss_types.specs.declared.address.Prefix.{Prefix}
use Rattle.sai_types.specs.declared.ids.Rid.{Rid}
use Rattle.sai_types.specs.declared.weight.WHop.{WHop}
use Rattle.sai_types.specs.declared.thing.Goal.{Goal}
use Rattle.sai_types.specs.declared.thing.Goal.TheVariants as goal
use Rattle.sai_types.specs.declared.thing.Thing.{Thing}
use Rattle.sai_types.specs.declared.thing.Thing.TheVariants as thing
use Rattle.sai_types.specs.Alike.{IsIn}
use Rattle.sai_types.specs.Forwarding.{decide, forward}
use Rattle.sai_types.specs.Names as name
use Rattle.sai_types.specs.Names.{ThingName, name_of}
use Rattle.sai_types.specs.Objects.{Objects}
use Rattle.sai_types.proofs.Membership.{in-map, map-in}
use Rattle.chip_layout.specs.Layout.{Layout}
use Rattle.plan_laws.specs.Applied.{chip_things}
use Rattle.plan_laws.specs.Plans.{PlanChange, IsViewPlan, Remove, stands_after_all, hitless_rank, outcome}
use Rattle.plan_laws.specs.Steady.{ForwardsAfter, IsForwarding, IsHitless, IsOldOrNew, StaysNew}
use Rattle.plan_laws.specs.Views.{HaveOwnNames}
use Rattle.plan_laws.proofs.Following.{IsUntouched, done-in, done-stands, origin, outcome-new, still}
use Rattle.plan_laws.proofs.Macs.{either, hitless, kept}
use Rattle.plan_laws.proofs.Shown.{AreTargets, real_goal, real_route, shown-all, shown-sound}
use Rattle.plan_laws.proofs.Stepping.{IsMidMoment, IsPortName}
use Rattle.plan_laws.proofs.Targets.{IsTaggedPlan, group-of_route, member-only, member-there, target-rising}

pub no_port : (k : ThingName) → IsForwarding k → IsPortName k → ⊥
no_port (name.Port lane) fw port = fw
no_port _ fw port = port

-- ---- the same changes of things with real hops

module _ (hops_of : List WHop → List WHop) where
  abbrev real : Thing → Thing
  real = real_route hops_of

  real_name : (t : Thing) → name_of (real t) ≡ name_of t
  real_name (thing.Route v p g) = refl
  real_name _ = refl

  goal_fixed : (v : Vrf) (p : Prefix) (g : Goal) (new : List Thing) → ((hops : List WHop) → IsIn (thing.Group hops) new → hops_of hops ≡ hops) → ((tag : List WHop) → IsIn (thing.Route v p (goal.Group tag)) new → IsIn (thing.Group tag) new) → IsIn (thing.Route v p g) new → real_goal hops_of g ≡ g
  goal_fixed v p goal.Drop new same there i = refl
  goal_fixed v p (goal.Direct on) new same there i = refl
  goal_fixed v p (goal.Via hop) new same there i = refl
  goal_fixed v p (goal.Group tag) new same there i = ap goal.Group (same tag (there tag i))

module _ {hops_of : List WHop → List WHop} {old new : List Thing} {plan : List PlanChange} (q : IsTaggedPlan hops_of old new plan) where
  abbrev shown : List Thing
  shown = map (real hops_of) old

  in_shown : (t : Thing) → IsIn t old → IsIn (real hops_of t) shown
  in_shown = in-map (real hops_of) old

  shown_in : (u : Thing) → IsIn u shown → (t : Thing) × IsIn t old × (real hops_of t ≡ u) × (name_of t ≡ name_of u)
  shown_in u i = let x = map-in (real hops_of) old u i in (x.0, x.1, sym x.2, sym (real_name hops_of x.0) ∙ ap name_of (sym x.2))

  -- a new thing has its real hops
  new_real : (t : Thing) → IsIn t new → real hops_of t ≡ t
  new_real (thing.Route v p g) i = ap (thing.Route v p) (goal_fixed hops_of v p g new q.same (λ tag j. group-of_route q v p tag j) i)
  new_real _ i = refl

  proper_by : (v : Vrf) (p : Prefix) (g : Goal) (t : Thing) → IsIn t old → real hops_of t ≡ thing.Route v p g → IsProperPrefix p
  proper_by v p g (thing.Route w r h) i e = let is : r ≡ p = cc in q.safe.old_named.proper w p h (subst (λ z. IsIn (thing.Route w z h) old) is i)
  proper_by v p g _ i e = absurd cc

  shown_named : HaveOwnNames shown
  shown_named = record {
    one = λ t u i j e.
        let x = shown_in t i in
        let y = shown_in u j in
        sym x.2 ∙ ap (real hops_of) (q.safe.old_named.one x.0 y.0 x.1 y.1 (x.3 ∙ e ∙ sym y.3)) ∙ y.2;
    proper = λ v p g i. let x = shown_in (thing.Route v p g) i in proper_by v p g x.0 x.1 x.2;
  }

  -- the plan leads from what the chip shows as it does from the things with tags
  shown_plan : IsViewPlan hitless_rank shown new plan
  shown_plan = record {
    makes = λ t i. let has = q.safe.is_plan.makes t i in (has.0, λ u j e. let x = shown_in u j in has.1 x.0 x.1 (x.3 ∙ e));
    sets = λ t i. let has = q.safe.is_plan.sets t i in (has.0, real hops_of has.1, in_shown has.1 has.2, real_name hops_of has.1 ∙ has.3);
    removes = λ k i. let has = q.safe.is_plan.removes k i in (real hops_of has.0, in_shown has.0 has.1, real_name hops_of has.0 ∙ has.2, has.3);
    whole = λ t i. elim (q.safe.is_plan.whole t i) [ inl there ↦ inl (subst (λ z. IsIn z shown) (new_real t i) (in_shown t there)) | inr change ↦ inr change ];
    gone = λ u i. let x = shown_in u i in elim (q.safe.is_plan.gone x.0 x.1) [ inl still ↦ inl (still.0, still.1, still.2 ∙ x.3) | inr remove ↦ inr (subst (λ k. IsIn (Remove k) plan) x.3 remove) ];
    in_order = q.safe.is_plan.in_order;
  }

  module _ (done due : List PlanChange) (cut : plan ≡ done ++ due) {layout : Layout Rid} {made : ℕ} {objects : Objects} (at : IsMidMoment old done layout made objects) where
    targets : AreTargets hops_of layout
    targets = record {
      rising = λ i v p tag h. target-rising q done due cut v p tag (at.sound i _ (λ x. x) h);
      have = λ i v p tag hop h j. at.all (thing.GroupMember tag hop) (λ x. x) (member-there q done due cut v p tag hop (at.sound i _ (λ x. x) h) j);
      only = λ j tag hop h. member-only q done due cut tag hop (at.sound j _ (λ x. x) h);
    }

    comes : (c : PlanChange) (t : Thing) → IsIn c done → outcome c ≡ Some t → real hops_of t ≡ t
    comes c t i o = new_real t (outcome-new q.safe.is_plan c t (done-in q.safe.is_plan done due cut c i) o)

    -- what stands after changes of what the chip showed is what stands after them of the things with tags
    real_after : (t : Thing) → stands_after_all done (λ u. IsIn u old) t → stands_after_all done (λ u. IsIn u shown) (real hops_of t)
    real_after t h =
        elim (origin done (λ u. IsIn u old) t h) [
          | inl there ↦ still done (λ u. IsIn u shown) (real hops_of t) (subst (IsUntouched done) (sym (real_name hops_of t)) there.1) (in_shown t there.0)
          | inr c ↦ subst (stands_after_all done (λ u. IsIn u shown)) (sym (comes c.0 t c.1 c.2)) (done-stands shown_plan done due cut c.0 t c.1 c.2)
        ]

    after_real : (t : Thing) → stands_after_all done (λ u. IsIn u shown) t → (u : Thing) × stands_after_all done (λ u. IsIn u old) u × (real hops_of u ≡ t)
    after_real t h =
        elim (origin done (λ u. IsIn u shown) t h) [
          | inl there ↦ let u = shown_in t there.0 in (u.0, still done (λ u. IsIn u old) u.0 (subst (IsUntouched done) (sym u.3) there.1) u.1, u.2)
          | inr c ↦ (t, done-stands q.safe.is_plan done due cut c.0 t c.1 c.2, comes c.0 t c.1 c.2)
        ]

    forwards : (u t : Thing) → real hops_of u ≡ t → IsForwarding (name_of t) → IsForwarding (name_of u)
    forwards u t e = subst IsForwarding (sym (ap name_of e) ∙ real_name hops_of u)

    -- what a chip shows at a moment is what stands after these changes of what it showed
    shown_stands : ForwardsAfter shown done (chip_things objects)
    shown_stands = record {
      sound = λ t fw i.
          let x = shown-sound layout objects at.laid made at.whole hops_of targets t fw i in
          subst (stands_after_all done (λ u. IsIn u shown)) x.3 (real_after x.1 (at.sound x.0 x.1 (no_port (name_of x.1) (forwards x.1 t x.3 fw)) x.2));
      all = λ t fw h.
          let x = after_real t h in
          let fw' = forwards x.0 t x.2 fw in
          let j = at.all x.0 (no_port (name_of x.0) fw') x.1 in
          subst (λ z. IsIn z (chip_things objects)) x.2 (shown-all layout objects at.laid made at.whole hops_of targets j.0 x.0 j.1 fw');
    }

  -- ---- steadiness, of what a chip shows

  no_plan : IsViewPlan hitless_rank shown shown []
  no_plan = record { makes = λ t i. elim i [ ]; sets = λ t i. elim i [ ]; removes = λ k i. elim i [ ]; whole = λ t i. inl i; gone = λ u i. inl (u, i, refl); in_order = tt }

  module _ {start : Layout Rid} {made' : ℕ} {objects' : Objects} (first : IsMidMoment old [] start made' objects') where
    abbrev before : List Thing
    before = chip_things objects'

    before_stands : ForwardsAfter shown [] before
    before_stands = shown_stands [] plan refl first

    before_forward : (a : Packet) → forward before a ≡ forward shown a
    before_forward a = (hitless shown_named shown_named no_plan [] [] refl before before_stands a refl).0

    before_decide : (a : Packet) → decide before a ≡ decide shown a
    before_decide a = elim (either shown_named shown_named no_plan [] [] refl before before_stands a) [ inl e ↦ e | inr e ↦ e ]

    module _ (done due : List PlanChange) (cut : plan ≡ done ++ due) {layout : Layout Rid} {made : ℕ} {objects : Objects} (at : IsMidMoment old done layout made objects) where
      pub chip-either : IsOldOrNew before new (chip_things objects)
      chip-either a =
          elim (either shown_named q.safe.new_named shown_plan done due cut (chip_things objects) (shown_stands done due cut at) a) [
            | inl e ↦ inl (e ∙ sym (before_decide a))
            | inr e ↦ inr e
          ]

      pub chip-hitless : IsHitless before new (chip_things objects)
      chip-hitless a same =
          let is = hitless shown_named q.safe.new_named shown_plan done due cut (chip_things objects) (shown_stands done due cut at) a (sym (before_forward a) ∙ same) in
          (is.0 ∙ sym (before_forward a), is.1)

      -- what it shows, as far as packets go by it, it showed before, or the new things have it
      pub chip-origin : (t : Thing) → IsForwarding (name_of t) → IsIn t (chip_things objects) → IsIn t before ⊎ IsIn t new
      chip-origin t fw i =
          elim (origin done (λ u. IsIn u shown) t ((shown_stands done due cut at).sound t fw i)) [
            | inl there ↦ inl (before_stands.all t fw there.0)
            | inr c ↦ inr (outcome-new q.safe.is_plan c.0 t (done-in q.safe.is_plan done due cut c.0 c.1) c.2)
          ]

  pub chip-kept : (done more due : List PlanChange) → plan ≡ done ++ (more ++ due) → {l m : Layout Rid} {x y : ℕ} {now later : Objects} → IsMidMoment old done l x now → IsMidMoment old (done ++ more) m y later → StaysNew new (chip_things now) (chip_things later)
  chip-kept done more due cut {now = now} {later = later} at after =
      kept shown_named q.safe.new_named shown_plan done more due cut (chip_things now) (chip_things later) (shown_stands done (more ++ due) cut at) (shown_stands (done ++ more) due (cut ∙ sym (append_assoc done more due)) after)

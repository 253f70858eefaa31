-- while a cold plan is made each route that the chip shows it showed before, or the view has it
use Rattle.std.proofs.Common.{◌≡◌, inl, inr, ◌⊎◌, ◌≤◌, ℕ, ◌++◌, List, [], ◌∷◌, Some, refl, sym, ap, ◌∙◌, subst, arith}
use Rattle.std.proofs.lemmas.List.{append-nil}
use Rattle.sai_types.specs.declared.ids.Rid.{Rid}
use Rattle.sai_types.specs.declared.weight.WHop.{WHop}
use Rattle.sai_types.specs.declared.body.Call.{Call}
use Rattle.swss_types.specs.declared.address.Prefix.{Prefix}
use Rattle.swss_types.specs.declared.vrf.Vrf.{Vrf}
use Rattle.sai_types.specs.declared.thing.Goal.{Goal}
use Rattle.sai_types.specs.declared.thing.Goal.TheVariants as goal
use Rattle.sai_types.specs.declared.thing.Thing.{Thing}
use Rattle.sai_types.specs.declared.thing.Thing.TheVariants as thing
use Rattle.sai_types.specs.After.{after_calls}
use Rattle.sai_types.specs.Alike.{IsIn}
use Rattle.sai_types.specs.Made.{made_after_all}
use Rattle.sai_types.specs.Names as name
use Rattle.sai_types.specs.Names.{ThingName, name_of}
use Rattle.sai_types.specs.Objects.{Objects}
use Rattle.chip_layout.specs.Layout.{Layout}
use Rattle.chip_layout.proofs.Bodies.{beside}
use Rattle.plan_laws.specs.Applied.{AppliesCold, IsListedChip, chip_things}
use Rattle.plan_laws.specs.Old.{old_things}
use Rattle.plan_laws.specs.Plans.{IsViewPlan, Make, PlanChange, Remove, Set, cold_rank, outcome, stands_after_all}
use Rattle.plan_laws.specs.Steady.{IsForwarding}
use Rattle.plan_laws.specs.Views.{HaveWholeGroups, ReferWithin}
use Rattle.plan_laws.proofs.Allowed.{highest}
use Rattle.plan_laws.proofs.Chip.{no_port}
use Rattle.plan_laws.proofs.Cold.{cold-halfway, makes-room, makes-safe, removes-safe, removes_room}
use Rattle.plan_laws.proofs.Following.{IsUntouched, before, done-in, new-stands, old-new, old-stands, origin, outcome-new}
use Rattle.plan_laws.proofs.Lists.{cuts}
use Rattle.plan_laws.proofs.Running.{after-append, run-cut}
use Rattle.plan_laws.proofs.Shown.{AreTargets, real_route, shown-all, shown-sound}
use Rattle.plan_laws.proofs.Starting.{first-moment, hops_by_tag, old-named, old-tagged}
use Rattle.plan_laws.proofs.Stepping.{IsMidMoment, moment-shown}
use Rattle.plan_laws.proofs.Targets.{is-group, is-member}

-- ---- while all is removed

module _ {made : ℕ} {objects : Objects} (chip : IsListedChip made objects) (new : List Thing) {removes : List PlanChange} (is_plan : IsViewPlan cold_rank (old_things objects new) [] removes) where
  abbrev old : List Thing
  old = old_things objects new

  abbrev hops : List WHop → List WHop
  hops = hops_by_tag chip new

  module _ (done due : List PlanChange) (cut : removes ≡ done ++ due) {layout : Layout Rid} {count : ℕ} {now : Objects} (at : IsMidMoment old done layout count now) where
    -- what stands stood before, and is not yet removed
    stood : (t : Thing) → stands_after_all done (λ u. IsIn u old) t → IsIn t old × IsUntouched done (name_of t)
    stood t h =
        elim (origin done (λ u. IsIn u old) t h) [
          | inl there ↦ there
          | inr c ↦ elim (outcome-new is_plan c.0 t (done-in is_plan done due cut c.0 c.1) c.2) [ ]
        ]

    member_there : (v : Vrf) (p : Prefix) (tag : List WHop) (hop : WHop) → stands_after_all done (λ u. IsIn u old) (thing.Route v p (goal.Group tag)) → IsIn hop (hops tag) → stands_after_all done (λ u. IsIn u old) (thing.GroupMember tag hop)
    member_there v p tag hop h i =
        let route = stood (thing.Route v p (goal.Group tag)) h in
        elim (old-stands is_plan done due cut (thing.GroupMember tag hop) ((old-tagged chip new).have tag hop ((old-tagged chip new).there v p tag route.0) i)) [
          | inl m ↦ subst (stands_after_all done (λ u. IsIn u old)) (is-member m.0 tag hop m.2) m.1
          | inr gone ↦
              let order = λ (d : PlanChange) (j : IsIn d due). (before is_plan done due cut (Remove (name.GroupMember tag hop)) d gone j).0 in
              elim (old-new is_plan done due cut (old-named chip new) (thing.Route v p (goal.Group tag)) route.0 route.1
              (λ t set same. let late = order (Set t) set in absurd (omega (arith, late)))
              (λ remove. let late = order (Remove (name.Route v p)) remove in absurd (omega (arith, late)))) [ ]
        ]

    targets : AreTargets hops layout
    targets = record {
      rising = λ i v p tag h. (old-tagged chip new).rising tag ((old-tagged chip new).there v p tag (stood _ (at.sound i _ (λ x. x) h)).0);
      have = λ i v p tag hop h j. at.all (thing.GroupMember tag hop) (λ x. x) (member_there v p tag hop (at.sound i _ (λ x. x) h) j);
      only = λ j tag hop h. (old-tagged chip new).only tag hop (stood _ (at.sound j _ (λ x. x) h)).0;
    }

    shown_old : (t : Thing) → IsForwarding (name_of t) → IsIn t (chip_things now) → (u : Thing) × IsIn u old × IsForwarding (name_of u) × (real_route hops u ≡ t)
    shown_old t fw i =
        let x = shown-sound layout now at.laid count at.whole hops targets t fw i in
        let fw' = forwards x.1 t x.3 fw in
        (x.1, (stood x.1 (at.sound x.0 x.1 (no_port (name_of x.1) fw') x.2)).0, fw', x.3)
      where
        same_name : (u : Thing) → name_of (real_route hops u) ≡ name_of u
        same_name (thing.Route v p g) = refl
        same_name _ = refl

        forwards : (u t : Thing) → real_route hops u ≡ t → IsForwarding (name_of t) → IsForwarding (name_of u)
        forwards u t e = subst IsForwarding (sym (ap name_of e) ∙ same_name u)

    old_shown : (u : Thing) → IsIn u old → IsForwarding (name_of u) → stands_after_all done (λ z. IsIn z old) u → IsIn (real_route hops u) (chip_things now)
    old_shown u i fw h = let j = at.all u (no_port (name_of u) fw) h in shown-all layout now at.laid count at.whole hops targets j.0 u j.1 fw

  -- what is shown while things are removed was shown before
  pub removed-shown : (capacities : List ℕ) (done due : List PlanChange) (cut : removes ≡ done ++ due) {layout : Layout Rid} {count : ℕ} {now : Objects} → IsMidMoment old done layout count now → (t : Thing) → IsForwarding (name_of t) → IsIn t (chip_things now) → IsIn t (chip_things objects)
  removed-shown capacities done due cut at t fw i =
      let x = shown_old done due cut at t fw i in
      subst (λ z. IsIn z (chip_things objects)) x.3 (old_shown [] removes refl (moment-shown (first-moment chip new) capacities) x.0 x.1 x.2 x.1)

-- ---- while all is made

abbrev same_hops : List WHop → List WHop
same_hops hops = hops

real_same : (t : Thing) → real_route same_hops t ≡ t
real_same (thing.Route v p goal.Drop) = refl
real_same (thing.Route v p (goal.Direct on)) = refl
real_same (thing.Route v p (goal.Via hop)) = refl
real_same (thing.Route v p (goal.Group hops)) = refl
real_same _ = refl

module _ {new : List Thing} {makes : List PlanChange} (is_plan : IsViewPlan cold_rank [] new makes) (within : ReferWithin new) (grouped : HaveWholeGroups new) (done due : List PlanChange) (cut : makes ≡ done ++ due) {layout : Layout Rid} {count : ℕ} {now : Objects} (at : IsMidMoment [] done layout count now) where
  abbrev stands : Thing → Type 0
  stands = stands_after_all done (λ u. IsIn u [])

  -- what stands was made, and is new
  by_change : (t : Thing) → stands t → (c : PlanChange) × IsIn c done × (outcome c ≡ Some t) × IsIn t new
  by_change t h =
      elim (origin done (λ u. IsIn u []) t h) [
        | inl there ↦ elim there.0 [ ]
        | inr c ↦ (c.0, c.1, c.2, outcome-new is_plan c.0 t (done-in is_plan done due cut c.0 c.1) c.2)
      ]

  group_of : (v : Vrf) (p : Prefix) (hops : List WHop) → IsIn (thing.Route v p (goal.Group hops)) new → IsIn (thing.Group hops) new
  group_of v p hops i = let u = within.refers (thing.Route v p (goal.Group hops)) (name.Group hops) i (beside v (name.Group hops ∷ []) (name.Group hops) (inl refl)) in subst (λ z. IsIn z new) (is-group u.0 hops u.2) u.1

  late : (c : PlanChange) (v : Vrf) (p : Prefix) (g : Goal) → outcome c ≡ Some (thing.Route v p g) → highest ≤ cold_rank c
  late (Make t) v p g e = let same : t ≡ thing.Route v p g = cc in let rank : cold_rank (Make t) ≡ highest = ap (λ u. cold_rank (Make u)) same in omega (arith, rank)
  late (Set t) v p g e = omega arith
  late (Remove k) v p g e = absurd cc

  member_made : (v : Vrf) (p : Prefix) (hops : List WHop) (hop : WHop) → stands (thing.Route v p (goal.Group hops)) → IsIn hop hops → stands (thing.GroupMember hops hop)
  member_made v p hops hop h i =
      let c = by_change (thing.Route v p (goal.Group hops)) h in
      elim (new-stands is_plan done due cut (thing.GroupMember hops hop) (grouped.have hops hop (group_of v p hops c.3) i)) [
        | inl m ↦ subst stands (is-member m.0 hops hop m.2) m.1
        | inr make ↦
            let order = (before is_plan done due cut c.0 (Make (thing.GroupMember hops hop)) c.1 make).0 in
            let least = late c.0 v p (goal.Group hops) c.2 in
            absurd (omega (arith, order, least))
      ]

  made_targets : AreTargets same_hops layout
  made_targets = record {
    rising = λ i v p hops h. grouped.rising hops (group_of v p hops (by_change _ (at.sound i _ (λ x. x) h)).3);
    have = λ i v p hops hop h j. at.all (thing.GroupMember hops hop) (λ x. x) (member_made v p hops hop (at.sound i _ (λ x. x) h) j);
    only = λ j hops hop h. grouped.only hops hop (by_change _ (at.sound j _ (λ x. x) h)).3;
  }

  -- what is shown while things are made is new
  pub made-shown : (t : Thing) → IsForwarding (name_of t) → IsIn t (chip_things now) → IsIn t new
  made-shown t fw i =
      let x = shown-sound layout now at.laid count at.whole same_hops made_targets t fw i in
      let same : x.1 ≡ t = sym (real_same x.1) ∙ x.3 in
      subst (λ z. IsIn z new) same (by_change x.1 (at.sound x.0 x.1 (no_port (name_of x.1) (subst (λ z. IsForwarding (name_of z)) (sym same) fw)) x.2)).3

-- ---- a cold plan

module _ {capacities : List ℕ} {made : ℕ} {objects : Objects} {new : List Thing} {removes makes : List PlanChange} {front rest : List (Call Rid)} (x : AppliesCold capacities made objects new removes makes front rest) where
  first_half : (xs ys : List (Call Rid)) → front ≡ xs ++ ys → (t : Thing) → IsForwarding (name_of t) → IsIn t (chip_things (after_calls made objects xs)) → IsIn t (chip_things objects)
  first_half xs ys part t fw i =
      let c = run-cut (removes-safe x.planned) (first-moment x.planned.chip new) capacities (removes_room x.planned) removes [] (sym (append-nil removes)) front xs ys x.removing part in
      removed-shown x.planned.chip new x.planned.removing capacities c.more c.left c.all c.shown t fw i

  second_half : (xs ys : List (Call Rid)) → rest ≡ xs ++ ys → (t : Thing) → IsForwarding (name_of t) → IsIn t (chip_things (after_calls (made_after_all made front) (after_calls made objects front) xs)) → IsIn t new
  second_half xs ys part t fw i =
      let c = run-cut (makes-safe x.planned) (cold-halfway x) capacities (makes-room x) makes [] (sym (append-nil makes)) rest xs ys x.making part in
      made-shown x.planned.making x.planned.view.within x.planned.view.grouped c.more c.left c.all c.shown t fw i

  -- what a chip shows, as far as packets go by it, it showed before, or the new things have it
  pub cold-origin : (xs ys : List (Call Rid)) → front ++ rest ≡ xs ++ ys → (t : Thing) → IsForwarding (name_of t) → IsIn t (chip_things (after_calls made objects xs)) → IsIn t (chip_things objects) ⊎ IsIn t new
  cold-origin xs ys part t fw i =
      elim (cuts front rest xs ys part) [
        | inl m ↦ inl (first_half xs m.0 m.1 t fw i)
        | inr m ↦ inr (second_half m.0 ys m.2 t fw (subst (λ z. IsIn t (chip_things z)) (ap (after_calls made objects) m.1 ∙ after-append made objects front m.0) i))
      ]

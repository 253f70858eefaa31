-- the plan of two views applies as the plans that are proved
use Rattle.std.proofs.Common.{◌≡◌, inl, inr, ℕ, ◌≤◌, ◌++◌, List, [], ◌∷◌, length, map, Some, refl, sym, ap, ◌∙◌, subst, arith, IsPermutation}
use Rattle.std.proofs.lemmas.List.{append-nil, append_assoc, length-append, map-append}
use Rattle.sai_types.specs.declared.ids.Rid.{Rid}
use Rattle.sai_types.specs.declared.ids.Vid.{Vid}
use Rattle.sai_types.specs.declared.body.Call.{Call}
use Rattle.sai_types.specs.declared.body.Object.{Object}
use Rattle.sai_types.specs.declared.kind.Kind.{Kind}
use Rattle.sai_types.specs.declared.plan.Mode.{Mode}
use Rattle.sai_types.specs.declared.plan.Mode.TheVariants as mode
use Rattle.sai_types.specs.declared.plan.Plan.{Plan}
use Rattle.sai_types.specs.declared.plan.PlanCall.{PlanCall}
use Rattle.sai_types.specs.declared.plan.PlanId.{PlanId}
use Rattle.sai_types.specs.declared.thing.Thing.{Thing}
use Rattle.sai_types.specs.declared.thing.Thing.TheVariants as thing
use Rattle.sai_types.specs.Alike.{IsIn}
use Rattle.sai_types.specs.Made.{made_after_all}
use Rattle.sai_types.specs.Named.{first_lane, named, those, thing_of}
use Rattle.sai_types.specs.Names as name
use Rattle.sai_types.specs.Objects.{Objects}
use Rattle.sai_types.specs.Refusal.{capacity_of}
use Rattle.chip_names.specs.Naming.{entries_of}
use Rattle.chip_layout.specs.Bodies.{IsBody}
use Rattle.chip_layout.specs.Layout.{Has}
use Rattle.chip_layout.specs.Renamed.{call_renamed}
use Rattle.chip_layout.proofs.Answering.{in_those, thing_in}
use Rattle.plan_laws.specs.Applied.{AppliesCold, AppliesHitless, IsColdPlan, IsHitlessPlan, chip_things, nothing}
use Rattle.plan_laws.specs.Calls.{PlansChanges, resolve, viewed}
use Rattle.plan_laws.specs.Old.{old_layout, old_things, tag_of}
use Rattle.plan_laws.specs.Plans.{PlanChange}
use Rattle.plan_laws.specs.Views.{HasRoomForPlan, LanesApart, PortsApart, made_name, made_names}
use Rattle.plan_laws.proofs.Applied.{plan-comes}
use Rattle.plan_laws.proofs.Cold.{cold-comes}
use Rattle.plan_laws.proofs.Starting.{old-seen}
use Rattle.plan_laws.proofs.Picked.{those_append}
use Rattle.view_match.specs.Pairs.{pairs_of}
use Rattle.apply_order.specs.Calls.{step_calls, steps_calls}
use Rattle.apply_order.specs.Due.{due_steps}
use Rattle.apply_order.specs.Naming.{OldIds, names_from, names_in}
use Rattle.apply_order.specs.declared.ranks.Timed.{Timed}
use Rattle.apply_laws.specs.Apply.{ComeToNextIds, IsPlannedFrom, calls_by, plan_calls}
use Rattle.apply_laws.specs.Viewed.{things_in}
use Rattle.apply_laws.proofs.Order.Called.{HasPlan, calls-all, gone-plan, made-plan, made-same, made_all, numbered-append, plans-all, set-plan}
use Rattle.apply_laws.proofs.Order.Changes.{change_of, due-of, new_thing, old_name}
use Rattle.apply_laws.proofs.Order.Cold.{IsCutInTwo, IsGone, IsMade, cold-cut, cold-makes, cold-removes}
use Rattle.apply_laws.proofs.Order.Hitless.{hitless-plan}
use Rattle.apply_laws.proofs.Order.Ids.{cold-named, hitless-named}
use Rattle.apply_laws.proofs.Order.Partners.{place-in}
use Rattle.apply_laws.proofs.Order.Placed.{old-place}
use Rattle.apply_laws.proofs.Order.Roomy.{made-count, used-count}
use Rattle.apply_laws.proofs.Order.Routers.{keep-same}
use Rattle.apply_laws.proofs.Order.Shuffled.{in-shuffled}

steps_append : (names : OldIds) (old : List (Object Rid)) (new : List (Object Vid)) (xs ys : List Timed) → steps_calls names old new (xs ++ ys) ≡ steps_calls names old new xs ++ steps_calls names old new ys
steps_append names old new [] ys = refl
steps_append names old new (x ∷ xs) ys =
    ap (λ l. step_calls names old new x.step ++ l) (steps_append names old new xs ys)
    ∙ sym (append_assoc (step_calls names old new x.step) (steps_calls names old new xs) (steps_calls names old new ys))

abbrev these : List PlanCall → List (Call PlanId)
these cs = map (λ c. c.call) cs

module _ {capacities : List ℕ} {made : ℕ} {old : List (Object Rid)} {new : List (Object Vid)} {things : List (Vid × Thing)} {plan : Plan} (x : IsPlannedFrom capacities made old new things plan) where
  abbrev O : Objects
  O = entries_of old

  abbrev N : List Thing
  N = things_in things

  abbrev change : Timed → PlanChange
  change t = change_of (new_thing things) (old_name (tag_of O N) O) t.step

  abbrev steps : List Timed
  steps = x.planned.steps

  pub due-in : (m : Mode) → plan.mode ≡ m → IsPermutation (due_steps m old new (pairs_of old new)) steps
  due-in m e = subst (λ m. IsPermutation (due_steps m old new (pairs_of old new)) steps) e x.planned.due

  pub calls-in : (m : Mode) → plan.mode ≡ m → plan.calls ≡ steps_calls (names_in m old new (pairs_of old new)) old new steps
  calls-in m e = x.planned.calls ∙ ap (λ m. steps_calls (names_in m old new (pairs_of old new)) old new steps) e

  -- ---- ports

  ports_apart : PortsApart N (old_things O N)
  ports_apart p q i j share =
      let s = old-seen x.chip N (thing.Port q) j in
      let w = old-place old x.chip x.view s.0 (thing.Port q) s.1 in
      let of = subst (λ z. IsBody (Has (old_layout O N)) z w.body) w.thing w.was.of in
      let shown : thing_of O (w.entry, w.body) ≡ Some (thing.Port q) = ap (λ z. thing_of O (w.entry, z)) of.body_is in
      let seen : IsIn (thing.Port q) (chip_things O) = in_those (thing.Port q) (named O) (subst (λ z. IsIn z (named O)) shown (thing_in O O w.entry w.body (place-in O w.place (w.entry, w.body) w.was.at))) in
      ap (λ ls. name.Port (first_lane ls)) (x.lanes.same p q i seen (inr share))

  lanes_apart : LanesApart (old_things O N) N
  lanes_apart = record { beside = ports_apart; within = x.view.lanes.within }

  -- ---- a hitless plan

  module _ (e : plan.mode ≡ mode.Hitless) where
    abbrev pub hitless_changes : List PlanChange
    hitless_changes = map change steps

    room : HasRoomForPlan capacities O hitless_changes
    room kind =
        let olds = used-count kind old in
        let news = made-count old x.chip x.view mode.Hitless (old_name (tag_of O N) O) kind steps (due-in mode.Hitless e) in
        let fits = (x.planned.mode.0 e).0 kind in
        omega (arith, olds, news, fits)

    pub is-hitless : IsHitlessPlan capacities made O N hitless_changes
    is-hitless = record { chip = x.chip; view = x.view.view; lanes = lanes_apart; is_plan = hitless-plan old x.chip x.view x.lanes steps (due-in mode.Hitless e) x.planned.in_order; room = room }

    has_plan : (t : Timed) → IsIn t steps → HasPlan (old_layout O N) (viewed things) change (λ (t : Timed). step_calls (names_from [] old new (pairs_of old new)) old new t.step) t
    has_plan t i =
        let named = hitless-named old x.chip x.view x.lanes in
        let names = names_from [] old new (pairs_of old new) in
        elim (due-of old x.chip x.view mode.Hitless t (in-shuffled _ steps (due-in mode.Hitless e) t i)) [
          | inl d ↦ made-plan old x.chip x.view mode.Hitless names (old_layout O N) named t d
          | inr r ↦ elim r [ inl d ↦ set-plan old x.chip x.view mode.Hitless names (keep-same old x.chip x.view x.lanes (x.planned.mode.0 e).1) named t d | inr d ↦ gone-plan old x.chip x.view mode.Hitless names t d ]
        ]

    module _ (ids : Vid → Rid) (numbered : ComeToNextIds ids made plan.calls) where
      pub hitless-calls : PlansChanges (old_layout O N) (viewed things) ids made hitless_changes (plan_calls plan)
      hitless-calls =
          let names = names_from [] old new (pairs_of old new) in
          let all = calls-all names old new (old_layout O N) (viewed things) change steps in
          let same = calls-in mode.Hitless e ∙ sym all in
          subst (λ cs. PlansChanges (old_layout O N) (viewed things) ids made hitless_changes (these cs)) (sym same)
          (plans-all (old_layout O N) (viewed things) change (λ (t : Timed). step_calls names old new t.step) ids steps made has_plan (subst (ComeToNextIds ids made) same numbered))

      pub applies-hitless : AppliesHitless capacities made O N hitless_changes [] (calls_by ids plan)
      applies-hitless =
          let planned = subst (IsHitlessPlan capacities made O N) (sym (append-nil hitless_changes)) is-hitless in
          record { planned = planned; run = (plan-comes planned hitless_changes [] refl things ids (plan_calls plan) hitless-calls).run }

  -- ---- a cold plan

  module _ (e : plan.mode ≡ mode.Cold) where
    abbrev cut : IsCutInTwo (IsGone old x.chip x.view) (IsMade old x.chip x.view) steps
    cut = cold-cut old x.chip x.view steps (due-in mode.Cold e) x.planned.in_order

    abbrev pub cold_removes : List PlanChange
    cold_removes = map change cut.front

    abbrev pub cold_makes : List PlanChange
    cold_makes = map change cut.back

    abbrev pub cold_front : List PlanCall
    cold_front = steps_calls [] old new cut.front

    abbrev pub cold_back : List PlanCall
    cold_back = steps_calls [] old new cut.back

    makes_fit : (kind : Kind) → length (made_names kind cold_makes) ≤ capacity_of capacities kind
    makes_fit kind =
        let count = made-count old x.chip x.view mode.Cold (old_name (tag_of O N) O) kind steps (due-in mode.Cold e) in
        let fits = x.fits kind in
        let split : made_names kind (map change steps) ≡ made_names kind cold_removes ++ made_names kind cold_makes = ap (λ ts. made_names kind (map change ts)) cut.all ∙ ap (made_names kind) (map-append change cut.front cut.back) ∙ ap those (map-append (made_name kind) cold_removes cold_makes) ∙ those_append (map (made_name kind) cold_removes) (map (made_name kind) cold_makes) in
        let sum = length-append (made_names kind cold_removes) (made_names kind cold_makes) in
        let long = ap length split in
        omega (arith, count, fits, sum, long)

    pub is-cold : IsColdPlan capacities made O N cold_removes cold_makes
    is-cold = record {
      chip = x.chip;
      view = x.view.view;
      lanes = x.view.lanes;
      removing = cold-removes old x.chip x.view steps (due-in mode.Cold e) x.planned.in_order;
      making = cold-makes old x.chip x.view steps (due-in mode.Cold e) x.planned.in_order;
      within = x.held;
      room = makes_fit;
    }

    pub calls_are : plan.calls ≡ cold_front ++ cold_back
    calls_are = calls-in mode.Cold e ∙ ap (steps_calls [] old new) cut.all ∙ steps_append [] old new cut.front cut.back

    pub cold-split : plan_calls plan ≡ these cold_front ++ these cold_back
    cold-split = ap these calls_are ∙ map-append (λ (c : PlanCall). c.call) cold_front cold_back

    module _ (ids : Vid → Rid) (numbered : ComeToNextIds ids made plan.calls) where
      cold_parts_numbered : ComeToNextIds ids made cold_front × ComeToNextIds ids (made_all made cold_front) cold_back
      cold_parts_numbered = numbered-append ids cold_front cold_back made (subst (ComeToNextIds ids made) calls_are numbered)

      pub cold-removing : PlansChanges (old_layout O N) (viewed things) ids made cold_removes (these cold_front)
      cold-removing =
          let all = calls-all [] old new (old_layout O N) (viewed things) change cut.front in
          subst (λ cs. PlansChanges (old_layout O N) (viewed things) ids made cold_removes (these cs)) all
          (plans-all (old_layout O N) (viewed things) change (λ (t : Timed). step_calls [] old new t.step) ids cut.front made (λ t i. gone-plan old x.chip x.view mode.Cold [] t (cut.first t i)) (subst (ComeToNextIds ids made) (sym all) cold_parts_numbered.0))

      pub cold-making : PlansChanges nothing (viewed things) ids (made_after_all made (map (call_renamed (resolve ids)) (these cold_front))) cold_makes (these cold_back)
      cold-making =
          let all = calls-all [] old new nothing (viewed things) change cut.back in
          subst (λ n. PlansChanges nothing (viewed things) ids n cold_makes (these cold_back)) (sym (made-same (resolve ids) cold_front made))
          (subst (λ cs. PlansChanges nothing (viewed things) ids (made_all made cold_front) cold_makes (these cs)) all
          (plans-all nothing (viewed things) change (λ (t : Timed). step_calls [] old new t.step) ids cut.back (made_all made cold_front) (λ t i. made-plan old x.chip x.view mode.Cold [] nothing (cold-named things) t (cut.last t i)) (subst (ComeToNextIds ids (made_all made cold_front)) (sym all) cold_parts_numbered.1)))

      pub applies-cold : AppliesCold capacities made O N cold_removes cold_makes (map (call_renamed (resolve ids)) (these cold_front)) (map (call_renamed (resolve ids)) (these cold_back))
      applies-cold = cold-comes is-cold things ids (these cold_front) (these cold_back) cold-removing cold-making

      pub cold-all : calls_by ids plan ≡ map (call_renamed (resolve ids)) (these cold_front) ++ map (call_renamed (resolve ids)) (these cold_back)
      cold-all = ap (map (call_renamed (resolve ids))) cold-split ∙ map-append (call_renamed (resolve ids)) (these cold_front) (these cold_back)

-- a hitless plan on a chip that was listed: its calls are legal, steady one by one, and lead to the new things
use Rattle.std.proofs.Common.{◌≡◌, ◌∙◌, ◌⊎◌, ℕ, ◌++◌, List, [], map, refl, sym, ap, subst}
use Rattle.std.proofs.lemmas.List.{append-nil, append_assoc}
use Rattle.sai_types.specs.declared.ids.Rid.{Rid}
use Rattle.sai_types.specs.declared.ids.Vid.{Vid}
use Rattle.sai_types.specs.declared.body.Call.{Call}
use Rattle.sai_types.specs.declared.plan.PlanId.{PlanId}
use Rattle.sai_types.specs.declared.thing.Thing.{Thing}
use Rattle.sai_types.specs.After.{after_calls}
use Rattle.sai_types.specs.Alike.{IsAlike, IsIn}
use Rattle.sai_types.specs.Made.{made_after_all}
use Rattle.sai_types.specs.Names.{name_of}
use Rattle.sai_types.specs.Objects.{Objects}
use Rattle.chip_layout.specs.Renamed.{call_renamed}
use Rattle.plan_laws.specs.Applied.{AppliesHitless, IsHitlessPlan, chip_things}
use Rattle.plan_laws.specs.Calls.{PlansChanges, resolve, viewed}
use Rattle.plan_laws.specs.Moments.{IsMoment}
use Rattle.plan_laws.specs.Old.{old_layout, old_things}
use Rattle.plan_laws.specs.Plans.{PlanChange, hitless_rank}
use Rattle.plan_laws.specs.Steady.{IsForwarding, IsHitless, IsOldOrNew, StaysNew}
use Rattle.plan_laws.proofs.Allowed.{IsSafePlan, hitless-safe}
use Rattle.plan_laws.proofs.Apart.{apart-old}
use Rattle.plan_laws.proofs.Calling.{IsCalled, plan-called}
use Rattle.plan_laws.proofs.Chip.{chip-either, chip-hitless, chip-kept, chip-origin}
use Rattle.plan_laws.proofs.Running.{IsBreak, IsEnd, later-cut, later-same, plan-alike, run-cut, run-end}
use Rattle.plan_laws.proofs.Starting.{first-moment, hops-same, hops_by_tag, old-named, old-tagged}
use Rattle.plan_laws.proofs.Stepping.{IsMidMoment, moment-shown}
use Rattle.plan_laws.proofs.Targets.{IsTaggedPlan}

module _ {capacities : List ℕ} {made : ℕ} {objects : Objects} {new : List Thing} {plan : List PlanChange} (x : IsHitlessPlan capacities made objects new plan) where
  pub plan-safe : IsSafePlan hitless_rank (old_things objects new) new plan
  plan-safe = record { safe = hitless-safe; old_named = old-named x.chip new; new_named = x.view.named; within = x.view.within; apart = apart-old x.view x.chip x.lanes; is_plan = x.is_plan }

  plan_tagged : IsTaggedPlan (hops_by_tag x.chip new) (old_things objects new) new plan
  plan_tagged = record { safe = plan-safe; grouped = x.view.grouped; tagged = old-tagged x.chip new; same = λ hops i. hops-same x.chip new hops (x.view.grouped.rising hops i) }

  -- the calls of the plan, with the identifiers that they come to
  pub plan-comes : (todo due : List PlanChange) → plan ≡ todo ++ due → (view : List (Vid × Thing)) (ids : Vid → Rid) (calls : List (Call PlanId)) → PlansChanges (old_layout objects new) (viewed view) ids made todo calls → IsCalled (old_layout objects new) (viewed view) ids plan-safe (first-moment x.chip new) capacities x.room [] todo made objects (old_layout objects new) (map (call_renamed (resolve ids)) calls)
  plan-comes todo due cut view ids calls run = plan-called (old_layout objects new) (viewed view) ids plan-safe (first-moment x.chip new) capacities x.room todo due cut calls run

module _ {capacities : List ℕ} {made : ℕ} {objects : Objects} {new : List Thing} {todo due : List PlanChange} {calls : List (Call Rid)} (x : AppliesHitless capacities made objects new todo due calls) where
  pub hitless-end : IsEnd capacities (old_things objects new) todo made objects calls
  hitless-end = run-end (plan-safe x.planned) (first-moment x.planned.chip new) capacities x.planned.room todo due refl calls x.run

  start : IsMidMoment (old_things objects new) [] (old_layout objects new) made objects
  start = moment-shown (first-moment x.planned.chip new) capacities

  cut_at : (xs ys : List (Call Rid)) → calls ≡ xs ++ ys → IsBreak (old_things objects new) [] todo made objects xs ys
  cut_at xs ys part = run-cut (plan-safe x.planned) (first-moment x.planned.chip new) capacities x.planned.room todo due refl calls xs ys x.run part

  -- after each call the chip is steady
  pub hitless-steady : (xs ys : List (Call Rid)) → calls ≡ xs ++ ys → IsOldOrNew (chip_things objects) new (chip_things (after_calls made objects xs)) × IsHitless (chip_things objects) new (chip_things (after_calls made objects xs))
  hitless-steady xs ys part =
      let c = cut_at xs ys part in
      let cut : todo ++ due ≡ c.more ++ (c.left ++ due) = ap (λ l. l ++ due) c.all ∙ append_assoc c.more c.left due in
      (chip-either (plan_tagged x.planned) start c.more (c.left ++ due) cut c.shown, chip-hitless (plan_tagged x.planned) start c.more (c.left ++ due) cut c.shown)

  -- what it shows, as far as packets go by it, it showed before, or the new things have it
  pub hitless-origin : (xs ys : List (Call Rid)) → calls ≡ xs ++ ys → (t : Thing) → IsForwarding (name_of t) → IsIn t (chip_things (after_calls made objects xs)) → IsIn t (chip_things objects) ⊎ IsIn t new
  hitless-origin xs ys part t fw i =
      let c = cut_at xs ys part in
      let cut : todo ++ due ≡ c.more ++ (c.left ++ due) = ap (λ l. l ++ due) c.all ∙ append_assoc c.more c.left due in
      chip-origin (plan_tagged x.planned) start c.more (c.left ++ due) cut c.shown t fw i

  -- what is decided as by the new things stays so
  pub hitless-kept : (xs ms zs : List (Call Rid)) → calls ≡ xs ++ (ms ++ zs) → StaysNew new (chip_things (after_calls made objects xs)) (chip_things (after_calls made objects (xs ++ ms)))
  hitless-kept xs ms zs part =
      let c = cut_at xs (ms ++ zs) part in
      let d = later-cut (plan-safe x.planned) (first-moment x.planned.chip new) capacities x.planned.room todo due refl xs ms zs c in
      let cut : todo ++ due ≡ c.more ++ (d.more ++ (d.left ++ due)) = ap (λ l. l ++ due) (c.all ∙ ap (λ l. c.more ++ l) d.all) ∙ append_assoc c.more (d.more ++ d.left) due ∙ ap (λ l. c.more ++ l) (append_assoc d.more d.left due) in
      let same = later-same (plan-safe x.planned) (first-moment x.planned.chip new) capacities x.planned.room todo xs ms zs c in
      subst (λ o. StaysNew new (chip_things (after_calls made objects xs)) (chip_things o)) same (chip-kept (plan_tagged x.planned) c.more d.more (d.left ++ due) cut c.shown d.shown)

  -- after all of them it is alike to the new things
  pub hitless-alike : due ≡ [] → IsAlike (after_calls made objects calls) (λ t. IsIn t new)
  hitless-alike none =
      let all : todo ≡ todo ++ due = sym (append-nil todo) ∙ ap (λ l. todo ++ l) (sym none) in
      plan-alike (plan-safe x.planned) (subst (λ d. IsMoment (old_things objects new) d hitless-end.layout (made_after_all made calls) (after_calls made objects calls)) all hitless-end.at) x.planned.view.grouped

-- a plan is hitless exactly where of each kind the old objects and the names that the chip lacks number at most the capacity, and no interface has to move to another virtual router
use Rattle.std.proofs.Common.{◌≡◌, inl, inr, ℕ, cond, List, map, None, Some, ap, ◌∙◌, arith}
use Rattle.std.proofs.lemmas.Bool.{eq-eqb}
use Rattle.std.proofs.lemmas.List.Sorted.{IsPermutation-refl}
use Rattle.sai_types.specs.declared.ids.Rid.{Rid}
use Rattle.sai_types.specs.declared.ids.Vid.{Vid}
use Rattle.sai_types.specs.declared.body.Object.{Object}
use Rattle.sai_types.specs.declared.kind.Kind.{Kind}
use Rattle.sai_types.specs.declared.plan.Mode.TheVariants as mode
use Rattle.sai_types.specs.declared.thing.Thing.{Thing}
use Rattle.sai_types.specs.Alike.{IsIn}
use Rattle.sai_types.specs.Names.{ThingName, name_kind, name_of}
use Rattle.sai_types.specs.Objects.{Objects, level}
use Rattle.chip_names.specs.Naming.{entries_of}
use Rattle.chip_layout.proofs.Counting.{no-longer}
use Rattle.plan_laws.specs.Applied.{IsListedChip, chip_things}
use Rattle.plan_laws.specs.Old.{old_things, tag_of}
use Rattle.plan_laws.specs.Plans.{IsViewPlan, PlanChange, Make}
use Rattle.plan_laws.specs.Views.{AreLacking, FitsHitless, SameRouters, made_name, made_names}
use Rattle.plan_laws.proofs.Doubles.{lacking-shown, routers-shown, routers-shown-back, shown-lacking}
use Rattle.plan_laws.proofs.Picked.{picked-in}
use Rattle.plan_laws.proofs.Rooms.{makes-lacking}
use Rattle.view_match.specs.Pairs.{pairs_of}
use Rattle.apply_order.specs.Due.{due_steps}
use Rattle.apply_order.specs.Room.{FitTogether}
use Rattle.apply_order.specs.Routers.{KeepRouters}
use Rattle.apply_order.specs.declared.ranks.Timed.{Timed}
use Rattle.apply_laws.specs.Viewed.{HaveOneLanes, IsViewOf, things_in}
use Rattle.apply_laws.proofs.Order.Changes.{change_of, new_thing, old_name}
use Rattle.apply_laws.proofs.Order.Hitless.{plain-plan}
use Rattle.apply_laws.proofs.Order.Roomy.{made-count, used-count}
use Rattle.apply_laws.proofs.Order.Routers.{keep-same, same-keep}

module _ {made : ℕ} (old : List (Object Rid)) {new : List (Object Vid)} {things : List (Vid × Thing)} (chip : IsListedChip made (entries_of old)) (view : IsViewOf things new) (lanes : HaveOneLanes (entries_of old) (things_in things)) where
  abbrev O : Objects
  O = entries_of old

  abbrev N : List Thing
  N = things_in things

  pub told-routers : SameRouters (chip_things O) N → KeepRouters old new (pairs_of old new)
  told-routers same = same-keep old chip view lanes (routers-shown chip N view.view same)

  pub routers-told : KeepRouters old new (pairs_of old new) → SameRouters (chip_things O) N
  routers-told keep = routers-shown-back chip N view.view (keep-same old chip view lanes keep)

  abbrev due : List Timed
  due = due_steps mode.Hitless old new (pairs_of old new)

  abbrev changes : List PlanChange
  changes = map (λ (t : Timed). change_of (new_thing things) (old_name (tag_of O N) O) t.step) due

  plan : IsViewPlan (λ c. 0) (old_things O N) N changes
  plan = plain-plan old chip view lanes due (IsPermutation-refl due)

  pub told-fits : (capacities : List ℕ) → FitsHitless capacities O (chip_things O) N → FitTogether capacities old new (pairs_of old new)
  told-fits capacities fits kind =
      let olds = used-count kind old in
      let news = made-count old chip view mode.Hitless (old_name (tag_of O N) O) kind due (IsPermutation-refl due) in
      let all = fits kind (made_names kind changes) (lacking-shown chip N view.view kind (made_names kind changes) (makes-lacking plan kind)) in
      omega (arith, olds, news, all)

  of_kind : (kind : Kind) (t : Thing) (k : ThingName) → name_of t ≡ k → level (name_kind k) ≡ level kind → made_name kind (Make t) ≡ Some k
  of_kind kind t k is same =
      ap (λ b. cond b (Some (name_of t)) None) (eq-eqb (level (name_kind (name_of t))) (level kind) (ap (λ z. level (name_kind z)) is ∙ same)) ∙ ap Some is

  made_of : (kind : Kind) (names : List ThingName) → AreLacking (old_things O N) N kind names → (k : ThingName) → IsIn k names → IsIn k (made_names kind changes)
  made_of kind names lack k i =
      let x = lack.each k i in
      elim (plan.whole x.1 x.2) [
        | inl was ↦ absurd (x.4 x.1 was x.3)
        | inr r ↦ elim r [
          | inl makes ↦ picked-in (made_name kind) changes (Make x.1) k makes (of_kind kind x.1 k x.3 x.0)
          | inr sets ↦ let s = plan.sets x.1 sets in absurd (x.4 s.1 s.2 (s.3 ∙ x.3))
        ]
      ]

  pub fits-told : (capacities : List ℕ) → FitTogether capacities old new (pairs_of old new) → FitsHitless capacities O (chip_things O) N
  fits-told capacities fits kind names lack =
      let olds = used-count kind old in
      let news = made-count old chip view mode.Hitless (old_name (tag_of O N) O) kind due (IsPermutation-refl due) in
      let all = fits kind in
      let l = shown-lacking chip N view.view kind names lack in
      let few = no-longer names (made_names kind changes) l.distinct (made_of kind names l) in
      omega (arith, olds, news, all, few)

-- there is room for what a plan makes, where the new things fit
use Rattle.std.proofs.Common.{◌≡◌, inl, inr, ℕ, ◌+◌, ◌≤◌, ◌==◌, cond, ◌++◌, List, [], ◌∷◌, length, map, None, Some, refl, sym, ap, ◌∙◌, subst, arith}
use Rattle.std.proofs.lemmas.Bool.{eq-eqb, eqb-true, lt-leb}
use Rattle.std.proofs.lemmas.List.{append-nil, length-append}
use Rattle.std.proofs.lemmas.Option.{cond_some}
use Rattle.sai_types.specs.declared.ids.Rid.{Rid}
use Rattle.sai_types.specs.declared.kind.Kind.{Kind}
use Rattle.sai_types.specs.declared.thing.Thing.{Thing}
use Rattle.sai_types.specs.Alike.{IsIn}
use Rattle.sai_types.specs.Named.{those}
use Rattle.sai_types.specs.Names.{ThingName, name_kind, name_of}
use Rattle.sai_types.specs.Objects.{Objects, level, used}
use Rattle.sai_types.specs.Refusal.{capacity_of}
use Rattle.sai_types.proofs.Membership.{in-left, in-right}
use Rattle.chip_layout.specs.Counted.{IsOfKind}
use Rattle.chip_layout.specs.Layout.{HasRoom, Layout}
use Rattle.chip_layout.proofs.Counting.{counted, used-at-most}
use Rattle.plan_laws.specs.Moments.{IsMoment}
use Rattle.plan_laws.specs.Plans.{AreRanked, PlanChange, IsViewPlan, Make, Remove, Set, outcome, subject}
use Rattle.plan_laws.specs.Views.{AreLacking, FitsHitless, HasRoomForPlan, made_name, made_names}
use Rattle.plan_laws.proofs.Following.{done-in, ranked-left, origin}
use Rattle.plan_laws.proofs.Picked.{in-picked, picked-distinct, picked-in, picked-length}

of_kind : (kind : Kind) (t : Thing) → level (name_kind (name_of t)) ≡ level kind → made_name kind (Make t) ≡ Some (name_of t)
of_kind kind t of = ap (λ b. cond b (Some (name_of t)) None) (eq-eqb _ _ of)

-- a name that changes make is that of a thing that they make
is_made : (kind : Kind) (c : PlanChange) (k : ThingName) → made_name kind c ≡ Some k → (t : Thing) × (c ≡ Make t) × (name_of t ≡ k) × (level (name_kind k) ≡ level kind)
is_made kind (Make t) k e = let x = cond_some (level (name_kind (name_of t)) == level kind) (name_of t) k e in (t, refl, x.1, ap (λ z. level (name_kind z)) (sym x.1) ∙ eqb-true _ _ x.0)
is_made kind (Set t) k e = absurd cc
is_made kind (Remove m) k e = absurd cc

made_subject : (kind : Kind) (c : PlanChange) (k : ThingName) → made_name kind c ≡ Some k → subject c ≡ k
made_subject kind c k e = let x = is_made kind c k e in ap subject x.1 ∙ x.2

-- there is room for the next change of a plan that there was room for
module _ {order : PlanChange → ℕ} {old new : List Thing} {plan : List PlanChange} (is_plan : IsViewPlan order old new plan) (done due : List PlanChange) (t : Thing) (cut : plan ≡ done ++ (Make t ∷ due)) {start layout : Layout Rid} {made' made : ℕ} {objects' objects : Objects} (first : IsMoment old [] start made' objects') (at : IsMoment old done layout made objects) where
  abbrev its_kind : Kind
  its_kind = name_kind (name_of t)

  module _ (names : List ThingName) (all : (k : ThingName) → IsOfKind start its_kind k → IsIn k names) where
    of_old : (u : Thing) (k : ThingName) → IsIn u old → name_of u ≡ k → level (name_kind k) ≡ level its_kind → IsIn k (names ++ made_names its_kind done)
    of_old u k i same of = let j = first.all u i in in-left k names (made_names its_kind done) (all k (of, j.0, (u, j.1, same)))

    of_change : (c : PlanChange) (u : Thing) (k : ThingName) → IsIn c done → outcome c ≡ Some u → name_of u ≡ k → level (name_kind k) ≡ level its_kind → IsIn k (names ++ made_names its_kind done)
    of_change (Make v) u k i o same of =
        let is : v ≡ u = cc in
        in-right k names (made_names its_kind done) (subst (λ m. IsIn m (made_names its_kind done)) (ap name_of is ∙ same) (picked-in (made_name its_kind) done (Make v) (name_of v) i (of_kind its_kind v (ap (λ m. level (name_kind m)) (ap name_of is ∙ same) ∙ of))))
    of_change (Set v) u k i o same of =
        let is : v ≡ u = cc in
        let has = is_plan.sets v (done-in is_plan done (Make t ∷ due) cut (Set v) i) in
        of_old has.1 k has.2 (has.3 ∙ ap name_of is ∙ same) of
    of_change (Remove m) u k i o same of = absurd cc

    among : (k : ThingName) → IsOfKind layout its_kind k → IsIn k (names ++ made_names its_kind done)
    among k of =
        elim (origin done (λ v. IsIn v old) of.2.0 (at.sound of.1 of.2.0 of.2.1)) [
          | inl there ↦ of_old of.2.0 k there.0 of.2.2 of.0
          | inr o ↦ of_change o.0 of.2.0 k o.1 o.2 of.2.2 of.0
        ]

  pub room-for : (capacities : List ℕ) → HasRoomForPlan capacities objects' plan → HasRoom capacities objects t
  room-for capacities room =
      let these = counted start objects' first.laid its_kind made' first.whole in
      let bound = used-at-most layout objects at.laid its_kind made at.whole (these.0 ++ made_names its_kind done) (among these.0 these.1.all) in
      let sum = length-append these.0 (made_names its_kind done) in
      let count = these.2 in
      let more = picked-length (made_name its_kind) done (Make t ∷ due) in
      let one : 1 ≤ length (made_names its_kind (Make t ∷ due)) = subst (λ o. 1 ≤ length (those (o ∷ map (made_name its_kind) due))) (sym (of_kind its_kind t refl)) (omega arith) in
      let fits : used objects' its_kind + length (made_names its_kind (done ++ (Make t ∷ due))) ≤ capacity_of capacities its_kind = subst (λ p. used objects' its_kind + length (made_names its_kind p) ≤ capacity_of capacities its_kind) cut (room its_kind) in
      lt-leb _ _ (omega (arith, bound, sum, count, more, one, fits))

-- ---- what a plan makes

module _ {order : PlanChange → ℕ} {old new : List Thing} {plan : List PlanChange} (is_plan : IsViewPlan order old new plan) where
  -- what the first changes make of a kind has names that no old thing has, each once
  pub made-lacking : (done due : List PlanChange) → plan ≡ done ++ due → (kind : Kind) → AreLacking old new kind (made_names kind done)
  made-lacking done due cut kind = record {
    distinct = picked-distinct (made_name kind) (made_subject kind) order done (ranked-left order done due (subst (AreRanked order) cut is_plan.in_order));
    each = λ k i.
        let c = in-picked (made_name kind) done k i in
        let m = is_made kind c.0 k c.2 in
        let has = is_plan.makes m.0 (subst (λ d. IsIn d plan) m.1 (done-in is_plan done due cut c.0 c.1)) in
        (m.3, m.0, has.0, m.2, λ u j e. has.1 u j (e ∙ sym m.2));
  }

  pub makes-lacking : (kind : Kind) → AreLacking old new kind (made_names kind plan)
  makes-lacking = made-lacking plan [] (sym (append-nil plan))

  pub fits-room : (capacities : List ℕ) (objects : Objects) → FitsHitless capacities objects old new → HasRoomForPlan capacities objects plan
  fits-room capacities objects fits kind = fits kind (made_names kind plan) (makes-lacking kind)

-- what a plan removes: old objects that the new view has no name for
use Rattle.std.proofs.Common.{◌≡◌, inl, inr, ℕ, ◌+◌, ◌++◌, List, [], ◌∷◌, Some, refl, sym, ap, ap₂, ◌∙◌, subst}
use Rattle.sai_types.specs.declared.ids.Rid.{Rid}
use Rattle.sai_types.specs.declared.ids.Vid.{Vid}
use Rattle.sai_types.specs.declared.body.Body.{Body}
use Rattle.sai_types.specs.declared.body.Call.{Call}
use Rattle.sai_types.specs.declared.body.Call.TheVariants as call
use Rattle.sai_types.specs.declared.body.Entry.{Entry}
use Rattle.sai_types.specs.declared.thing.Thing.{Thing}
use Rattle.sai_types.specs.After.{entry_of}
use Rattle.sai_types.specs.Alike.{IsIn}
use Rattle.sai_types.specs.Names.{name_of}
use Rattle.sai_types.specs.Named.{thing_by}
use Rattle.sai_types.specs.Objects.{Objects, body_at}
use Rattle.sai_types.proofs.Exact.{entry-exact}
use Rattle.sai_types.proofs.Membership.{in-either}
use Rattle.chip_layout.specs.Bodies.{IsBody}
use Rattle.chip_layout.specs.Layout.{Has, Layout, with_changed}
use Rattle.chip_layout.specs.Seen.{tagged}
use Rattle.chip_layout.proofs.Laid.{body-one}
use Rattle.chip_layout.proofs.Seeing.{body-seen}
use Rattle.plan_laws.specs.Applied.{AppliesHitless}
use Rattle.plan_laws.specs.Bounds.{IsUnwanted}
use Rattle.plan_laws.specs.Calls.{Resolves}
use Rattle.plan_laws.specs.Moments.{IsMoment, MakesChange, MakesChanges, SetsThing, attr_place, layout_after}
use Rattle.plan_laws.specs.Old.{old_layout, tag_of}
use Rattle.plan_laws.specs.Plans.{PlanChange, Make, Remove, Set, subject}
use Rattle.plan_laws.specs.Views.{HasRoomForPlan}
use Rattle.plan_laws.proofs.Allowed.{IsSafePlan}
use Rattle.plan_laws.proofs.Applied.{plan-safe}
use Rattle.plan_laws.proofs.Calling.{none-before, resolves-first, resolves-next, still, still-body}
use Rattle.plan_laws.proofs.Doubles.{unwanted}
use Rattle.plan_laws.proofs.Following.{due-in}
use Rattle.plan_laws.proofs.Running.{one_then_rest, plan-step}
use Rattle.plan_laws.proofs.Starting.{first-moment, old-laid}

-- no view is needed here
abbrev no_view : Layout Vid
no_view v t = ⊥

abbrev no_ids : Vid → Rid
no_ids v = record { 0 = 0 }

sets_only : (e : Entry Rid) (i : Rid) (place : ℕ) (calls : List (Call Rid)) (layout : Layout Rid) (u t : Thing) → SetsThing i place calls layout u t → IsIn (call.Remove e) calls → ⊥
sets_only e i place [] layout u t is h = h
sets_only e i place (c ∷ cs) layout u t is (inl same) = let both = same ∙ is.5 in absurd cc
sets_only e i place (c ∷ cs) layout u t is (inr h) = sets_only e i (attr_place is.1 + 1) cs (with_changed layout i is.2) is.2 t is.7 h

same_removed : (e f : Entry Rid) → call.Remove e ≡ call.Remove f → e ≡ f
same_removed e f h = cc

module _ {order : PlanChange → ℕ} {old new : List Thing} {plan : List PlanChange} (p : IsSafePlan order old new plan) {start : Layout Rid} {made' : ℕ} {objects' : Objects} (first : IsMoment old [] start made' objects') (capacities : List ℕ) (room : HasRoomForPlan capacities objects' plan) where
  -- an old object, by its entry at the start, whose name no new thing has
  pub record IsOld (e : Entry Rid) : Type 0 where
    pub id : Rid
    pub thing : Thing
    pub body : Body Rid
    pub there : start id thing
    pub of : IsBody (Has start) thing body
    pub at : e ≡ entry_of id.0 body
    pub none : (t : Thing) → IsIn t new → name_of t ≡ name_of thing → ⊥

  module _ (done due : List PlanChange) (c : PlanChange) (cut : plan ≡ done ++ (c ∷ due)) {layout : Layout Rid} {made : ℕ} {objects : Objects} (at : IsMoment old done layout made objects) (r : Resolves start no_view no_ids layout) (e : Entry Rid) where
    here : (d : PlanChange) → c ≡ d → (calls : List (Call Rid)) → MakesChange layout d calls → IsIn (call.Remove e) calls → IsOld e
    here (Make t) is_c calls is i = absurd (by (subst (IsIn (call.Remove e)) is.2 i))
      where
        by : IsIn (call.Remove e) (call.Create is.0 ∷ []) → ⊥
        by (inl same) = absurd cc
        by (inr h) = h
    here (Set t) is_c calls is i = absurd (sets_only e is.0 0 calls layout is.1 t is.4 i)
    here (Remove k) is_c calls is i =
        let has = p.is_plan.removes k (due-in p.is_plan done (c ∷ due) cut (Remove k) (inl (sym is_c))) in
        let j = first.all has.0 has.1 in
        let b = first.laid.stand j.0 has.0 j.1 in
        let about : name_of has.0 ≡ subject c = has.2 ∙ ap subject (sym is_c) in
        let there = still start no_view no_ids p first done due c cut at r j.0 has.0 j.1 about is.0 (is.1, is.3, is.4 ∙ ap subject (sym is_c)) in
        let one = at.laid.one is.0 j.0 is.1 has.0 is.3 there (is.4 ∙ sym has.2) in
        let of = still-body start no_view no_ids p first done due c cut at r j.0 has.0 b.0 there b.1 in
        let bodies = body-one layout objects at.laid has.0 is.2 b.0 (subst (λ u. IsBody (Has layout) u is.2) one.1 is.5) of in
        record {
          id = j.0;
          thing = has.0;
          body = b.0;
          there = j.1;
          of = b.1;
          at = by (subst (IsIn (call.Remove e)) is.6 i) ∙ ap₂ (λ (n : Rid) d. entry_of n.0 d) one.0 bodies;
          none = λ t h same. has.3 t h (same ∙ has.2);
        }
      where
        by : IsIn (call.Remove e) (call.Remove (entry_of is.0.0 is.2) ∷ []) → e ≡ entry_of is.0.0 is.2
        by (inl same) = same_removed e (entry_of is.0.0 is.2) same
        by (inr h) = elim h [ ]

  removed_from : (e : Entry Rid) (todo due done : List PlanChange) → plan ≡ done ++ (todo ++ due) → {layout : Layout Rid} {made : ℕ} {objects : Objects} → IsMoment old done layout made objects → Resolves start no_view no_ids layout → (calls : List (Call Rid)) → MakesChanges made layout todo calls → IsIn (call.Remove e) calls → IsOld e
  removed_from e [] due done cut at r calls run i = elim (subst (IsIn (call.Remove e)) run i) [ ]
  removed_from e (c ∷ cs) due done cut {layout} {made} at r calls run i =
      elim (in-either (call.Remove e) run.0 run.1 (subst (IsIn (call.Remove e)) run.2 i)) [
        | inl front ↦ here done (cs ++ due) c cut at r e c refl run.0 run.3 front
        | inr rest ↦
            let step = plan-step p first capacities room done (cs ++ due) at c cut run.0 run.3 in
            let r' = resolves-next at capacities c run.0 (layout_after made layout c) step start no_view no_ids (λ t is. (none-before start no_view no_ids p first done (cs ++ due) c cut at r t is, λ v u h same number. absurd h)) r in
            removed_from e cs due (done ++ (c ∷ [])) (cut ∙ one_then_rest done c (cs ++ due)) step.next r' run.1 run.4 rest
      ]

  -- what the calls of the first changes remove is old, and has no name of a new thing
  pub run-removes : (e : Entry Rid) (todo due : List PlanChange) → plan ≡ todo ++ due → (calls : List (Call Rid)) → MakesChanges made' start todo calls → IsIn (call.Remove e) calls → IsOld e
  run-removes e todo due cut calls run i = removed_from e todo due [] cut first (resolves-first start no_view no_ids) calls run i

-- so a hitless plan removes nothing whose name the new view has, but doubles
pub hitless-removes : {capacities : List ℕ} {made : ℕ} {objects : Objects} {new : List Thing} {todo due : List PlanChange} {calls : List (Call Rid)} → AppliesHitless capacities made objects new todo due calls → (e : Entry Rid) → IsIn (call.Remove e) calls → IsUnwanted objects new e
hitless-removes {capacities = capacities} {made = made} {objects = objects} {new = new} {todo = todo} {due = due} {calls = calls} x e i =
    let chip = x.planned.chip in
    let tag = tag_of objects new in
    let o = run-removes (plan-safe x.planned) (first-moment chip new) capacities x.planned.room e todo due refl calls x.run i in
    let s = o.there in
    let seen_of = body-seen tag made objects chip.whole s.entry s.body o.thing s.found s.thing in
    let bodies : s.body ≡ o.body = body-one (old_layout objects new) objects (old-laid chip new) o.thing s.body o.body seen_of o.of in
    let same : s.entry ≡ e = entry-exact s.entry (entry_of o.id.0 s.body) s.at ∙ ap (entry_of o.id.0) bodies ∙ sym o.at in
    let found : body_at objects e ≡ Some s.body = ap (body_at objects) (sym same) ∙ s.found in
    let is : thing_by (tagged tag) objects (e, s.body) ≡ Some o.thing = ap (λ d. thing_by (tagged tag) objects (d, s.body)) (sym same) ∙ s.thing in
    record { body = s.body; found = found; unless = λ u t shows h names. unwanted chip new x.planned.view e s.body o.thing found is o.none u t shows h names }

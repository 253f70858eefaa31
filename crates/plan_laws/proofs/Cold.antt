-- a cold plan on a chip that was listed: the calls of its first half leave nothing, and those of its second make the new things
use Rattle.std.proofs.Common.{inl, ℕ, ◌≤◌, ◌++◌, List, [], ◌∷◌, length, map, refl, sym, subst, arith}
use Rattle.std.proofs.lemmas.List.{append-nil}
use Rattle.sai_types.specs.declared.ids.Rid.{Rid}
use Rattle.sai_types.specs.declared.ids.Vid.{Vid}
use Rattle.sai_types.specs.declared.body.Call.{Call}
use Rattle.sai_types.specs.declared.plan.PlanId.{PlanId}
use Rattle.sai_types.specs.declared.thing.Thing.{Thing}
use Rattle.sai_types.specs.After.{after_calls}
use Rattle.sai_types.specs.Alike.{IsAlike, IsIn}
use Rattle.sai_types.specs.Made.{AreLegal, made_after_all}
use Rattle.sai_types.specs.Objects.{Objects}
use Rattle.chip_layout.specs.Renamed.{call_renamed}
use Rattle.chip_layout.proofs.Counting.{used-at-most}
use Rattle.chip_layout.proofs.Shapes.{laid-same}
use Rattle.plan_laws.specs.Applied.{AppliesCold, IsColdPlan, nothing}
use Rattle.plan_laws.specs.Calls.{PlansChanges, resolve, viewed}
use Rattle.plan_laws.specs.Moments.{IsMoment, MakesChanges}
use Rattle.plan_laws.specs.Old.{old_layout, old_things}
use Rattle.plan_laws.specs.Plans.{PlanChange, cold_rank}
use Rattle.plan_laws.specs.Views.{HaveOwnNames, HasRoomForPlan, made_names}
use Rattle.plan_laws.proofs.Allowed.{IsSafePlan, cold-safe, ends-new}
use Rattle.plan_laws.proofs.Apart.{apart-new}
use Rattle.plan_laws.proofs.Calling.{plan-called}
use Rattle.plan_laws.proofs.Rooms.{makes-lacking}
use Rattle.plan_laws.proofs.Running.{IsEnd, after-append, legal-append, plan-alike, run-end}
use Rattle.plan_laws.proofs.Starting.{first-moment, old-named}

none_named : HaveOwnNames []
none_named = record { one = λ t u i j e. elim i [ ]; proper = λ v p g i. elim i [ ] }

none_long : {X : Type 0} (xs : List X) → ((x : X) → IsIn x xs → ⊥) → length xs ≤ 0
none_long [] none = omega arith
none_long (x ∷ xs) none = absurd (none x (inl refl))

module _ {capacities : List ℕ} {made : ℕ} {objects : Objects} {new : List Thing} {removes makes : List PlanChange} (x : IsColdPlan capacities made objects new removes makes) where
  pub removes-safe : IsSafePlan cold_rank (old_things objects new) [] removes
  removes-safe = record {
    safe = cold-safe;
    old_named = old-named x.chip new;
    new_named = none_named;
    within = record { refers = λ t k i r. elim i [ ] };
    apart = record { each = λ t u i j l. elim i [ ] };
    is_plan = x.removing;
  }

  pub makes-safe : IsSafePlan cold_rank [] new makes
  makes-safe = record { safe = cold-safe; old_named = none_named; new_named = x.view.named; within = x.view.within; apart = apart-new x.view x.lanes; is_plan = x.making }

  pub removes_room : HasRoomForPlan capacities objects removes
  removes_room kind =
      let none = none_long (made_names kind removes) (λ k i. elim ((makes-lacking x.removing kind).each k i).2 [ ]) in
      let has = x.within kind in
      omega (arith, none, has)

module _ {capacities : List ℕ} {made : ℕ} {objects : Objects} {new : List Thing} {removes makes : List PlanChange} (x : IsColdPlan capacities made objects new removes makes) (front : List (Call Rid)) (run : MakesChanges made (old_layout objects new) removes front) where
  pub half-end : IsEnd capacities (old_things objects new) removes made objects front
  half-end = run-end (removes-safe x) (first-moment x.chip new) capacities (removes_room x) removes [] (sym (append-nil removes)) front run

  -- after the first half nothing stands
  pub halfway : IsMoment [] [] nothing (made_after_all made front) (after_calls made objects front)
  halfway =
      let none : (i : Rid) (t : Thing) → half-end.layout i t → ⊥ = λ i t h. ends-new (removes-safe x) t (half-end.at.sound i t h) in
      record {
        whole = half-end.at.whole;
        laid = laid-same half-end.layout nothing (after_calls made objects front) none (λ i t h. elim h [ ]) half-end.at.laid;
        sound = λ i t h. h;
        all = λ t h. elim h [ ];
      }

  pub half-room : HasRoomForPlan capacities (after_calls made objects front) makes
  half-room kind =
      let none = used-at-most nothing (after_calls made objects front) halfway.laid kind (made_after_all made front) halfway.whole [] (λ k of. of.2.1) in
      let has = x.room kind in
      omega (arith, none, has)

module _ {capacities : List ℕ} {made : ℕ} {objects : Objects} {new : List Thing} {removes makes : List PlanChange} {front rest : List (Call Rid)} (x : AppliesCold capacities made objects new removes makes front rest) where
  pub cold-halfway : IsMoment [] [] nothing (made_after_all made front) (after_calls made objects front)
  cold-halfway = halfway x.planned front x.removing

  pub makes-room : HasRoomForPlan capacities (after_calls made objects front) makes
  makes-room = half-room x.planned front x.removing

  -- and after the second the new things do
  pub cold-end : IsEnd capacities [] makes (made_after_all made front) (after_calls made objects front) rest
  cold-end = run-end (makes-safe x.planned) cold-halfway capacities makes-room makes [] (sym (append-nil makes)) rest x.making

  pub cold-legal : AreLegal capacities made objects (front ++ rest)
  cold-legal = legal-append capacities made objects front rest (half-end x.planned front x.removing).legal cold-end.legal

  pub cold-alike : IsAlike (after_calls made objects (front ++ rest)) (λ t. IsIn t new)
  cold-alike = subst (λ o. IsAlike o (λ t. IsIn t new)) (sym (after-append made objects front rest)) (plan-alike (makes-safe x.planned) cold-end.at x.planned.view.grouped)

-- the calls of a cold plan, with the identifiers that they come to, apply it
pub cold-comes : {capacities : List ℕ} {made : ℕ} {objects : Objects} {new : List Thing} {removes makes : List PlanChange} → IsColdPlan capacities made objects new removes makes → (view : List (Vid × Thing)) (ids : Vid → Rid) (xs ys : List (Call PlanId)) → PlansChanges (old_layout objects new) (viewed view) ids made removes xs → PlansChanges nothing (viewed view) ids (made_after_all made (map (call_renamed (resolve ids)) xs)) makes ys → AppliesCold capacities made objects new removes makes (map (call_renamed (resolve ids)) xs) (map (call_renamed (resolve ids)) ys)
cold-comes {capacities = capacities} {objects = objects} {new = new} {removes = removes} {makes = makes} x view ids xs ys first second =
    let removing = (plan-called (old_layout objects new) (viewed view) ids (removes-safe x) (first-moment x.chip new) capacities (removes_room x) removes [] (sym (append-nil removes)) xs first).run in
    record {
      planned = x;
      removing = removing;
      making = (plan-called nothing (viewed view) ids (makes-safe x) (halfway x (map (call_renamed (resolve ids)) xs) removing) capacities (half-room x (map (call_renamed (resolve ids)) xs) removing) makes [] (sym (append-nil makes)) ys second).run;
    }

-- the plan's calls as syncd makes them
use Rattle.std.proofs.Common.{◌≡◌, ◌⊎◌, ◌<◌, ◌+◌, ◌∷◌, ◌∙◌, ℕ, true, false, cond, List, [], length, refl, sym, ap, subst, arith}
use Rattle.sai_types.specs.declared.answer.ChipAnswer.{ChipAnswer}
use Rattle.sai_types.specs.declared.answer.ChipAnswer.TheVariants as answer
use Rattle.sai_types.specs.declared.body.Call.{Call}
use Rattle.sai_types.specs.declared.ids.Rid.{Rid}
use Rattle.sai_types.specs.declared.plan.PlanCall.{PlanCall}
use Rattle.sai_types.specs.After.{makes_id, next_id}
use Rattle.sai_types.specs.ChipState.{Answers, ChipState, StaysSame, TakesEffect}
use Rattle.switch_model.specs.History.{History, with_mark}
use Rattle.switch_model.specs.declared.mark.MarkEvent.TheVariants as event
use Rattle.warm_state.specs.declared.warm.Warm.TheVariants as warm
use Rattle.restart_laws.specs.Logged.{IsLoggedStep, LoggedService}
use Rattle.asic_view.specs.View.{ViewObjects}
use Rattle.syncd_core.specs.Run.{view_by}
use Rattle.syncd_core.specs.Synced.{Applies, CanApply, IsApplied, SyncState, Ties, applied, left_by, step_after, step_by, tied_by}
use Rattle.syncd_core.specs.Tied.{plan_tie}
use Rattle.syncd_core.specs.declared.answer.ApplyStep.{ApplyStep}
use Rattle.syncd_core.specs.declared.answer.ApplyStep.TheVariants as step
use Rattle.session_laws.specs.Core.{CoreState, mark_at}
use Rattle.session_laws.proofs.ByFirst.{away_stays, both_stay, by_any, one_stays}
use Rattle.session_laws.proofs.Faulting.{IsFaultLog}
use Rattle.apply_laws.proofs.Order.Called.{makes_renamed}
use Rattle.session_laws.specs.Service.Events.{MakesMore, MakesNext}
use Rattle.session_laws.specs.Service.Standing.{IsServiceOf}
use Rattle.session_laws.proofs.Service.Applying.{applied-next, apply-fails, can-apply}
use Rattle.session_laws.proofs.Service.Calls.{call_by}
use Rattle.session_laws.proofs.Service.Finishing.{finish-next, finish-stays}
use Rattle.session_laws.proofs.Service.States.{applying-reconciled}

-- ---- what the chip's answer says

record WentWell (chip : ChipState) (d : Call Rid) (chip' : ChipState) (view view' : ViewObjects) (made : ℕ) (c : PlanCall) : Type 0 where
  effect : TakesEffect chip d chip'
  seen : view' ≡ view_by made view c

-- steps that are no failure, and a failure
more_failed : step.More ≡ step.Failed → ⊥
more_failed h = cc

ended_failed : step.Ended ≡ step.Failed → ⊥
ended_failed h = cc

failed_after : (cs : List PlanCall) → step.Failed ≡ step_after cs → ⊥
failed_after [] h = cc
failed_after (c ∷ cs) h = cc

more_some : (cs : List PlanCall) → step.Ended ≡ step_after cs → cs ≡ []
more_some [] h = refl
more_some (c ∷ cs) h = absurd cc

module _ (chip chip' : ChipState) (view view' : ViewObjects) (made : ℕ) (next : next_id chip.effects ≡ made + 1) (c : PlanCall) (cs : List PlanCall) where
  abbrev d : Call Rid
  d = call_by view c

  view_made : (r : Rid) → makes_id d ≡ true → r.0 ≡ next_id chip.effects → view' ≡ tied_by view c.makes r → view' ≡ view_by made view c
  view_made r makes number ties =
      let rid : ℕ → Rid = λ n. record { 0 = n } in
      ties ∙ ap (tied_by view c.makes) (ap rid (number ∙ next))
      ∙ ap (λ b. cond b (tied_by view c.makes (record { 0 = made + 1 })) view) (sym makes ∙ makes_renamed (plan_tie view) c.call)

  view_done : makes_id d ≡ false → view' ≡ view → view' ≡ view_by made view c
  view_done makes ties = ties ∙ ap (λ b. cond b (tied_by view c.makes (record { 0 = made + 1 })) view) (sym makes ∙ makes_renamed (plan_tie view) c.call)

  -- it did not fail
  went : (said : ChipAnswer) → Answers chip d said chip' → Ties view c said view' → (step_by said cs ≡ step.Failed → ⊥) → WentWell chip d chip' view view' made c
  went (answer.Made r) h ties fine = record { effect = h.0; seen = view_made r h.1 h.2 ties }
  went answer.Done h ties fine = record { effect = h.0; seen = view_done h.1 ties }
  went answer.Failed h ties fine = absurd (fine refl)
  went _ h ties fine = absurd ties

  -- it failed
  faulty : (said : ChipAnswer) → Answers chip d said chip' → Ties view c said view' → step.Failed ≡ step_by said cs → (StaysSame chip chip' ⊎ TakesEffect chip d chip') × (chip.faults < chip'.faults)
  faulty answer.Failed h ties failed = (h.0, omega (arith, h.1))
  faulty (answer.Made r) h ties failed = absurd (failed_after cs failed)
  faulty answer.Done h ties failed = absurd (failed_after cs failed)
  faulty _ h ties failed = absurd ties

left_well : (said : ChipAnswer) (c : PlanCall) (cs : List PlanCall) (a : ApplyStep) → a ≡ step_by said cs → (a ≡ step.Failed → ⊥) → left_by said c cs ≡ cs
left_well answer.Failed c cs a h fine = absurd (fine h)
left_well (answer.Made r) c cs a h fine = refl
left_well answer.Done c cs a h fine = refl
left_well _ c cs a h fine = refl

ended_none : (said : ChipAnswer) (cs : List PlanCall) → step.Ended ≡ step_by said cs → cs ≡ []
ended_none answer.Failed cs h = absurd cc
ended_none (answer.Made r) cs h = more_some cs h
ended_none answer.Done cs h = more_some cs h
ended_none _ cs h = more_some cs h

-- ---- the steps

module _ (c : CoreState) (chip : ChipState) (s : LoggedService) (is : IsServiceOf c chip s) (at : c.warm ≡ warm.Applying) where
  pub can-next : CanApply c.sync.left c.sync.view chip
  can-next = by c.sync.left refl
    where
      by : (l : List PlanCall) → c.sync.left ≡ l → CanApply c.sync.left c.sync.view chip
      by [] h = subst (λ l. CanApply l c.sync.view chip) (sym h) tt
      by (call ∷ cs) h = can-apply c chip s is at call cs h

  module _ (call : PlanCall) (cs : List PlanCall) (has : c.sync.left ≡ call ∷ cs) (a : ApplyStep) (y : SyncState) (chip' : ChipState) (x : IsApplied c.sync chip call cs a y chip') where
    well : (a ≡ step.Failed → ⊥) → WentWell chip (call_by c.sync.view call) chip' c.sync.view x.view s.service.core.made call
    well fine = went chip chip' c.sync.view x.view s.service.core.made is.always.made call cs x.answer x.answered.answer x.ties (λ h. fine (x.step ∙ h))

    core_is : (fine : a ≡ step.Failed → ⊥) → y ≡ applied c.sync (view_by s.service.core.made c.sync.view call) cs
    core_is fine = x.later ∙ ap (λ l. applied c.sync x.view l) (left_well x.answer call cs a x.step fine) ∙ ap (λ v. applied c.sync v cs) (well fine).seen

    made_next : (a ≡ step.Failed → ⊥) → MakesNext c s (record c { sync = y }) chip'
    made_next fine = subst (λ z. MakesNext c s (record c { sync = z }) chip') (sym (core_is fine)) (applied-next c chip s is at call cs has x.answer chip' x.answered (well fine).effect)

    made_last : a ≡ step.Ended → MakesMore 0 c s (record c { sync = y; log = with_mark c.log (mark_at c (length chip'.effects) event.ApplyEnded); warm = warm.Reconciled }) chip'
    made_last ended =
        let first = made_next (λ h. ended_failed (sym ended ∙ h)) in
        let none : y.left ≡ [] = ap (λ (z : SyncState). z.left) (core_is (λ h. ended_failed (sym ended ∙ h))) ∙ ended_none x.answer cs (sym ended ∙ x.step) in
        let second = finish-next (record c { sync = y }) chip' first.later first.stands at none in
        record {
          steps = first.later ∷ second.later ∷ [];
          are = (first.makes, (subst (λ l. IsLoggedStep c.board.plan 4 l first.later second.later) first.capacities second.makes, tt));
          few = both_stay 0 s (first.later ∷ []) (second.later ∷ []) (one_stays 0 s first.later (by_any 0 s first.later (away_stays s first.later (λ h. applying-reconciled (sym at ∙ sym first.stands.always.warm_is ∙ h))))) (one_stays 0 first.later second.later (by_any 0 first.later second.later (finish-stays (record c { sync = y }) chip' first.later first.stands at none)));
          stands = second.stands;
          plan = refl;
          capacities = first.capacities;
          limit = refl;
        }

    made_failed : a ≡ step.Failed → (log : History) → IsFaultLog c.log (mark_at c (length chip'.effects) (event.Faulted chip.faults chip'.faults)) log → MakesNext c s (record c { sync = y; log = log; warm = warm.Suspect }) chip'
    made_failed failed log form =
        let f = faulty chip chip' c.sync.view x.view s.service.core.made is.always.made call cs x.answer x.answered.answer x.ties (sym failed ∙ x.step) in
        subst (λ z. MakesNext c s (record c { sync = z; log = log; warm = warm.Suspect }) chip') (sym x.later)
        (apply-fails c chip s is at call cs has x.answer chip' x.answered x.view (left_by x.answer call cs) f.1 log form f.0)

  -- ---- as syncd tells it

  module _ (y : SyncState) (chip' : ChipState) where
    pub more-next : Applies c.sync.left c.sync chip step.More y chip' → MakesNext c s (record c { sync = y }) chip'
    more-next = by c.sync.left refl
      where
        by : (l : List PlanCall) → c.sync.left ≡ l → Applies l c.sync chip step.More y chip' → MakesNext c s (record c { sync = y }) chip'
        by [] h x = absurd cc
        by (call ∷ cs) h x = made_next call cs h step.More y chip' x more_failed

    pub ended-next : Applies c.sync.left c.sync chip step.Ended y chip' → MakesMore 0 c s (record c { sync = y; log = with_mark c.log (mark_at c (length chip'.effects) event.ApplyEnded); warm = warm.Reconciled }) chip'
    ended-next = by c.sync.left refl
      where
        by : (l : List PlanCall) → c.sync.left ≡ l → Applies l c.sync chip step.Ended y chip' → MakesMore 0 c s (record c { sync = y; log = with_mark c.log (mark_at c (length chip'.effects) event.ApplyEnded); warm = warm.Reconciled }) chip'
        by [] h x =
            let only = finish-next c chip s is at h in
            subst (λ z. MakesMore 0 c s (record c { sync = z; log = with_mark c.log (mark_at c (length chip'.effects) event.ApplyEnded); warm = warm.Reconciled }) chip') (sym x.0)
            (subst (λ z. MakesMore 0 c s (record c { log = with_mark c.log (mark_at c (length z.effects) event.ApplyEnded); warm = warm.Reconciled }) z) (sym x.1)
            (record { steps = only.later ∷ []; are = (only.makes, tt); few = one_stays 0 s only.later (by_any 0 s only.later (finish-stays c chip s is at h)); stands = only.stands; plan = refl; capacities = refl; limit = refl }))
        by (call ∷ cs) h x = made_last call cs h step.Ended y chip' x refl

    pub failed-next : (log : History) → IsFaultLog c.log (mark_at c (length chip'.effects) (event.Faulted chip.faults chip'.faults)) log → Applies c.sync.left c.sync chip step.Failed y chip' → MakesNext c s (record c { sync = y; log = log; warm = warm.Suspect }) chip'
    failed-next log form = by c.sync.left refl
      where
        by : (l : List PlanCall) → c.sync.left ≡ l → Applies l c.sync chip step.Failed y chip' → MakesNext c s (record c { sync = y; log = log; warm = warm.Suspect }) chip'
        by [] h x = absurd cc
        by (call ∷ cs) h x = made_failed call cs h step.Failed y chip' x refl log form

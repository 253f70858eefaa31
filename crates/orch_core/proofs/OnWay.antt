-- a list of the chip and the calls of a plan, as the core makes them
use Rattle.std.proofs.Common.{◌≡◌, ◌+◌, ◌<◌, ◌≤◌, ◌∷◌, ◌∙◌, inl, inr, ℕ, Bool, true, false, List, [], length, Ok, refl, sym, ap, subst, arith}
use Rattle.std.proofs.lemmas.List.{length-append}
use Rattle.sai_types.specs.declared.answer.ChipAnswer.{ChipAnswer}
use Rattle.sai_types.specs.declared.answer.ChipAnswer.TheVariants as answer
use Rattle.sai_types.specs.declared.plan.PlanCall.{PlanCall}
use Rattle.sai_types.specs.ChipState.{ChipState, calls_after}
use Rattle.chip_layout.specs.Renamed.{call_renamed}
use Rattle.switch_model.specs.History.{History, no_history, with_mark}
use Rattle.switch_model.specs.declared.mark.Mark.{Mark}
use Rattle.switch_model.specs.declared.mark.MarkEvent.TheVariants as event
use Rattle.restart_laws.specs.Logged.{LoggedService}
use Rattle.asic_view.specs.View.{ViewObjects}
use Rattle.syncd_core.specs.Synced.{Applies, SyncState, TakesList, Ties, left_by, step_after, step_by}
use Rattle.syncd_core.specs.Tied.{plan_tie}
use Rattle.syncd_core.specs.declared.answer.ApplyStep.{ApplyStep}
use Rattle.syncd_core.specs.declared.answer.ApplyStep.TheVariants as apply_step
use Rattle.syncd_core.specs.declared.answer.Listed.{Listed}
use Rattle.syncd_core.specs.declared.answer.Listed.TheVariants as listed
use Rattle.warm_state.specs.declared.warm.Warm.TheVariants as warm
use Rattle.session_laws.specs.Core.{CoreState, IsFullFor, mark_at}
use Rattle.session_laws.proofs.Faulting.{Ended, Marked}
use Rattle.session_laws.specs.Service.Events.{MakesNext}
use Rattle.session_laws.specs.Service.Standing.{IsServiceOf}
use Rattle.session_laws.proofs.Service.Listing.{list-fails, list-next}
use Rattle.session_laws.proofs.Service.Made.{ended-next, failed-next, more-next}
use Rattle.orch_core.specs.Outcomes.{with_fault}
use Rattle.orch_core.specs.Restarting.{AppliesLast, AppliesOne, AppliesOut, FaultsOnWay, HeedsApply, HeedsList, ListsOnWay, ListsOut, calls_then, places_left}
use Rattle.orch_core.specs.declared.answer.Step.{Step}
use Rattle.orch_core.proofs.Chips.{one_effect, one_more_effect, same_faults}

-- ---- what a plan's call came to

more_went : apply_step.More ≡ apply_step.Failed → ⊥
more_went h = cc

ended_went : apply_step.Ended ≡ apply_step.Failed → ⊥
ended_went h = cc

after_some : (cs : List PlanCall) → apply_step.Failed ≡ step_after cs → ⊥
after_some [] h = cc
after_some (c ∷ cs) h = cc

said_failed : (said : ChipAnswer) (cs : List PlanCall) (old new : ViewObjects) (c : PlanCall) → Ties old c said new → apply_step.Failed ≡ step_by said cs → said ≡ answer.Failed
said_failed answer.Failed cs old new c ties h = refl
said_failed (answer.Made r) cs old new c ties h = absurd (after_some cs h)
said_failed answer.Done cs old new c ties h = absurd (after_some cs h)
said_failed _ cs old new c ties h = absurd ties

last_left : (said : ChipAnswer) (cs : List PlanCall) → apply_step.Ended ≡ step_by said cs → cs ≡ []
last_left said [] h = refl
last_left answer.Failed (c ∷ cs) h = absurd cc
last_left (answer.Made r) (c ∷ cs) h = absurd cc
last_left _ (c ∷ cs) h = absurd cc

more_left : (said : ChipAnswer) (c : PlanCall) (cs : List PlanCall) → apply_step.More ≡ step_by said cs → left_by said c cs ≡ cs
more_left answer.Failed c cs h = absurd cc
more_left (answer.Made r) c cs h = refl
more_left answer.Done c cs h = refl
more_left _ c cs h = refl

more_after : (said : ChipAnswer) (cs : List PlanCall) → apply_step.More ≡ step_by said cs → 0 < length cs
more_after said (c ∷ cs) h = omega arith
more_after answer.Failed [] h = absurd cc
more_after (answer.Made r) [] h = absurd cc
more_after _ [] h = absurd cc

one_fewer : (c : PlanCall) (cs left : List PlanCall) → left ≡ cs → length left < length (c ∷ cs)
one_fewer c cs left same = let long : length left ≡ length cs = ap length same in omega (arith, long)

-- where at most one call is left, it and the mark of the end have a place each
places_last : (l : List PlanCall) → length l ≤ 1 → places_left l ≡ length l + 1
places_last [] few = refl
places_last (c ∷ []) few = refl
places_last (c ∷ d ∷ l) few = absurd (omega (arith, few))

module _ (y y' : SyncState) (chip chip' : ChipState) where
  -- the chip failed no more often, and stays what it is made with
  pub applies_went : (l : List PlanCall) (a : ApplyStep) → (a ≡ apply_step.Failed → ⊥) → Applies l y chip a y' chip' → chip'.faults ≡ chip.faults
  applies_went [] a went x = ap (λ (z : ChipState). z.faults) x.1
  applies_went (c ∷ cs) a went x = same_faults chip chip' (call_renamed (plan_tie y.view) c.call) x.answer (λ failed. went (x.step ∙ ap (λ z. step_by z cs) failed)) x.answered.answer

  pub applies_fails : (l : List PlanCall) (a : ApplyStep) → Applies l y chip a y' chip' → chip'.fails ≡ chip.fails
  applies_fails [] a x = ap (λ (z : ChipState). z.fails) x.1
  applies_fails (c ∷ cs) a x = x.answered.fails

  -- one of the calls was made, and more are left
  pub applies_fewer : (l : List PlanCall) → Applies l y chip apply_step.More y' chip' → (length y'.left < length l) × (places_left l ≡ 2) × (0 < length y'.left) × (length chip'.effects ≤ length chip.effects + 1) × (chip'.calls ≡ calls_after chip.calls)
  applies_fewer [] x = absurd cc
  applies_fewer (c ∷ cs) x =
      let left : y'.left ≡ cs = ap (λ (z : SyncState). z.left) x.later ∙ more_left x.answer c cs x.step in
      (one_fewer c cs y'.left left, refl, subst (λ l. 0 < length l) (sym left) (more_after x.answer cs x.step), one_effect chip chip' (call_renamed (plan_tie y.view) c.call) x.answer x.answered, x.answered.calls)

  -- what ended the plan was its last call, or no call
  pub applies_last : (l : List PlanCall) → Applies l y chip apply_step.Ended y' chip' → (length l ≤ 1) × (length chip'.effects ≤ length chip.effects + length l)
  applies_last [] x = let long : length chip'.effects ≡ length chip.effects = ap (λ (z : ChipState). length z.effects) x.1 in (omega arith, omega (arith, long))
  applies_last (c ∷ cs) x =
      let none : length cs ≡ 0 = ap length (last_left x.answer cs x.step) in
      let most = one_effect chip chip' (call_renamed (plan_tie y.view) c.call) x.answer x.answered in (omega (arith, none), omega (arith, none, most))

  -- one call was asked of the chip, where one was left
  pub applies_called : (l : List PlanCall) (a : ApplyStep) → Applies l y chip a y' chip' → chip'.calls ≡ calls_then l chip.calls
  applies_called [] a x = ap (λ (z : ChipState). z.calls) x.1
  applies_called (c ∷ cs) a x = x.answered.calls

  -- of a failed call at most its own effect came behind those before it
  pub applies_failed : (l : List PlanCall) → Applies l y chip apply_step.Failed y' chip' → (places_left l ≡ 2) × (length chip'.effects ≤ chip'.before_fault + 1) × (chip'.before_fault ≡ length chip.effects) × (chip'.faults ≡ chip.faults + 1) × (chip'.calls ≡ calls_after chip.calls)
  applies_failed [] x = absurd cc
  applies_failed (c ∷ cs) x = let z = one_more_effect chip chip' (call_renamed (plan_tie y.view) c.call) x.answer (said_failed x.answer cs y.view x.view c x.ties x.step) x.answered in (refl, z.0, z.1, z.2, x.answered.calls)

-- ---- as the core takes it

module _ (s : LoggedService) (c : CoreState) (chip : ChipState) (is : IsServiceOf c chip s) (y : SyncState) (chip' : ChipState) where
  -- without its log
  abbrev beside : CoreState
  beside = record c { log = no_history; sync = y }

  abbrev fault : Mark
  fault = mark_at c (length chip'.effects) (event.Faulted chip.faults chip'.faults)

  abbrev end : Mark
  end = mark_at c (length chip'.effects) event.ApplyEnded

  -- ---- a list

  module _ (at : c.warm ≡ warm.Initialized) (room : IsFullFor c (length chip.effects) 1 → ⊥) where
    listed_core : TakesList c.sync chip listed.Done y chip' → ListsOnWay s c chip (record c { sync = y; warm = warm.Restored }) chip'
    listed_core x = record { makes = list-next c chip s is at y chip' x; is = ap (λ z. record c { sync = z; warm = warm.Restored }) x.0; chip_is = x.1; room = room }

    unlisted : (ends : Bool) → TakesList c.sync chip listed.Failed y chip' → MakesNext c s (record c { sync = y; log = with_fault ends c.log fault; warm = warm.Suspect }) chip'
    unlisted true x = list-fails c chip s is at y chip' x (with_fault true c.log fault) Ended
    unlisted false x = list-fails c chip s is at y chip' x (with_fault false c.log fault) Marked

    unlisted_core : (ends : Bool) → TakesList c.sync chip listed.Failed y chip' → FaultsOnWay 1 ends s c chip (record c { sync = y; log = with_fault ends c.log fault; warm = warm.Suspect }) chip'
    unlisted_core ends x =
        let behind = x.1.fault in
        let long : length chip'.effects ≡ length chip.effects = ap length x.1.same.effects in
        record {
          makes = unlisted ends x;
          called = x.1.calls;
          one = x.1.answer.1;
          last = behind;
          log = refl;
          warm = refl;
          places = omega (arith, behind, room);
          few = omega (arith, behind, long);
          tables = refl;
          fails = x.1.fails;
        }

    list_heeded : (ends : Bool) (l : Listed) (r : Step) (c' : CoreState) → TakesList c.sync chip l y chip' → HeedsList l c.log fault ends beside r c' → ListsOut ends s c chip (Ok r) c' chip'
    list_heeded ends listed.Done r c' x h = subst (λ q. ListsOut ends s c chip (Ok q) c' chip') (sym h.0) (subst (λ z. ListsOnWay s c chip z chip') (sym h.1) (listed_core x))
    list_heeded ends listed.Failed r c' x h = subst (λ q. ListsOut ends s c chip (Ok q) c' chip') (sym h.0) (subst (λ z. FaultsOnWay 1 ends s c chip z chip') (sym h.1) (unlisted_core ends x))

  -- ---- a call of the plan

  module _ (at : c.warm ≡ warm.Applying) (room : IsFullFor c (length chip.effects) (places_left c.sync.left) → ⊥) where
    applied_one : Applies c.sync.left c.sync chip apply_step.More y chip' → AppliesOne s c chip (record c { sync = y }) chip'
    applied_one x =
        let fewer = applies_fewer c.sync y chip chip' c.sync.left x in
        let two = subst (λ n. IsFullFor c (length chip.effects) n → ⊥) fewer.1 room in
        let most = fewer.3 in
        record {
          makes = more-next c chip s is at y chip' x;
          warm = at;
          log = refl;
          tables = refl;
          board = refl;
          fewer = fewer.0;
          more = fewer.2;
          room = two;
          called = fewer.4;
          keeps = record { fails = applies_fails c.sync y chip chip' c.sync.left apply_step.More x; faults = applies_went c.sync y chip chip' c.sync.left apply_step.More more_went x; limit = λ within. omega (arith, two, most) };
        }

    applied_last : Applies c.sync.left c.sync chip apply_step.Ended y chip' → AppliesLast s c chip (record c { sync = y; log = with_mark c.log end; warm = warm.Reconciled }) chip'
    applied_last x =
        let last = applies_last c.sync y chip chip' c.sync.left x in
        let few = last.1 in
        let own = places_last c.sync.left last.0 in
        let longer = length-append c.log.marks (end ∷ []) in
        record {
          makes = ended-next c chip s is at y chip' x;
          warm = refl;
          log = refl;
          tables = refl;
          board = refl;
          one = last.0;
          few = last.1;
          room = room;
          called = applies_called c.sync y chip chip' c.sync.left apply_step.Ended x;
          keeps = record { fails = applies_fails c.sync y chip chip' c.sync.left apply_step.Ended x; faults = applies_went c.sync y chip chip' c.sync.left apply_step.Ended ended_went x; limit = λ within. omega (arith, room, few, own, longer) };
        }

    unapplied : (ends : Bool) → Applies c.sync.left c.sync chip apply_step.Failed y chip' → MakesNext c s (record c { sync = y; log = with_fault ends c.log fault; warm = warm.Suspect }) chip'
    unapplied true x = failed-next c chip s is at y chip' (with_fault true c.log fault) Ended x
    unapplied false x = failed-next c chip s is at y chip' (with_fault false c.log fault) Marked x

    unapplied_core : (ends : Bool) → Applies c.sync.left c.sync chip apply_step.Failed y chip' → FaultsOnWay 2 ends s c chip (record c { sync = y; log = with_fault ends c.log fault; warm = warm.Suspect }) chip'
    unapplied_core ends x =
        let z = applies_failed c.sync y chip chip' c.sync.left x in
        let two = subst (λ n. IsFullFor c (length chip.effects) n → ⊥) z.0 room in
        let most = z.1 in
        let behind = z.2 in
        record {
          makes = unapplied ends x;
          called = z.4;
          one = z.3;
          last = behind;
          log = refl;
          warm = refl;
          places = omega (arith, behind, two);
          few = omega (arith, most);
          tables = refl;
          fails = applies_fails c.sync y chip chip' c.sync.left apply_step.Failed x;
        }

    apply_heeded : (ends : Bool) (a : ApplyStep) (r : Step) (c' : CoreState) → Applies c.sync.left c.sync chip a y chip' → HeedsApply a c.log fault end ends beside r c' → AppliesOut ends s c chip (Ok r) c' chip'
    apply_heeded ends apply_step.More r c' x h = subst (λ q. AppliesOut ends s c chip (Ok q) c' chip') (sym h.0) (inl (subst (λ z. AppliesOne s c chip z chip') (sym h.1) (applied_one x)))
    apply_heeded ends apply_step.Ended r c' x h = subst (λ q. AppliesOut ends s c chip (Ok q) c' chip') (sym h.0) (inr (subst (λ z. AppliesLast s c chip z chip') (sym h.1) (applied_last x)))
    apply_heeded ends apply_step.Failed r c' x h = subst (λ q. AppliesOut ends s c chip (Ok q) c' chip') (sym h.0) (subst (λ z. FaultsOnWay 2 ends s c chip z chip') (sym h.1) (unapplied_core ends x))

  -- ---- in the code's words: without its log, which is the same still, and with marks of this moment

  fault_is : (h : History) → h ≡ c.log → (n before after : ℕ) → n ≡ length chip'.effects → before ≡ chip.faults → after ≡ chip'.faults → (f : Mark) → f ≡ record { taken = length h.taken; effects = n; event = event.Faulted before after } → f ≡ fault
  fault_is h same n before after many first last f is_mark =
      let made : ℕ → ℕ → ℕ → ℕ → Mark = λ t n i j. record { taken = t; effects = n; event = event.Faulted i j } in
      is_mark ∙ ap (λ (l : History). made (length l.taken) n before after) same ∙ ap (λ k. made (length c.log.taken) k before after) many
      ∙ ap (λ k. made (length c.log.taken) (length chip'.effects) k after) first ∙ ap (λ k. made (length c.log.taken) (length chip'.effects) chip.faults k) last

  end_is : (h : History) → h ≡ c.log → (n : ℕ) → n ≡ length chip'.effects → (f : Mark) → f ≡ record { taken = length h.taken; effects = n; event = event.ApplyEnded } → f ≡ end
  end_is h same n many f is_mark =
      let made : ℕ → ℕ → Mark = λ t n. record { taken = t; effects = n; event = event.ApplyEnded } in
      is_mark ∙ ap (λ (l : History). made (length l.taken) n) same ∙ ap (λ k. made (length c.log.taken) k) many

  pub list_made : (at : c.warm ≡ warm.Initialized) → (IsFullFor c (length chip.effects) 1 → ⊥) → (ends : Bool) (d : CoreState) → d ≡ beside → (h : History) → h ≡ c.log → (l : Listed) → TakesList c.sync chip l y chip' → (n before after : ℕ) → n ≡ length chip'.effects → before ≡ chip.faults → after ≡ chip'.faults → (f : Mark) → f ≡ record { taken = length h.taken; effects = n; event = event.Faulted before after } → (r : Step) (c' : CoreState) → HeedsList l h f ends d r c' → ListsOut ends s c chip (Ok r) c' chip'
  list_made at room ends d is_without h same l x n before after many first last f is_mark r c' heeds =
      list_heeded at room ends l r c' x
      (subst (λ k. HeedsList l k fault ends beside r c') same
      (subst (λ g. HeedsList l h g ends beside r c') (fault_is h same n before after many first last f is_mark)
      (subst (λ z. HeedsList l h f ends z r c') is_without heeds)))

  pub apply_made : (at : c.warm ≡ warm.Applying) → (IsFullFor c (length chip.effects) (places_left c.sync.left) → ⊥) → (ends : Bool) (d : CoreState) → d ≡ beside → (h : History) → h ≡ c.log → (a : ApplyStep) → Applies c.sync.left c.sync chip a y chip' → (n before after : ℕ) → n ≡ length chip'.effects → before ≡ chip.faults → after ≡ chip'.faults → (f : Mark) → f ≡ record { taken = length h.taken; effects = n; event = event.Faulted before after } → (m : ℕ) → m ≡ length chip'.effects → (g : Mark) → g ≡ record { taken = length h.taken; effects = m; event = event.ApplyEnded } → (r : Step) (c' : CoreState) → HeedsApply a h f g ends d r c' → AppliesOut ends s c chip (Ok r) c' chip'
  apply_made at room ends d is_without h same a x n before after many first last f is_mark m many_then g is_end r c' heeds =
      apply_heeded at room ends a r c' x
      (subst (λ k. HeedsApply a k fault end ends beside r c') same
      (subst (λ e. HeedsApply a h fault e ends beside r c') (end_is h same m many_then g is_end)
      (subst (λ e. HeedsApply a h e g ends beside r c') (fault_is h same n before after many first last f is_mark)
      (subst (λ z. HeedsApply a h f g ends z r c') is_without heeds))))

-- without its log the core's syncd is the same
pub takes_kept : (c d : CoreState) (chip chip' : ChipState) (l : Listed) (y : SyncState) → d ≡ record c { log = no_history } → TakesList d.sync chip l y chip' → TakesList c.sync chip l y chip'
takes_kept c d chip chip' l y is_without x = subst (λ (z : CoreState). TakesList z.sync chip l y chip') is_without x

pub applies_kept : (c d : CoreState) (chip chip' : ChipState) (a : ApplyStep) (y : SyncState) → d ≡ record c { log = no_history } → Applies d.sync.left d.sync chip a y chip' → Applies c.sync.left c.sync chip a y chip'
applies_kept c d chip chip' a y is_without x = subst (λ (z : CoreState). Applies z.sync.left z.sync chip a y chip') is_without x

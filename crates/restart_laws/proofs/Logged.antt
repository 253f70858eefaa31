-- over restarts and faults the marks of a log are true and in order, and its effects are legal
use Rattle.std.proofs.Common.{◌≡◌, ◌+◌, ◌≤◌, ◌∷◌, ◌++◌, ◌∙◌, inl, inr, ℕ, List, [], length, Option, None, Some, refl, sym, ap, subst, arith}
use Rattle.std.proofs.Math.Seq.{take-length}
use Rattle.std.proofs.lemmas.List.{append-nil, length-append}
use Rattle.std.specs.Prelude.{take}
use Rattle.table_schema.specs.Plan.{Ports, IsPlan}
use Rattle.table_schema.specs.declared.key.Key.{Key}
use Rattle.table_schema.specs.declared.write.Sent.{Sent}
use Rattle.sai_types.specs.declared.ids.Rid.{Rid}
use Rattle.sai_types.specs.declared.body.Call.{Call}
use Rattle.sai_types.specs.declared.plan.Mode.{Mode}
use Rattle.sai_types.specs.After.{after_call, after_calls}
use Rattle.sai_types.specs.Alike.{IsAlike}
use Rattle.sai_types.specs.Made.{AreLegal, made_after, made_after_all}
use Rattle.sai_types.specs.Refusal.{IsLegal}
use Rattle.switch_model.specs.Desired.{IsThingOf}
use Rattle.switch_model.specs.Good.{TypedRows}
use Rattle.switch_model.specs.History.{History, with_end, with_mark, with_write}
use Rattle.switch_model.specs.Marks.{Waiting, applied_rows, sent_writes}
use Rattle.switch_model.specs.Placed.{bare_rows}
use Rattle.switch_model.specs.Promises.{AreTrueMarks, EndsApply, IsEnded, IsTrueMark, MarksAreTrue, applied_at}
use Rattle.switch_model.specs.Sound.{AreWithin}
use Rattle.switch_model.specs.declared.mark.Mark.{Mark}
use Rattle.switch_model.specs.declared.mark.MarkEvent.{MarkEvent}
use Rattle.switch_model.specs.declared.mark.MarkEvent.TheVariants as event
use Rattle.switch_machine.specs.Events.{IsSafe, SwitchState, with_made_call}
use Rattle.switch_machine.specs.Flights.{Machine}
use Rattle.switch_machine.specs.Written.{Written}
use Rattle.machine_laws.specs.Logged.{IsLoggedEvent}
use Rattle.machine_laws.specs.Order.{MayEndRound, IsOrdered, IsSettledMark, MayFollow}
use Rattle.machine_laws.proofs.Staying.{after_calls-grown, chip_after-all, good-front, legal-grown, made-one, map-more, marks-grown, marks-taken, within-mark, within-more}
use Rattle.machine_laws.proofs.Telling.{Told, told_event}
use Rattle.warm_state.specs.declared.warm.Warm.{Warm}
use Rattle.warm_state.specs.declared.warm.Warm.TheVariants.{Initialized, Restored, Applying, Reconciled, Suspect}
use Rattle.restart_laws.specs.Invariant.{Holds, HoldsAlways}
use Rattle.restart_laws.specs.Logged.{AddsFault, AddsMark, AreLoggedSteps, IsLeftIn, IsLoggedStep, IsWarmAfter, LoggedService, OfMachine, OfService, Records, last_mark, mark_now, new_session, session_after, switch_of}
use Rattle.restart_laws.specs.Restored.{waiting_of}
use Rattle.restart_laws.specs.Service.{HasFailed, IsDue, IsServiceEvent, OfApply, OfFault, OfFinish, OfFlight, OfList, OfListFault, OfPlan, OfRestart, OfRestore, OfTake, OfWork, Service, forgotten}
use Rattle.restart_laws.proofs.Begun.{restored-begun, same_rows}
use Rattle.restart_laws.proofs.Ended.{alike-rows, apart, ended-alike}
use Rattle.restart_laws.proofs.Holding.{due-legal, holds-new, holds-step, in_state, to_state}
use Rattle.restart_laws.proofs.Restoring.{restored-written}
use Rattle.restart_laws.proofs.Marking.{after-list, event_of, last-more, may-begin, may-end, may-fault, may-restart, may-settle, ordered-end, ordered-mark}

-- one true mark more, by the mark before it
marks_then : (plan : Ports) (capacities : List ℕ) (taken : List Sent) (es : List (Call Rid)) (before : Option Mark) (marks : List Mark) (mark : Mark) → AreTrueMarks plan capacities taken es before marks → IsTrueMark plan capacities taken es (last_mark before marks) mark mark.event → AreTrueMarks plan capacities taken es before (marks ++ mark ∷ [])
marks_then plan capacities taken es before [] mark h one = (one, tt)
marks_then plan capacities taken es before (m ∷ marks) mark (first, h) one = (first, marks_then plan capacities taken es (Some m) marks mark h one)

module _ (plan : Ports) (is : IsPlan plan) (workers : ℕ) (capacities : List ℕ) where
  -- ---- what a log and the effects tell of a core

  pub record Tells (core : SwitchState) (log : History) (effects : List (Call Rid)) : Type 0 where
    pub taken : core.written.taken ≡ sent_writes log.taken
    pub objects : core.objects ≡ after_calls 0 [] effects
    pub made : core.made ≡ made_after_all 0 effects
    pub legal : AreLegal capacities 0 [] effects
    pub within : AreWithin (length log.taken) (length effects) log.marks
    pub marks : MarksAreTrue plan capacities log effects

  same_core : (s t : SwitchState) (log : History) (effects : List (Call Rid)) → t.written.taken ≡ s.written.taken → t.objects ≡ s.objects → t.made ≡ s.made → Tells s log effects → Tells t log effects
  same_core s t log effects taken objects made x = record { taken = taken ∙ x.taken; objects = objects ∙ x.objects; made = made ∙ x.made; legal = x.legal; within = x.within; marks = x.marks }

  more_call : (s t : SwitchState) (log : History) (effects : List (Call Rid)) (call : Call Rid) → IsLegal capacities s.objects call → t.written.taken ≡ s.written.taken → t.objects ≡ after_call (s.made + 1) s.objects call → t.made ≡ made_after s.made call → Tells s log effects → Tells t log (effects ++ call ∷ [])
  more_call s t log effects call legal taken objects made x = record {
    taken = taken ∙ x.taken;
    objects = objects ∙ ap (λ z. after_call (z + 1) s.objects call) x.made ∙ ap (λ z. after_call (made_after_all 0 effects + 1) z call) x.objects ∙ sym (after_calls-grown 0 [] effects call);
    made = made ∙ ap (λ z. made_after z call) x.made ∙ sym (made-one 0 effects call);
    legal = legal-grown capacities 0 [] effects call x.legal (subst (λ z. IsLegal capacities z call) x.objects legal);
    within = within-more (length log.taken) (length log.taken) (length effects) (length (effects ++ call ∷ [])) log.marks (omega arith) (omega (arith, length-append effects (call ∷ []))) x.within;
    marks = marks-grown plan capacities log.taken effects call (length log.taken) None log.marks x.within x.marks;
  }

  more_write : (s t : SwitchState) (log : History) (effects : List (Call Rid)) (sent : Sent) → t.written.taken ≡ s.written.taken ++ (sent.write ∷ []) → t.objects ≡ s.objects → t.made ≡ s.made → Tells s log effects → Tells t (with_write log sent) effects
  more_write s t log effects sent taken objects made x = record {
    taken = taken ∙ ap (λ z. z ++ (sent.write ∷ [])) x.taken ∙ sym (map-more log.taken sent);
    objects = objects ∙ x.objects;
    made = made ∙ x.made;
    legal = x.legal;
    within = within-more (length log.taken) (length (log.taken ++ sent ∷ [])) (length effects) (length effects) log.marks (omega (arith, length-append log.taken (sent ∷ []))) (omega arith) x.within;
    marks = marks-taken plan capacities log.taken sent effects (length effects) None log.marks (λ b e. absurd cc) x.within x.marks;
  }

  more_mark : (s : SwitchState) (log : History) (effects : List (Call Rid)) (e : MarkEvent) → IsTrueMark plan capacities log.taken effects (last_mark None log.marks) (mark_now log effects e) e → Tells s log effects → Tells s (with_mark log (mark_now log effects e)) effects
  more_mark s log effects e true x = record {
    taken = x.taken;
    objects = x.objects;
    made = x.made;
    legal = x.legal;
    within = within-mark (length log.taken) (length effects) (mark_now log effects e) log.marks refl refl x.within;
    marks = marks_then plan capacities log.taken effects None log.marks (mark_now log effects e) x.marks true;
  }

  with_its_end : (s : SwitchState) (log : History) (effects : List (Call Rid)) → Tells s log effects → Tells s (with_end log) effects
  with_its_end s log effects x = record { taken = x.taken; objects = x.objects; made = x.made; legal = x.legal; within = x.within; marks = x.marks }

  -- ---- what holds of a session

  -- the last mark is that of the beginning of the apply, and what was applied at it is what is applied
  pub record HasBegun (s : LoggedService) : Type 0 where
    pub mark : Mark
    pub mode : Mode
    pub waits : Waiting
    pub last : last_mark None s.log.marks ≡ Some mark
    pub event_is : mark.event ≡ event.ApplyBegan mode waits
    pub least : mark.taken ≤ length s.log.taken
    pub rows : (q : Key) → applied_at plan s.log.taken mark waits q ≡ bare_rows s.service.core.machine.board.applied q

  pub record IsToldLog (s : LoggedService) : Type 0 where
    pub holds : Holds plan workers capacities s.service
    pub tells : Tells s.service.core s.log s.effects
    pub warm : IsWarmAfter (last_mark None s.log.marks) s.service.warm
    pub ordered : IsOrdered s.log
    pub begun : s.service.warm ≡ Applying → HasBegun s

  none_begun : (s : LoggedService) (w : Warm) → s.service.warm ≡ w → (w ≡ Applying → ⊥) → s.service.warm ≡ Applying → HasBegun s
  none_begun s w e none at = absurd (none (sym e ∙ at))

  abbrev with_log : Service → History → List (Call Rid) → LoggedService
  with_log t log effects = record { service = t; log = log; effects = effects }

  back : (t : LoggedService) (log : History) (effects : List (Call Rid)) → t.log ≡ log → t.effects ≡ effects → IsToldLog (with_log t.service log effects) → IsToldLog t
  back t log effects l e x = subst (λ z. IsToldLog (with_log t.service z t.effects)) (sym l) (subst (λ z. IsToldLog (with_log t.service log z)) (sym e) x)

  -- ---- an event that records a mark

  module _ (s : LoggedService) (t : Service) (effects : List (Call Rid)) (e : MarkEvent) (told : IsToldLog s) (holds : Holds plan workers capacities t) (tells : Tells t.core s.log effects) (true : IsTrueMark plan capacities s.log.taken effects (last_mark None s.log.marks) (mark_now s.log effects e) e) (may : MayFollow (event_of (last_mark None s.log.marks)) e) (left : IsLeftIn e t.warm) where
    abbrev marked_log : History
    marked_log = with_mark s.log (mark_now s.log effects e)

    marked_warm : IsWarmAfter (last_mark None marked_log.marks) t.warm
    marked_warm = subst (λ o. IsWarmAfter o t.warm) (sym (last-more None s.log.marks (mark_now s.log effects e))) left

    marked : (IsSettledMark e → ⊥) → (t.warm ≡ Applying → HasBegun (with_log t marked_log effects)) → IsToldLog (with_log t marked_log effects)
    marked other begun = record {
      holds = holds;
      tells = more_mark t.core s.log effects e true tells;
      warm = marked_warm;
      ordered = ordered-mark s.log (mark_now s.log effects e) told.ordered may other;
      begun = begun;
    }

    marked_end : MayEndRound e → (t.warm ≡ Applying → ⊥) → IsToldLog (with_log t (with_end marked_log) effects)
    marked_end ends none = record {
      holds = holds;
      tells = with_its_end t.core marked_log effects (more_mark t.core s.log effects e true tells);
      warm = marked_warm;
      ordered = ordered-end s.log (mark_now s.log effects e) told.ordered may ends;
      begun = λ at. absurd (none at);
    }

  adds : (s t : LoggedService) (effects : List (Call Rid)) (e : MarkEvent) → t.effects ≡ effects → AddsMark s t e → IsToldLog (with_log t.service (with_mark s.log (mark_now s.log effects e)) effects) → IsToldLog t
  adds s t effects e same log x = back t (with_mark s.log (mark_now s.log effects e)) effects (log ∙ ap (λ z. with_mark s.log (mark_now s.log z e)) same) same x

  not_applying : (w : Warm) → w ≡ Suspect → w ≡ Applying → ⊥
  not_applying w e at = apart Suspect Applying (sym e ∙ at) (λ e. cc)

  faulted : (s t : LoggedService) (effects : List (Call Rid)) → IsToldLog s → Holds plan workers capacities t.service → Tells t.service.core s.log effects → t.service.warm ≡ Suspect → (s.service.warm ≡ Suspect → ⊥) → t.effects ≡ effects → AddsFault s t → IsToldLog t
  faulted s t effects told holds tells at before same (a, b, less, inl log) =
      adds s t effects (event.Faulted a b) same log
      (marked s t.service effects (event.Faulted a b) told holds tells tt (may-fault (last_mark None s.log.marks) a b s.service.warm before told.warm) at (λ h. h) (λ go. absurd (not_applying t.service.warm at go)))
  faulted s t effects told holds tells at before same (a, b, less, inr log) =
      back t (with_end (with_mark s.log (mark_now s.log effects (event.Faulted a b)))) effects (log ∙ ap (λ z. with_end (with_mark s.log (mark_now s.log z (event.Faulted a b)))) same) same
      (marked_end s t.service effects (event.Faulted a b) told holds tells tt (may-fault (last_mark None s.log.marks) a b s.service.warm before told.warm) at tt (not_applying t.service.warm at))

  -- ---- the events of the service

  no_call : (s t : LoggedService) → t.effects ≡ s.effects ++ [] → t.effects ≡ s.effects
  no_call s t e = e ∙ append-nil s.effects

  same_told : (s t : SwitchState) → t ≡ s → (t.written.taken ≡ s.written.taken) × (t.objects ≡ s.objects) × (t.made ≡ s.made)
  same_told s t e = (ap (λ (z : SwitchState). z.written.taken) e, ap (λ (z : SwitchState). z.objects) e, ap (λ (z : SwitchState). z.made) e)

  due_before : (s : Service) (call : Call Rid) → IsDue workers s call → s.warm ≡ Suspect → ⊥
  due_before s call (OfFlight at x) e = apart Reconciled Suspect (sym at ∙ e) (λ e. cc)
  due_before s call (OfPlan rest at next) e = apart Applying Suspect (sym at ∙ e) (λ e. cc)

  failed_tells : (s t : SwitchState) (log : History) (effects : List (Call Rid)) (call : Call Rid) (c : Option (Call Rid)) → IsLegal capacities s.objects call → t.written ≡ s.written → HasFailed call s c t → Tells s log effects → Tells t log (effects ++ with_made_call c [])
  failed_tells s t log effects call None legal written x tells = subst (Tells t log) (sym (append-nil effects)) (same_core s t log effects (ap (λ (z : Written). z.taken) written) x.1 x.0 tells)
  failed_tells s t log effects call (Some c) legal written x tells = subst (λ z. Tells t log (effects ++ z ∷ [])) (sym x.0) (more_call s t log effects call legal (ap (λ (z : Written). z.taken) written) x.2 x.1 tells)

  told_service : (s t : LoggedService) (c : Option (Call Rid)) (e : IsServiceEvent plan workers capacities s.service c t.service) → IsToldLog s → t.effects ≡ s.effects ++ with_made_call c [] → Records s t e → IsToldLog t
  told_service s t _ (OfTake _ x) told effects (sent, same, log) =
      back t (with_write s.log sent) s.effects log (no_call s t effects) (record {
        holds = holds-step plan is workers capacities s.service t.service None told.holds (OfTake t.service x);
        tells = more_write s.service.core t.service.core s.log s.effects sent (x.core.taken.taken ∙ ap (λ z. s.service.core.written.taken ++ (z ∷ [])) same) x.core.objects x.core.made told.tells;
        warm = subst (IsWarmAfter (last_mark None s.log.marks)) (sym x.warm) told.warm;
        ordered = record { order = told.ordered.order; ends = told.ordered.ends };
        begun = λ at. let b = told.begun (sym x.warm ∙ at) in record {
          mark = b.mark;
          mode = b.mode;
          waits = b.waits;
          last = b.last;
          event_is = b.event_is;
          least = omega (arith, b.least, length-append s.log.taken (sent ∷ []));
          rows = λ q. ap (λ (g : TypedRows). applied_rows b.waits g q) (good-front plan s.log.taken sent b.mark.taken b.least) ∙ b.rows q ∙ ap (λ (z : Machine). bare_rows z.board.applied q) (sym x.core.machine);
        };
      })
  told_service s t _ (OfWork c _ x) told effects records = absurd records
  told_service s t _ (OfFault c _ x) told effects records =
      faulted s t (s.effects ++ with_made_call c []) told (holds-step plan is workers capacities s.service t.service c told.holds (OfFault c t.service x))
      (failed_tells s.service.core t.service.core s.log s.effects x.call c (due-legal plan is workers capacities s.service x.call told.holds x.due).0 x.written x.chip told.tells)
      x.warm (due_before s.service x.call x.due) effects records
  told_service s t _ (OfListFault _ x) told effects records =
      let same = same_told s.service.core t.service.core x.core in
      faulted s t s.effects told (holds-step plan is workers capacities s.service t.service None told.holds (OfListFault t.service x))
      (same_core s.service.core t.service.core s.log s.effects same.0 same.1 same.2 told.tells)
      x.warm (λ e. apart Initialized Suspect (sym x.before ∙ e) (λ e. cc)) (no_call s t effects) records
  told_service s t _ (OfRestart _ x) told effects records =
      let same = same_told (forgotten s.service.core) t.service.core x.core in
      adds s t s.effects event.Restarted (no_call s t effects) records
      (marked s t.service s.effects event.Restarted told (holds-step plan is workers capacities s.service t.service None told.holds (OfRestart t.service x))
      (same_core s.service.core t.service.core s.log s.effects same.0 same.1 same.2 told.tells)
      tt (may-restart (last_mark None s.log.marks)) (inl x.warm) (λ h. h) (λ at. apart Initialized Applying (sym x.warm ∙ at) (λ e. cc)))
  told_service s t _ (OfList _ x) told effects records =
      let same = same_told s.service.core t.service.core x.core in
      back t s.log s.effects records (no_call s t effects) (record {
        holds = holds-step plan is workers capacities s.service t.service None told.holds (OfList t.service x);
        tells = same_core s.service.core t.service.core s.log s.effects same.0 same.1 same.2 told.tells;
        warm = subst (IsWarmAfter (last_mark None s.log.marks)) (sym x.warm) (after-list (last_mark None s.log.marks) (subst (IsWarmAfter (last_mark None s.log.marks)) x.before told.warm));
        ordered = told.ordered;
        begun = λ at. apart Restored Applying (sym x.warm ∙ at) (λ e. cc);
      })
  told_service s t _ (OfRestore _ x) told effects records =
      let v = restored-written plan is workers capacities s.service.core.written x.view told.holds.safe.told told.holds.safe.dated x.restored in
      let mark = mark_now s.log s.effects (event.ApplyBegan x.mode (waiting_of x.restored.waits)) in
      let same : sent_writes (take mark.taken s.log.taken) ≡ s.service.core.written.taken = ap sent_writes (take-length s.log.taken) ∙ sym told.tells.taken in
      adds s t s.effects (event.ApplyBegan x.mode (waiting_of x.restored.waits)) (no_call s t effects) records
      (marked s t.service s.effects (event.ApplyBegan x.mode (waiting_of x.restored.waits)) told (holds-step plan is workers capacities s.service t.service None told.holds (OfRestore t.service x))
      (same_core s.service.core t.service.core s.log s.effects (ap (λ (z : Written). z.taken) (x.written ∙ v) ∙ x.restored.popped.taken) x.objects x.made told.tells)
      (restored-begun plan is workers capacities s.service.core.written x.view told.holds.safe.told told.holds.safe.dated x.restored s.log.taken mark same)
      (may-begin (last_mark None s.log.marks) x.mode (waiting_of x.restored.waits) (subst (IsWarmAfter (last_mark None s.log.marks)) x.before told.warm)) x.warm (λ h. h)
      (λ at. record {
        mark = mark;
        mode = x.mode;
        waits = waiting_of x.restored.waits;
        last = last-more None s.log.marks mark;
        event_is = refl;
        least = omega arith;
        rows = λ q. same_rows plan is workers capacities s.service.core.written x.view told.holds.safe.told told.holds.safe.dated x.restored s.log.taken mark same q ∙ ap (λ (z : Machine). bare_rows z.board.applied q) (sym x.machine);
      }))
  told_service s t _ (OfApply call _ x) told effects records =
      back t s.log (s.effects ++ call ∷ []) records effects (record {
        holds = holds-step plan is workers capacities s.service t.service (Some call) told.holds (OfApply call t.service x);
        tells = more_call s.service.core t.service.core s.log s.effects call (due-legal plan is workers capacities s.service call told.holds (OfPlan t.service.left x.before x.next)).0 (ap (λ (z : Written). z.taken) x.written) x.objects x.made told.tells;
        warm = subst (IsWarmAfter (last_mark None s.log.marks)) (x.before ∙ sym x.warm) told.warm;
        ordered = told.ordered;
        begun = λ at. let b = told.begun x.before in record { mark = b.mark; mode = b.mode; waits = b.waits; last = b.last; event_is = b.event_is; least = b.least; rows = λ q. b.rows q ∙ ap (λ (z : Machine). bare_rows z.board.applied q) (sym x.machine) };
      })
  told_service s t _ (OfFinish _ x) told effects records =
      adds s t s.effects event.ApplyEnded (no_call s t effects) records
      (marked s t.service s.effects event.ApplyEnded told (holds-step plan is workers capacities s.service t.service None told.holds (OfFinish t.service x))
      (same_core s.service.core t.service.core s.log s.effects (ap (λ (z : Written). z.taken) x.written) x.objects x.made told.tells)
      (subst (IsEnded plan s.log.taken s.effects (mark_now s.log s.effects event.ApplyEnded)) (sym b.last) ended)
      (may-end (last_mark None s.log.marks) (subst (IsWarmAfter (last_mark None s.log.marks)) x.before told.warm)) x.warm (λ h. h) (λ at. apart Reconciled Applying (sym x.warm ∙ at) (λ e. cc)))
    where
      b : HasBegun s
      b = told.begun x.before

      ended : EndsApply plan s.log.taken s.effects (mark_now s.log s.effects event.ApplyEnded) b.mark b.mark.event
      ended =
          subst (EndsApply plan s.log.taken s.effects (mark_now s.log s.effects event.ApplyEnded) b.mark) (sym b.event_is)
          (subst (λ o. IsAlike o (IsThingOf plan (applied_at plan s.log.taken b.mark b.waits))) (told.tells.objects ∙ sym (chip_after-all s.effects))
          (alike-rows plan s.service.core.objects (bare_rows s.service.core.machine.board.applied) (applied_at plan s.log.taken b.mark b.waits) b.rows (ended-alike plan is workers capacities s.service told.holds x.before x.none)))

  -- ---- the events of the machine

  told_machine : (s t : LoggedService) → IsToldLog s → s.service.warm ≡ Reconciled → t.service.warm ≡ Reconciled → IsLoggedEvent plan workers capacities (switch_of s) (switch_of t) → IsToldLog t
  told_machine s t told before after e = record {
    holds = holds e;
    tells = record { taken = later.taken; objects = later.objects; made = later.made; legal = later.legal; within = later.within; marks = later.marks };
    warm = subst (IsWarmAfter (last_mark None t.log.marks)) (sym after) (logs e).0;
    ordered = (logs e).1;
    begun = none_begun t Reconciled after (λ e. cc);
  }
    where
      kept : IsSafe plan workers capacities s.service.core
      kept = in_state plan is workers capacities s.service Reconciled told.holds before

      later : Told plan is workers capacities (switch_of t)
      later = told_event plan is workers capacities (switch_of s) (switch_of t) (record { kept = kept; taken = told.tells.taken; objects = told.tells.objects; made = told.tells.made; legal = told.tells.legal; within = told.tells.within; marks = told.tells.marks }) e

      warm : IsWarmAfter (last_mark None s.log.marks) Reconciled
      warm = subst (IsWarmAfter (last_mark None s.log.marks)) before told.warm

      holds : IsLoggedEvent plan workers capacities (switch_of s) (switch_of t) → Holds plan workers capacities t.service
      holds (inl x) = holds-step plan is workers capacities s.service t.service None told.holds (OfWork None t.service (record { before = before; warm = after; event = inl x.takes }))
      holds (inr (inl x)) = holds-step plan is workers capacities s.service t.service x.call told.holds (OfWork x.call t.service (record { before = before; warm = after; event = x.event }))
      holds (inr (inr x)) = to_state plan is workers capacities t.service Reconciled after (subst (HoldsAlways plan capacities) (sym x.switch) told.holds.safe) (subst (IsSafe plan workers capacities) (sym x.switch) kept)

      logs : IsLoggedEvent plan workers capacities (switch_of s) (switch_of t) → IsWarmAfter (last_mark None t.log.marks) Reconciled × IsOrdered t.log
      logs (inl x) = subst (λ z. IsWarmAfter (last_mark None z.marks) Reconciled × IsOrdered z) (sym x.log) (warm, record { order = told.ordered.order; ends = told.ordered.ends })
      logs (inr (inl x)) = subst (λ z. IsWarmAfter (last_mark None z.marks) Reconciled × IsOrdered z) (sym x.log) (warm, told.ordered)
      logs (inr (inr x)) =
          let mark = mark_now s.log s.effects (event.Settled x.waits x.turns) in
          subst (λ z. IsWarmAfter (last_mark None z.marks) Reconciled × IsOrdered z) (sym x.log)
          (subst (λ o. IsWarmAfter o Reconciled) (sym (last-more None s.log.marks mark)) refl, ordered-end s.log mark told.ordered (may-settle (last_mark None s.log.marks) x.waits x.turns warm) tt)

  pub told-step : (s t : LoggedService) → IsToldLog s → IsLoggedStep plan workers capacities s t → IsToldLog t
  told-step s t told (OfMachine before after e) = told_machine s t told before after e
  told-step s t told (OfService c e effects records) = told_service s t c e told effects records

  pub told-session : (s : LoggedService) (ts : List LoggedService) → IsToldLog s → AreLoggedSteps plan workers capacities s ts → IsToldLog (session_after s ts)
  told-session s [] told run = told
  told-session s (t ∷ ts) told run = told-session t ts (told-step s t told run.0) run.1

  pub told-first : IsToldLog new_session
  told-first = record {
    holds = holds-new plan is workers capacities;
    tells = record { taken = refl; objects = refl; made = refl; legal = tt; within = tt; marks = tt };
    warm = refl;
    ordered = record { order = tt; ends = refl };
    begun = λ at. apart Reconciled Applying at (λ e. cc);
  }

-- the effects outside applies are few, over restarts and faults
use Rattle.std.proofs.Common.{◌≡◌, ◌⊎◌, ◌+◌, ◌-◌, ◌*◌, ◌≤◌, ◌++◌, ◌∷◌, ◌∙◌, inl, inr, ℕ, List, [], length, Option, None, Some, refl, sym, ap, subst, arith}
use Rattle.std.proofs.lemmas.List.{append-nil, length-append, length-map}
use Rattle.table_schema.specs.Plan.{IsPlan, Ports}
use Rattle.table_schema.specs.declared.key.Key.{Key}
use Rattle.table_schema.specs.declared.write.Sent.{Sent}
use Rattle.sai_types.specs.declared.ids.Rid.{Rid}
use Rattle.sai_types.specs.declared.body.Call.{Call}
use Rattle.sai_types.specs.Alike.{IsIn}
use Rattle.switch_model.specs.History.{History}
use Rattle.switch_model.specs.Sound.{AreWithin}
use Rattle.switch_model.specs.declared.mark.Mark.{Mark}
use Rattle.switch_model.specs.declared.mark.MarkEvent.{MarkEvent}
use Rattle.switch_model.specs.declared.mark.MarkEvent.TheVariants as event
use Rattle.switch_model.specs.declared.wait.Wait.{Wait}
use Rattle.switch_machine.specs.Events.{IsDueCall, IsTake, SwitchState, with_made_call}
use Rattle.switch_machine.specs.Written.{HasNoWrite, Written}
use Rattle.machine_laws.specs.Logged.{IsLoggedEvent}
use Rattle.machine_laws.proofs.Paying.{IsPaid, due-left, left_in, made_by, none-left, paid-empty, paid-event, paid-take}
use Rattle.warm_state.specs.declared.warm.Warm.{Warm}
use Rattle.warm_state.specs.declared.warm.Warm.TheVariants.{Initialized, Restored, Applying, Reconciled, Suspect}
use Rattle.restart_laws.specs.Bounded.{effects_outside, keys_begun, listed_at_applies, outside_from, unless_begun}
use Rattle.restart_laws.specs.Invariant.{Holds}
use Rattle.restart_laws.specs.Logged.{AddsFault, AddsMark, AreLoggedSteps, IsLeftIn, IsLoggedStep, IsWarmAfter, LoggedService, OfMachine, OfService, Records, last_mark, mark_now, new_session, session_after, switch_of}
use Rattle.restart_laws.specs.Restored.{keys_waiting, waiting_of}
use Rattle.restart_laws.specs.Service.{CallFails, IsDue, IsServiceEvent, OfApply, OfFault, OfFinish, OfFlight, OfList, OfListFault, OfPlan, OfRestart, OfRestore, OfTake, OfWork, Restores, Service, forgotten}
use Rattle.restart_laws.proofs.Holding.{in_state}
use Rattle.restart_laws.proofs.Logged.{IsToldLog, told-first, told-step}
use Rattle.restart_laws.proofs.Passing.{restored-keeps}
use Rattle.restart_laws.proofs.Restoring.{restored-written}

-- ---- counting by marks

unless_begun_zero : (e : MarkEvent) (n : ℕ) → n ≡ 0 → unless_begun e n ≡ 0
unless_begun_zero (event.ApplyBegan mode waits) n h = refl
unless_begun_zero (event.Settled waits turns) n h = h
unless_begun_zero (event.Faulted a b) n h = h
unless_begun_zero event.Restarted n h = h
unless_begun_zero event.ApplyEnded n h = h

-- a mark that counts all effects changes no count
outside_mark : (before : Option Mark) (marks : List Mark) (mark : Mark) → effects_outside before (marks ++ mark ∷ []) mark.effects ≡ effects_outside before marks mark.effects
outside_mark before [] mark = let none = unless_begun_zero mark.event (mark.effects - mark.effects) (omega arith) in omega (arith, none)
outside_mark before (m ∷ marks) mark = ap (λ n. outside_from before m.effects + n) (outside_mark (Some m) marks mark)

listed_mark : (marks : List Mark) (mark : Mark) → listed_at_applies (marks ++ mark ∷ []) ≡ listed_at_applies marks + keys_begun mark.event
listed_mark [] mark = omega arith
listed_mark (m ∷ marks) mark = let rest = listed_mark marks mark in omega (arith, rest)

outside_one : (before : Option Mark) (marks : List Mark) (to : ℕ) → outside_from (last_mark before marks) (to + 1) ≡ outside_from (last_mark before marks) to + 1 → effects_outside before marks (to + 1) ≡ effects_outside before marks to + 1
outside_one before [] to h = h
outside_one before (m ∷ marks) to h = let rest = outside_one (Some m) marks to h in omega (arith, rest)

outside_none : (before : Option Mark) (marks : List Mark) (from to : ℕ) → outside_from (last_mark before marks) to ≡ outside_from (last_mark before marks) from → effects_outside before marks to ≡ effects_outside before marks from
outside_none before [] from to h = h
outside_none before (m ∷ marks) from to h = let rest = outside_none (Some m) marks from to h in omega (arith, rest)

counts_by : (e : MarkEvent) (n m : ℕ) → IsLeftIn e Reconciled → m ≡ n + 1 → unless_begun e m ≡ unless_begun e n + 1
counts_by (event.Settled waits turns) n m h same = same
counts_by (event.Faulted a b) n m h same = absurd cc
counts_by event.Restarted n m (inl h) same = absurd cc
counts_by event.Restarted n m (inr h) same = absurd cc
counts_by (event.ApplyBegan mode waits) n m h same = absurd cc
counts_by event.ApplyEnded n m h same = same

counts_last : (o : Option Mark) (to : ℕ) → IsWarmAfter o Reconciled → ((mark : Mark) → o ≡ Some mark → mark.effects ≤ to) → outside_from o (to + 1) ≡ outside_from o to + 1
counts_last None to h within = refl
counts_last (Some mark) to h within = let less = within mark refl in counts_by mark.event (to - mark.effects) (to + 1 - mark.effects) h (omega (arith, less))

unless_begun_same : (e : MarkEvent) (n m : ℕ) → IsLeftIn e Applying → unless_begun e m ≡ unless_begun e n
unless_begun_same (event.Settled waits turns) n m h = absurd cc
unless_begun_same (event.Faulted a b) n m h = absurd cc
unless_begun_same event.Restarted n m (inl h) = absurd cc
unless_begun_same event.Restarted n m (inr h) = absurd cc
unless_begun_same (event.ApplyBegan mode waits) n m h = refl
unless_begun_same event.ApplyEnded n m h = absurd cc

none_last : (o : Option Mark) (from to : ℕ) → IsWarmAfter o Applying → outside_from o to ≡ outside_from o from
none_last None from to h = absurd cc
none_last (Some mark) from to h = unless_begun_same mark.event (from - mark.effects) (to - mark.effects) h

within_last : (t e : ℕ) (before : Option Mark) (marks : List Mark) → ((mark : Mark) → before ≡ Some mark → mark.effects ≤ e) → AreWithin t e marks → (mark : Mark) → last_mark before marks ≡ Some mark → mark.effects ≤ e
within_last t e before [] first within mark last = first mark last
within_last t e before (m ∷ marks) first (a, b, c, within) mark last = within_last t e (Some m) marks (λ n same. subst (λ x. x ≤ e) (ap (λ (z : Mark). z.effects) (one m n same)) b) within mark last
  where
    one : (x y : Mark) → Some x ≡ Some y → x ≡ y
    one x y h = cc

-- ---- where what the machine was about to do is not known

record IsOwed (w : Written) (calls listed : ℕ) : Type 0 where
  pending : List Key
  waits : (k : Key) → IsIn k pending ⊎ HasNoWrite w k
  enough : calls + 259 * length pending ≤ 259 * (length w.taken + listed)

module _ (plan : Ports) (is : IsPlan plan) (workers : ℕ) (capacities : List ℕ) where
  owed : (c : SwitchState) (calls listed : ℕ) → IsPaid workers c calls listed → IsOwed c.written calls listed
  owed c calls listed x = record { pending = x.pending; waits = x.waits; enough = (let was = x.enough in omega (arith, was)) }

  owed_call : (c : SwitchState) (call : Call Rid) (calls listed : ℕ) → IsDueCall workers call c → IsPaid workers c calls listed → IsOwed c.written (calls + 1) listed
  owed_call c call calls listed due x =
      let some = due-left workers c call due in
      record { pending = x.pending; waits = x.waits; enough = (let was = x.enough in omega (arith, was, some)) }

  -- nothing is to sync, and no operation is under way
  repaid : (c : SwitchState) (calls listed : ℕ) → IsOwed c.written calls listed → IsPaid workers (forgotten c) calls listed
  repaid c calls listed x =
      let none = none-left workers (forgotten c).machine (λ w f at. cc) in
      record { pending = x.pending; begins = []; waits = x.waits; covers = λ k h. elim h [ ]; enough = (let was = x.enough in omega (arith, was, none)) }

  waiting_long : (ws : List (Key × Wait)) → length (keys_waiting ws) ≡ length (waiting_of ws)
  waiting_long [] = refl
  waiting_long (w ∷ ws) = let rest = waiting_long ws in omega (arith, rest)

  -- so many keys are listed, and are to sync
  restored_paid : (s t : Service) (calls listed : ℕ) → Holds plan workers capacities s → (x : Restores plan workers capacities s t) → IsOwed s.core.written calls listed → IsPaid workers t.core calls (listed + length (waiting_of x.restored.waits))
  restored_paid s t calls listed h x o =
      let kept = restored-keeps plan is workers capacities s.core.written x.view h.safe.told h.safe.dated x.restored in
      let written : t.core.written ≡ x.restored.written = x.written ∙ restored-written plan is workers capacities s.core.written x.view h.safe.told h.safe.dated x.restored in
      record {
        pending = [];
        begins = keys_waiting x.restored.waits;
        waits = λ k. inr (subst (λ z. HasNoWrite z k) (sym written) (x.restored.none k));
        covers = λ k i. subst (IsIn k) x.to_sync i;
        enough =
            let was = o.enough in
            let none = none-left workers x.view.machine kept.1 in
            let machine = ap (left_in workers) x.machine in
            let taken = ap (λ (z : Written). length z.taken) written ∙ ap length x.restored.popped.taken in
            let number = waiting_long x.restored.waits in
            omega (arith, was, none, machine, taken, number);
      }

  -- the same but for the chip
  same_paid : (c d : SwitchState) (calls listed : ℕ) → left_in workers d.machine ≡ left_in workers c.machine → d.written ≡ c.written → d.to_sync ≡ c.to_sync → IsPaid workers c calls listed → IsPaid workers d calls listed
  same_paid c d calls listed machine written to_sync x = record {
    pending = x.pending;
    begins = x.begins;
    waits = λ k. subst (λ z. IsIn k x.pending ⊎ HasNoWrite z k) (sym written) (x.waits k);
    covers = λ k h. x.covers k (subst (IsIn k) to_sync h);
    enough =
        let was = x.enough in
        let taken = ap (λ (z : Written). length z.taken) written in
        omega (arith, was, machine, taken);
  }

  -- ---- by warm state

  abbrev PaidIn : Warm → SwitchState → ℕ → ℕ → Type 0
  PaidIn Suspect c calls listed = IsOwed c.written calls listed
  PaidIn Reconciled c calls listed = IsPaid workers c calls listed
  PaidIn Initialized c calls listed = IsPaid workers c calls listed
  PaidIn Restored c calls listed = IsPaid workers c calls listed
  PaidIn Applying c calls listed = IsPaid workers c calls listed

  all_owed : (w : Warm) (c : SwitchState) (calls listed : ℕ) → PaidIn w c calls listed → IsOwed c.written calls listed
  all_owed Suspect c calls listed x = x
  all_owed Reconciled c calls listed x = owed c calls listed x
  all_owed Initialized c calls listed x = owed c calls listed x
  all_owed Restored c calls listed x = owed c calls listed x
  all_owed Applying c calls listed x = owed c calls listed x

  -- a write that is taken pays for an operation
  takes_owed : (c d : SwitchState) (calls listed : ℕ) → IsTake c d → IsOwed c.written calls listed → IsOwed d.written calls listed
  takes_owed c d calls listed x o =
      let same : IsTake (forgotten c) (forgotten d) = record { write = x.write; taken = x.taken; machine = refl; to_sync = refl; made = x.made; objects = x.objects } in
      owed (forgotten d) calls listed (paid-take plan workers capacities (forgotten c) (forgotten d) calls listed (repaid c calls listed o) same)

  takes_in : (w : Warm) (c d : SwitchState) (calls listed : ℕ) → IsTake c d → PaidIn w c calls listed → PaidIn w d calls listed
  takes_in Suspect c d calls listed x o = takes_owed c d calls listed x o
  takes_in Reconciled c d calls listed x o = paid-take plan workers capacities c d calls listed o x
  takes_in Initialized c d calls listed x o = paid-take plan workers capacities c d calls listed o x
  takes_in Restored c d calls listed x o = paid-take plan workers capacities c d calls listed o x
  takes_in Applying c d calls listed x o = paid-take plan workers capacities c d calls listed o x

  -- ---- over a log

  abbrev outside : LoggedService → ℕ
  outside s = effects_outside None s.log.marks (length s.effects)

  abbrev listed : LoggedService → ℕ
  listed s = listed_at_applies s.log.marks

  abbrev IsBounded : LoggedService → Type 0
  IsBounded s = PaidIn s.service.warm s.service.core (outside s) (listed s)

  abbrev Told : LoggedService → Type 0
  Told = IsToldLog plan is workers capacities

  as_in : (s : LoggedService) (w : Warm) → s.service.warm ≡ w → IsBounded s → PaidIn w s.service.core (outside s) (listed s)
  as_in s w at x = subst (λ z. PaidIn z s.service.core (outside s) (listed s)) at x

  to_in : (t : LoggedService) (w : Warm) (calls keys : ℕ) → t.service.warm ≡ w → outside t ≡ calls → listed t ≡ keys → PaidIn w t.service.core calls keys → IsBounded t
  to_in t w calls keys at a b x = subst (λ z. PaidIn z t.service.core (outside t) (listed t)) (sym at) (subst (λ z. PaidIn w t.service.core z (listed t)) (sym a) (subst (PaidIn w t.service.core calls) (sym b) x))

  same_outside : (s t : LoggedService) → t.log.marks ≡ s.log.marks → length t.effects ≡ length s.effects → outside t ≡ outside s
  same_outside s t marks effects = ap (λ z. effects_outside None z (length t.effects)) marks ∙ ap (effects_outside None s.log.marks) effects

  effects_long : (s t : LoggedService) (c : Option (Call Rid)) → t.effects ≡ s.effects ++ with_made_call c [] → length t.effects ≡ length s.effects + made_by c
  effects_long s t None e = ap length e ∙ length-append s.effects []
  effects_long s t (Some call) e = ap length e ∙ length-append s.effects (call ∷ [])

  -- a call outside applies counts, and one of an apply does not
  worked_outside : (s : LoggedService) (c : Option (Call Rid)) (to : ℕ) → Told s → s.service.warm ≡ Reconciled → to ≡ length s.effects + made_by c → effects_outside None s.log.marks to ≡ outside s + made_by c
  worked_outside s None to told at e = let same : to ≡ length s.effects = omega (arith, e) in let sum = ap (effects_outside None s.log.marks) same in omega (arith, sum)
  worked_outside s (Some call) to told at e =
      ap (effects_outside None s.log.marks) e
      ∙ outside_one None s.log.marks (length s.effects) (counts_last (last_mark None s.log.marks) (length s.effects) (subst (IsWarmAfter (last_mark None s.log.marks)) at told.warm) (within_last (length s.log.taken) (length s.effects) None s.log.marks (λ m h. absurd cc) told.tells.within))

  applied_outside : (s : LoggedService) (to : ℕ) → Told s → s.service.warm ≡ Applying → effects_outside None s.log.marks to ≡ outside s
  applied_outside s to told at = outside_none None s.log.marks (length s.effects) to (none_last (last_mark None s.log.marks) (length s.effects) to (subst (IsWarmAfter (last_mark None s.log.marks)) at told.warm))

  -- a mark behind all effects
  marked_outside : (s t : LoggedService) (e : MarkEvent) → t.log.marks ≡ s.log.marks ++ mark_now s.log t.effects e ∷ [] → outside t ≡ effects_outside None s.log.marks (length t.effects)
  marked_outside s t e marks = ap (λ z. effects_outside None z (length t.effects)) marks ∙ outside_mark None s.log.marks (mark_now s.log t.effects e)

  marked_listed : (s t : LoggedService) (e : MarkEvent) → t.log.marks ≡ s.log.marks ++ mark_now s.log t.effects e ∷ [] → listed t ≡ listed s + keys_begun e
  marked_listed s t e marks = ap listed_at_applies marks ∙ listed_mark s.log.marks (mark_now s.log t.effects e)

  adds_marks : (s t : LoggedService) (e : MarkEvent) → AddsMark s t e → t.log.marks ≡ s.log.marks ++ mark_now s.log t.effects e ∷ []
  adds_marks s t e x = ap (λ (z : History). z.marks) x

  -- a mark alone, which lists no key where an apply begins
  marked_bounded : (s t : LoggedService) (w : Warm) (e : MarkEvent) → t.effects ≡ s.effects ++ [] → t.log.marks ≡ s.log.marks ++ mark_now s.log t.effects e ∷ [] → t.service.warm ≡ w → PaidIn w t.service.core (outside s) (listed s + keys_begun e) → IsBounded t
  marked_bounded s t w e effects marks at x = to_in t w (outside s) (listed s + keys_begun e) at (marked_outside s t e marks ∙ ap (effects_outside None s.log.marks) (ap length (effects ∙ append-nil s.effects))) (marked_listed s t e marks) x

  -- a call that failed
  failed_bounded : (s t : LoggedService) (c : Option (Call Rid)) (before after calls : ℕ) → t.log.marks ≡ s.log.marks ++ mark_now s.log t.effects (event.Faulted before after) ∷ [] → t.service.warm ≡ Suspect → effects_outside None s.log.marks (length t.effects) ≡ calls → IsOwed t.service.core.written calls (listed s) → IsBounded t
  failed_bounded s t c before after calls marks at number x =
      let keys = marked_listed s t (event.Faulted before after) marks in
      to_in t Suspect calls (listed s) at (marked_outside s t (event.Faulted before after) marks ∙ number) (omega (arith, keys)) x

  fault_marks : (s t : LoggedService) → AddsFault s t → (before : ℕ) × (after : ℕ) × (t.log.marks ≡ s.log.marks ++ mark_now s.log t.effects (event.Faulted before after) ∷ [])
  fault_marks s t (before, after, less, inl x) = (before, after, ap (λ (z : History). z.marks) x)
  fault_marks s t (before, after, less, inr x) = (before, after, ap (λ (z : History). z.marks) x)

  fails_by : (s t : LoggedService) (c : Option (Call Rid)) → Told s → IsBounded s → (x : CallFails workers s.service c t.service) → length t.effects ≡ length s.effects + made_by c → (calls : ℕ) × (effects_outside None s.log.marks (length t.effects) ≡ calls) × IsOwed t.service.core.written calls (listed s)
  fails_by s t c told b x number = by x.due
    where
      with_call : (o : Option (Call Rid)) → IsDueCall workers x.call s.service.core → IsPaid workers s.service.core (outside s) (listed s) → IsOwed s.service.core.written (outside s + made_by o) (listed s)
      with_call None due p = subst (λ n. IsOwed s.service.core.written n (listed s)) (let same : outside s ≡ outside s + 0 = omega arith in same) (owed s.service.core (outside s) (listed s) p)
      with_call (Some call) due p = owed_call s.service.core x.call (outside s) (listed s) due p

      by : IsDue workers s.service x.call → (calls : ℕ) × (effects_outside None s.log.marks (length t.effects) ≡ calls) × IsOwed t.service.core.written calls (listed s)
      by (OfFlight at due) = (outside s + made_by c, worked_outside s c (length t.effects) told at number, subst (λ z. IsOwed z (outside s + made_by c) (listed s)) (sym x.written) (with_call c due (as_in s Reconciled at b)))
      by (OfPlan rest at next) = (outside s, applied_outside s (length t.effects) told at, subst (λ z. IsOwed z (outside s) (listed s)) (sym x.written) (owed s.service.core (outside s) (listed s) (as_in s Applying at b)))

  core_paid : (w : Warm) (c d : SwitchState) (calls keys : ℕ) → d ≡ c → PaidIn w c calls keys → PaidIn w d calls keys
  core_paid w c d calls keys e x = subst (λ z. PaidIn w z calls keys) (sym e) x

  more_zero : (w : Warm) (c : SwitchState) (calls keys : ℕ) → PaidIn w c calls keys → PaidIn w c calls (keys + 0)
  more_zero w c calls keys x = subst (PaidIn w c calls) (let same : keys ≡ keys + 0 = omega arith in same) x

  bounded_service : (s t : LoggedService) (c : Option (Call Rid)) (e : IsServiceEvent plan workers capacities s.service c t.service) → Told s → IsBounded s → t.effects ≡ s.effects ++ with_made_call c [] → Records s t e → IsBounded t
  bounded_service s t _ (OfTake _ x) told b effects (sent, same, log) =
      to_in t s.service.warm (outside s) (listed s) x.warm (same_outside s t (ap (λ (z : History). z.marks) log) (ap length (effects ∙ append-nil s.effects))) (ap (λ (z : History). listed_at_applies z.marks) log)
      (takes_in s.service.warm s.service.core t.service.core (outside s) (listed s) x.core b)
  bounded_service s t _ (OfWork c _ x) told b effects records = absurd records
  bounded_service s t _ (OfFault c _ x) told b effects records =
      let f = fault_marks s t records in
      let y = fails_by s t c told b x (effects_long s t c effects) in
      failed_bounded s t c f.0 f.1 y.0 f.2 x.warm y.1 y.2
  bounded_service s t _ (OfListFault _ x) told b effects records =
      let f = fault_marks s t records in
      failed_bounded s t None f.0 f.1 (outside s) f.2 x.warm (ap (effects_outside None s.log.marks) (ap length (effects ∙ append-nil s.effects)))
      (subst (λ (z : SwitchState). IsOwed z.written (outside s) (listed s)) (sym x.core) (owed s.service.core (outside s) (listed s) (as_in s Initialized x.before b)))
  bounded_service s t _ (OfRestart _ x) told b effects records =
      marked_bounded s t Initialized event.Restarted effects (adds_marks s t event.Restarted records) x.warm
      (more_zero Initialized t.service.core (outside s) (listed s) (core_paid Initialized (forgotten s.service.core) t.service.core (outside s) (listed s) x.core (repaid s.service.core (outside s) (listed s) (all_owed s.service.warm s.service.core (outside s) (listed s) b))))
  bounded_service s t _ (OfList _ x) told b effects records =
      to_in t Restored (outside s) (listed s) x.warm (same_outside s t (ap (λ (z : History). z.marks) records) (ap length (effects ∙ append-nil s.effects))) (ap (λ (z : History). listed_at_applies z.marks) records)
      (core_paid Restored s.service.core t.service.core (outside s) (listed s) x.core (as_in s Initialized x.before b))
  bounded_service s t _ (OfRestore _ x) told b effects records =
      marked_bounded s t Applying (event.ApplyBegan x.mode (waiting_of x.restored.waits)) effects (adds_marks s t (event.ApplyBegan x.mode (waiting_of x.restored.waits)) records) x.warm
      (restored_paid s.service t.service (outside s) (listed s) told.holds x (owed s.service.core (outside s) (listed s) (as_in s Restored x.before b)))
  bounded_service s t _ (OfApply call _ x) told b effects records =
      to_in t Applying (outside s) (listed s) x.warm (ap (λ (z : History). effects_outside None z.marks (length t.effects)) records ∙ applied_outside s (length t.effects) told x.before) (ap (λ (z : History). listed_at_applies z.marks) records)
      (same_paid s.service.core t.service.core (outside s) (listed s) (ap (left_in workers) x.machine) x.written x.to_sync (as_in s Applying x.before b))
  bounded_service s t _ (OfFinish _ x) told b effects records =
      marked_bounded s t Reconciled event.ApplyEnded effects (adds_marks s t event.ApplyEnded records) x.warm
      (more_zero Reconciled t.service.core (outside s) (listed s) (same_paid s.service.core t.service.core (outside s) (listed s) (ap (left_in workers) x.machine) x.written x.to_sync (as_in s Applying x.before b)))

  -- ---- the events of the machine

  bounded_machine : (s t : LoggedService) → Told s → IsBounded s → s.service.warm ≡ Reconciled → t.service.warm ≡ Reconciled → IsLoggedEvent plan workers capacities (switch_of s) (switch_of t) → IsBounded t
  bounded_machine s t told b before after (inl x) =
      to_in t Reconciled (outside s) (listed s) after (same_outside s t (ap (λ (z : History). z.marks) x.log) (ap length x.effects)) (ap (λ (z : History). listed_at_applies z.marks) x.log)
      (paid-take plan workers capacities s.service.core t.service.core (outside s) (listed s) (as_in s Reconciled before b) x.takes)
  bounded_machine s t told b before after (inr (inl x)) =
      to_in t Reconciled (outside s + made_by x.call) (listed s) after (ap (λ (z : History). effects_outside None z.marks (length t.effects)) x.log ∙ worked_outside s x.call (length t.effects) told before (effects_long s t x.call x.effects)) (ap (λ (z : History). listed_at_applies z.marks) x.log)
      (paid-event plan workers capacities s.service.core t.service.core x.call (outside s) (listed s) (in_state plan is workers capacities s.service Reconciled told.holds before) (as_in s Reconciled before b) x.event)
  bounded_machine s t told b before after (inr (inr x)) =
      let e = event.Settled x.waits x.turns in
      let marks : t.log.marks ≡ s.log.marks ++ mark_now s.log t.effects e ∷ [] = ap (λ (z : History). z.marks) x.log ∙ ap (λ z. s.log.marks ++ mark_now s.log z e ∷ []) (sym x.effects) in
      marked_bounded s t Reconciled e (x.effects ∙ sym (append-nil s.effects)) marks after
      (more_zero Reconciled t.service.core (outside s) (listed s) (core_paid Reconciled s.service.core t.service.core (outside s) (listed s) x.switch (as_in s Reconciled before b)))

  bounded_step : (s t : LoggedService) → Told s → IsBounded s → IsLoggedStep plan workers capacities s t → IsBounded t
  bounded_step s t told b (OfMachine before after e) = bounded_machine s t told b before after e
  bounded_step s t told b (OfService c e effects records) = bounded_service s t c e told b effects records

  bounded_session : (s : LoggedService) (ts : List LoggedService) → Told s → IsBounded s → AreLoggedSteps plan workers capacities s ts → Told (session_after s ts) × IsBounded (session_after s ts)
  bounded_session s [] told b run = (told, b)
  bounded_session s (t ∷ ts) told b run = bounded_session t ts (told-step plan is workers capacities s t told run.0) (bounded_step s t told b run.0) run.1

  -- outside applies the effects of a session are at most so many for each write taken and each key listed where an apply began
  pub outside-few : (ts : List LoggedService) → AreLoggedSteps plan workers capacities new_session ts → outside (session_after new_session ts) ≤ 259 * (length (session_after new_session ts).log.taken + listed (session_after new_session ts))
  outside-few ts run =
      let s = session_after new_session ts in
      let x = bounded_session new_session ts (told-first plan is workers capacities) (paid-empty plan is workers capacities) run in
      let few = (all_owed s.service.warm s.service.core (outside s) (listed s) x.1).enough in
      let taken = ap length x.0.tells.taken ∙ length-map s.log.taken (λ (z : Sent). z.write) in
      omega (arith, few, taken)

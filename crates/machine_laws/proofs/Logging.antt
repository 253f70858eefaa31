-- a whole settling is a list of logged events, and its effects are those of as many turns as its mark counts; so it is so far, up to where it is cut off
use Rattle.std.proofs.Common.{◌≡◌, ◌⊎◌, ◌∷◌, ◌++◌, ◌∙◌, inl, inr, ℕ, List, [], Option, None, Some, refl, sym, ap, subst}
use Rattle.std.proofs.lemmas.List.{append-nil, append_assoc}
use Rattle.table_schema.specs.Plan.{IsPlan, Ports}
use Rattle.table_schema.specs.declared.key.Key.{Key}
use Rattle.sai_types.specs.declared.ids.Rid.{Rid}
use Rattle.sai_types.specs.declared.body.Call.{Call}
use Rattle.sai_types.specs.Alike.{IsIn}
use Rattle.switch_machine.specs.Events.{AreEvents, IsDueCall, IsQuiet, IsSafe, Popped, PopsKey, Stays, SwitchState, after_events, calls_of, with_made_call}
use Rattle.switch_machine.specs.Flights.{MachineFlight}
use Rattle.switch_machine.specs.Written.{HasNoWrite, IsAsBefore, IsPopped, IsPoppedKey, IsTold, good_of}
use Rattle.switch_machine.proofs.Runs.{kept-run}
use Rattle.switch_machine.proofs.Telling.{told-popped}
use Rattle.switch_model.specs.Good.{good_row, good_rows}
use Rattle.switch_model.specs.Placed.{bare_rows}
use Rattle.table_schema.specs.Rows.{fields_at, rows_of}
use Rattle.machine_laws.specs.Calls.{AreTurnsWith, AreTurnsWithSoFar, Situation}
use Rattle.machine_laws.specs.Logged.{AreLoggedEvents, ArePops, InPops, InTurns, IsInPops, IsInTurns, IsSettlingSoFar, IsWholeSettling, LoggedSwitch, LogsMark, after_logged, after_pops}
use Rattle.machine_laws.specs.Settling.{IsSituationOf, situation}
use Rattle.machine_laws.proofs.Alone.{AreTried}
use Rattle.machine_laws.proofs.Settling.{Comes, settles, settles-so-far}
use Rattle.machine_laws.proofs.Turning.{Leads, TakeNothing, both, turns-cut, turns-lead, turns-so-far-lead}
use Rattle.machine_laws.proofs.Waiting.{sync-left}

module _ (plan : Ports) (workers : ℕ) (capacities : List ℕ) where
  -- ---- events that take no write are logged events

  record Logged (s : LoggedSwitch) (t : SwitchState) (effects : List (Call Rid)) : Type 0 where
    events : List LoggedSwitch
    are : AreLoggedEvents plan workers capacities s events
    last : after_logged s events ≡ record { switch = t; log = s.log; effects = effects }

  made_front : (c : Option (Call Rid)) (calls : List (Call Rid)) (es : List (Call Rid)) → (es ++ with_made_call c []) ++ calls ≡ es ++ with_made_call c calls
  made_front None calls es = ap (λ z. z ++ calls) (append-nil es)
  made_front (Some call) calls es = append_assoc es (call ∷ []) calls

  logged : (s : LoggedSwitch) (es : List (Option (Call Rid) × SwitchState)) → AreEvents plan workers capacities s.switch es → TakeNothing plan workers capacities s.switch es → Logged s (after_events s.switch es) (s.effects ++ calls_of es)
  logged s [] run h = record { events = []; are = tt; last = ap (λ z. record { switch = s.switch; log = s.log; effects = z }) (sym (append-nil s.effects)) }
  logged s (e ∷ es) run h =
      let y = logged next es run.1 h.1 in
      record {
        events = next ∷ y.events;
        are = (inr (inl (record { call = e.0; event = run.0; taken = h.0; log = refl; effects = refl })), y.are);
        last = y.last ∙ ap (λ z. record { switch = after_events e.1 es; log = s.log; effects = z }) (made_front e.0 (calls_of es) s.effects);
      }
    where
      next : LoggedSwitch
      next = record { switch = e.1; log = s.log; effects = s.effects ++ with_made_call e.0 [] }

  leads_logged : (s t : LoggedSwitch) (calls : List (Call Rid)) → Leads plan workers capacities s.switch t.switch calls → t.effects ≡ s.effects ++ calls → t.log ≡ s.log → (ts : List LoggedSwitch) × AreLoggedEvents plan workers capacities s ts × (after_logged s ts ≡ t)
  leads_logged s t calls x effects log =
      let y = logged s x.events x.are x.takeless in (
        y.events,
        y.are,
        y.last
            ∙ ap (λ z. record { switch = z; log = s.log; effects = s.effects ++ calls_of x.events }) x.last
            ∙ ap (λ z. record { switch = t.switch; log = s.log; effects = s.effects ++ z }) x.calls_are
            ∙ ap (λ z. record { switch = t.switch; log = s.log; effects = z }) (sym effects)
            ∙ ap (λ z. record { switch = t.switch; log = z; effects = t.effects }) (sym log),
      )

  more_logged : (s : LoggedSwitch) (ts us : List LoggedSwitch) → AreLoggedEvents plan workers capacities s ts → AreLoggedEvents plan workers capacities (after_logged s ts) us → AreLoggedEvents plan workers capacities s (ts ++ us) × (after_logged s (ts ++ us) ≡ after_logged (after_logged s ts) us)
  more_logged s [] us run more = (more, refl)
  more_logged s (t ∷ ts) us run more = let y = more_logged t ts us run.1 more in ((run.0, y.0), y.1)

  -- ---- pops

  pops_lead : (s : SwitchState) (ts : List SwitchState) → ArePops s ts → Leads plan workers capacities s (after_pops s ts) []
  pops_lead s [] run = record { events = []; are = tt; last = refl; takeless = tt; calls_are = refl }
  pops_lead s (t ∷ ts) run =
      let y = pops_lead t ts run.1 in
      record { events = (None, t) ∷ y.events; are = (inr (inl run.0), y.are); last = y.last; takeless = (run.0.taken, y.takeless); calls_are = y.calls_are }

  -- a key is to sync after pops where it was, or where a write of it waited and none does any more
  pops_keep : (s : SwitchState) (ts : List SwitchState) (k : Key) → ArePops s ts → IsIn k s.to_sync → IsIn k (after_pops s ts).to_sync
  pops_keep s [] k run h = h
  pops_keep s (t ∷ ts) k run h = pops_keep t ts k run.1 (run.0.kept k h)

  pops_bring : (s : SwitchState) (ts : List SwitchState) (k : Key) → ArePops s ts → HasNoWrite (after_pops s ts).written k → (HasNoWrite s.written k → ⊥) → IsIn k (after_pops s ts).to_sync
  pops_bring s [] k run none had = absurd (had none)
  pops_bring s (t ∷ ts) k run none had = by (run.0.keys k) (λ later. pops_bring t ts k run.1 none later)
    where
      by : PopsKey s t k → ((HasNoWrite t.written k → ⊥) → IsIn k (after_pops t ts).to_sync) → IsIn k (after_pops t ts).to_sync
      by (Stays same gone) rest = rest (λ h. had (λ o. sym (same.waiting o) ∙ h o))
      by (Popped some popped there) rest = pops_keep t ts k run.1 there

  pops_only : (s : SwitchState) (ts : List SwitchState) (k : Key) → ArePops s ts → HasNoWrite s.written k → IsIn k (after_pops s ts).to_sync → IsIn k s.to_sync
  pops_only s [] k run none h = h
  pops_only s (t ∷ ts) k run none h = by (run.0.keys k) (λ later. pops_only t ts k run.1 later h)
    where
      by : PopsKey s t k → (HasNoWrite t.written k → IsIn k t.to_sync) → IsIn k s.to_sync
      by (Stays same gone) rest = gone (rest (λ o. same.waiting o ∙ none o))
      by (Popped some popped there) rest = absurd (some none)

  pops_machine : (s : SwitchState) (ts : List SwitchState) → ArePops s ts → (situation (after_pops s ts) ≡ situation s) × (IsQuiet s → IsQuiet (after_pops s ts))
  pops_machine s [] run = (refl, λ h. h)
  pops_machine s (t ∷ ts) run =
      let y = pops_machine t ts run.1 in (
        y.0 ∙ ap (λ z. record { applied = bare_rows z.board.applied; stands = z.stands; made = t.made }) run.0.machine ∙ ap (λ z. record { applied = bare_rows s.machine.board.applied; stands = s.machine.stands; made = z }) run.0.made,
        λ h. y.1 (subst (λ z. (w : ℕ) (f : MachineFlight) → z.board.flights w ≡ Some f → ⊥) (sym run.0.machine) h),
      )

  -- the keys that a settling tries are those that were to sync, and those of which a write waited
  pub pops-keys : (s : SwitchState) (pops : List SwitchState) → ArePops s pops → IsPopped (after_pops s pops).written → (keys : List Key) → ((q : Key) → IsIn q (after_pops s pops).to_sync → IsIn q keys) → ((q : Key) → IsIn q keys → IsIn q (after_pops s pops).to_sync) → (k : Key) → (IsIn k s.to_sync → IsIn k keys) × ((HasNoWrite s.written k → ⊥) → IsIn k keys) × (IsIn k keys → HasNoWrite s.written k → IsIn k s.to_sync)
  pops-keys s pops are popped keys all only k = (
    (λ h. all k (pops_keep s pops k are h)),
    (λ had. all k (pops_bring s pops k are (popped k) had)),
    λ h none. pops_only s pops k are none (only k h),
  )

  pub settling-keys : (s t : LoggedSwitch) (x : IsWholeSettling plan workers capacities s t) (k : Key) → (IsIn k s.switch.to_sync → IsIn k x.keys) × ((HasNoWrite s.switch.written k → ⊥) → IsIn k x.keys) × (IsIn k x.keys → HasNoWrite s.switch.written k → IsIn k s.switch.to_sync)
  settling-keys s t x k = pops-keys s.switch x.pops x.are_pops x.popped x.keys x.all x.only k

  pops_told : (s : SwitchState) (ts : List SwitchState) → ArePops s ts → IsTold s.written → IsTold (after_pops s ts).written × ((after_pops s ts).written.taken ≡ s.written.taken)
  pops_told s [] run told = (told, refl)
  pops_told s (t ∷ ts) run told =
      let y = pops_told t ts run.1 (told-popped s.written t.written (record { taken = run.0.taken; keys = λ k. by k (run.0.keys k) }) told) in
      (y.0, y.1 ∙ run.0.taken)
    where
      by : (k : Key) → PopsKey s t k → IsAsBefore s.written t.written k ⊎ IsPoppedKey s.written t.written k
      by k (Stays same gone) = inl same
      by k (Popped some popped there) = inr popped

  -- the good rows of its turns are those of all the writes taken
  pub pops-good : (s : SwitchState) (pops : List SwitchState) → ArePops s pops → IsPopped (after_pops s pops).written → IsSafe plan workers capacities s → (k : Key) → good_of plan (after_pops s pops).written k ≡ good_rows plan (rows_of s.written.taken) k
  pops-good s pops are popped kept k =
      let y = pops_told s pops are kept.told in
      ap (good_row plan k) (sym (popped k ((after_pops s pops).written.rows k)) ∙ sym (y.0 k) ∙ ap (λ z. fields_at (rows_of z) k) y.1)

  pub settling-good : (s t : LoggedSwitch) (x : IsWholeSettling plan workers capacities s t) → IsSafe plan workers capacities s.switch → (k : Key) → good_of plan (after_pops s.switch x.pops).written k ≡ good_rows plan (rows_of s.switch.written.taken) k
  settling-good s t x kept k = pops-good s.switch x.pops x.are_pops x.popped kept k

  leads_safe : IsPlan plan → (s t : SwitchState) (calls : List (Call Rid)) → IsSafe plan workers capacities s → Leads plan workers capacities s t calls → IsSafe plan workers capacities t
  leads_safe is s t calls kept x = subst (IsSafe plan workers capacities) x.last (kept-run plan is workers capacities s x.events kept x.are)

  -- up to its mark
  abbrev pub unmarked : LoggedSwitch → LoggedSwitch → LoggedSwitch
  unmarked s t = record { switch = t.switch; log = s.log; effects = t.effects }

  module _ (is : IsPlan plan) (s t : LoggedSwitch) (x : IsWholeSettling plan workers capacities s t) (kept : IsSafe plan workers capacities s.switch) (quiet : IsQuiet s.switch) where
    popped : SwitchState
    popped = after_pops s.switch x.pops

    lead : Leads plan workers capacities s.switch popped []
    unfolding popped
    lead = pops_lead s.switch x.pops x.are_pops

    popped_safe : IsSafe plan workers capacities popped
    popped_safe = leads_safe is s.switch popped [] kept lead

    popped_quiet : IsQuiet popped
    unfolding popped
    popped_quiet = (pops_machine s.switch x.pops x.are_pops).1 quiet

    comes : Comes plan is workers capacities (λ z. AreTurnsWith plan capacities (good_of plan popped.written) x.turns (situation popped) x.keys z x.left x.calls) popped.written t.switch
    unfolding popped
    comes = settles plan is workers capacities x.turns popped t.switch x.keys x.left x.calls popped_safe popped_quiet x.turns_are

    -- its effects are those of the turns that its mark counts, over the rows that were applied when it began
    pub settling-calls : (z : Situation) × AreTurnsWith plan capacities (good_of plan (after_pops s.switch x.pops).written) x.turns (situation s.switch) x.keys z x.left x.calls × IsSituationOf z t.switch
    unfolding popped
    settling-calls = (comes.then, subst (λ v. AreTurnsWith plan capacities (good_of plan popped.written) x.turns v x.keys comes.then x.left x.calls) (pops_machine s.switch x.pops x.are_pops).0 comes.so, comes.agrees)

    -- and it is a list of logged events
    pub settling-logged : (ts : List LoggedSwitch) × AreLoggedEvents plan workers capacities s ts × (after_logged s ts ≡ t)
    unfolding popped
    settling-logged =
        let all = both plan workers capacities s.switch popped t.switch [] x.calls x.calls refl lead (turns-lead plan workers capacities x.turns popped t.switch x.keys x.left x.calls x.turns_are) in
        let y = leads_logged s (unmarked s t) x.calls all x.effects refl in
        let more = more_logged s y.0 (t ∷ []) y.1 (subst (λ v. AreLoggedEvents plan workers capacities v (t ∷ [])) (sym y.2) (inr (inr marked), tt)) in
        (y.0 ++ t ∷ [], more.0, more.1)
      where
        marked : LogsMark plan workers capacities (unmarked s t) t
        marked = record {
          quiet = comes.rest.quiet;
          popped = subst (λ v. (k : Key) → HasNoWrite v k) (sym comes.rest.same) x.popped;
          waits = x.waits;
          turns = x.turns;
          listed = x.listed;
          all = λ k h. x.lists k (sync-left plan workers capacities x.turns popped t.switch x.keys x.left x.calls (λ q at. x.all q at) x.turns_are k h);
          in_order = x.in_order;
          switch = refl;
          log = x.log;
          effects = refl;
        }

  -- ---- so far

  -- a whole settling is one so far, up to its mark
  pub settling-cut : (s t : LoggedSwitch) (x : IsWholeSettling plan workers capacities s t) → (y : IsInTurns plan workers capacities s (unmarked s t)) × (y.pops ≡ x.pops) × (y.keys ≡ x.keys) × (y.calls ≡ x.calls)
  settling-cut s t x =
      let y = turns-cut plan workers capacities x.turns (after_pops s.switch x.pops) t.switch x.keys x.left x.calls x.turns_are in
      (record { pops = x.pops; are_pops = x.are_pops; popped = x.popped; keys = x.keys; order = x.order; all = x.all; only = x.only; turns = y.0; calls = x.calls; turns_are = y.2; effects = x.effects; log = refl }, refl, refl, refl)

  -- so far it is a list of events, which are logged, and keep it safe
  pub so-far-leads : (s t : LoggedSwitch) → IsSettlingSoFar plan workers capacities s t → (calls : List (Call Rid)) × Leads plan workers capacities s.switch t.switch calls × (t.effects ≡ s.effects ++ calls) × (t.log ≡ s.log)
  so-far-leads s t (InPops x) = ([], subst (λ v. Leads plan workers capacities s.switch v []) (sym x.switch) (pops_lead s.switch x.pops x.are_pops), x.effects ∙ sym (append-nil s.effects), x.log)
  so-far-leads s t (InTurns x) =
      let popped = after_pops s.switch x.pops in
      (x.calls, both plan workers capacities s.switch popped t.switch [] x.calls x.calls refl (pops_lead s.switch x.pops x.are_pops) (turns-so-far-lead plan workers capacities x.turns popped t.switch x.keys x.calls x.turns_are), x.effects, x.log)

  pub so-far-logged : (s t : LoggedSwitch) → IsSettlingSoFar plan workers capacities s t → (ts : List LoggedSwitch) × AreLoggedEvents plan workers capacities s ts × (after_logged s ts ≡ t)
  so-far-logged s t x = let y = so-far-leads s t x in leads_logged s t y.0 y.1 y.2 y.3

  pub so-far-safe : IsPlan plan → (s t : LoggedSwitch) → IsSettlingSoFar plan workers capacities s t → IsSafe plan workers capacities s.switch → IsSafe plan workers capacities t.switch
  so-far-safe is s t x kept = let y = so-far-leads s t x in leads_safe is s.switch t.switch y.0 kept y.1

  -- while keys are popped no call is due
  pub so-far-pops : (s t : LoggedSwitch) → IsInPops s t → IsQuiet s.switch → IsQuiet t.switch × ((call : Call Rid) → IsDueCall workers call t.switch → ⊥)
  so-far-pops s t x quiet =
      let still = subst IsQuiet (sym x.switch) ((pops_machine s.switch x.pops x.are_pops).1 quiet) in
      (still, λ call y. still y.worker y.flight y.flying)

  -- its calls, and one that is due, are those of turns over the rows that were applied when it began, cut off
  pub so-far-calls : IsPlan plan → (s t : LoggedSwitch) (x : IsInTurns plan workers capacities s t) (tried : List (Call Rid)) → IsSafe plan workers capacities s.switch → IsQuiet s.switch → AreTried workers t.switch tried → AreTurnsWithSoFar plan capacities (good_of plan (after_pops s.switch x.pops).written) x.turns (situation s.switch) x.keys (x.calls ++ tried)
  so-far-calls is s t x tried kept quiet are =
      let popped = after_pops s.switch x.pops in
      let m = pops_machine s.switch x.pops x.are_pops in
      let safe = leads_safe is s.switch popped [] kept (pops_lead s.switch x.pops x.are_pops) in
      subst (λ v. AreTurnsWithSoFar plan capacities (good_of plan popped.written) x.turns v x.keys (x.calls ++ tried)) m.0 (settles-so-far plan is workers capacities x.turns popped t.switch x.keys x.calls tried safe (m.1 quiet) x.turns_are are)

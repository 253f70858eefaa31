-- a run that names a key in no write leaves it alone
use Rattle.std.proofs.Common.{◌≡◌, ◌∷◌, ◌∙◌, inl, inr, ℕ, List, [], Option, None, Some, refl, sym, ap, subst, ◌++◌, length, arith}
use Rattle.std.proofs.lemmas.List.{append-nil, append_assoc, length-append}
use Rattle.table_schema.specs.Plan.{IsPlan, Ports}
use Rattle.table_schema.specs.declared.key.Key.{Key}
use Rattle.sai_types.specs.declared.ids.Rid.{Rid}
use Rattle.sai_types.specs.declared.body.Call.{Call}
use Rattle.sai_types.specs.declared.body.Entry.{Entry}
use Rattle.sai_types.specs.Alike.{IsIn}
use Rattle.switch_machine.specs.Events.{IsQuiet, with_made_call, Popped, PopsKey, Stays, SwitchState, IsEvent, IsSafe, AreEvents, calls_of, after_events}
use Rattle.switch_machine.specs.Flights.{IsResting}
use Rattle.switch_machine.specs.Written.{HasNoWrite}
use Rattle.machine_laws.specs.Logged.{AreLoggedEvents, ListsKey, LoggedSwitch, LogsMark, AreNoWritesOf, after_logged}
use Rattle.machine_laws.specs.Quiet.{ChangesEntry, LeavesAlone, NamesNot, EntryStandsFor, TakesNoWriteOf}
use Rattle.switch_model.specs.Marks.{written_key}
use Rattle.machine_laws.proofs.Sharing.{fields_beside}
use Rattle.machine_laws.proofs.Quieting.{quiet-rows}

module _ (plan : Ports) (workers : ℕ) (capacities : List ℕ) (k : Key) where
  record Alone (s t : SwitchState) : Type 0 where
    gone : IsIn k t.to_sync → IsIn k s.to_sync
    none : HasNoWrite t.written k

  alone_pop : (s t : SwitchState) → HasNoWrite s.written k → PopsKey s t k → Alone s t
  alone_pop s t none (Stays same gone) = record { gone = gone; none = λ o. same.waiting o ∙ none o }
  alone_pop s t none (Popped some popped there) = absurd (some none)

  alone_event : (s t : SwitchState) (c : Option (Call Rid)) (x : IsEvent plan workers capacities s c t) → HasNoWrite s.written k → TakesNoWriteOf plan workers capacities k s c t x → Alone s t
  alone_event s t None (inl x) none other = record { gone = λ h. subst (IsIn k) x.to_sync h; none = λ o. x.taken.waiting k o ∙ fields_beside x.write k (s.written.waiting k o) other ∙ none o }
  alone_event s t None (inr (inl x)) none other = alone_pop s t none (x.keys k)
  alone_event s t None (inr (inr (inl x))) none other = record { gone = x.to_sync.only k; none = subst (λ z. HasNoWrite z k) (sym x.written) none }
  alone_event s t None (inr (inr (inr x))) none other = record { gone = x.to_sync.only k; none = subst (λ z. HasNoWrite z k) (sym x.written) none }
  alone_event s t (Some call) x none other = record { gone = λ h. subst (IsIn k) x.to_sync h; none = subst (λ z. HasNoWrite z k) (sym x.written) none }

  leaves_alone : (s : SwitchState) (es : List (Option (Call Rid) × SwitchState)) (run : AreEvents plan workers capacities s es) → HasNoWrite s.written k → NamesNot plan workers capacities k s es run → LeavesAlone k s es
  leaves_alone s [] run none names = tt
  leaves_alone s (e ∷ es) run none names =
      let x = alone_event s e.1 e.0 run.0 none names.0 in
      (x.gone, leaves_alone e.1 es run.1 x.none names.1)

-- what stands for the row of a key that is at rest, not to sync, and named by no write is neither set nor removed
pub unnamed-rows : (plan : Ports) (is : IsPlan plan) (workers : ℕ) (capacities : List ℕ) (k : Key) (s : SwitchState) (es : List (Option (Call Rid) × SwitchState)) (e : Entry Rid) → IsSafe plan workers capacities s → (run : AreEvents plan workers capacities s es) → NamesNot plan workers capacities k s es run → HasNoWrite s.written k → IsResting s.machine.board k → (IsIn k s.to_sync → ⊥) → EntryStandsFor plan k e s.machine → IsResting (after_events s es).machine.board k × EntryStandsFor plan k e (after_events s es).machine × ((call : Call Rid) → IsIn call (calls_of es) → ChangesEntry call e → ⊥)
unnamed-rows plan is workers capacities k s es e kept run names none rests out stood = quiet-rows plan is workers capacities k s es e kept run (leaves_alone plan workers capacities k s es run none names) rests out stood

-- ---- of logged events

pub one_more_differs : {A : Type 0} (xs : List A) (x : A) → xs ++ x ∷ [] ≡ xs → ⊥
one_more_differs xs x h = absurd (omega (arith, ap length h, length-append xs (x ∷ [])))

module _ (plan : Ports) (is : IsPlan plan) (workers : ℕ) (capacities : List ℕ) (k : Key) where
  -- the events of a log, without its marks
  record Run (s : SwitchState) (effects : List (Call Rid)) (t : LoggedSwitch) : Type 0 where
    events : List (Option (Call Rid) × SwitchState)
    are : AreEvents plan workers capacities s events
    last : after_events s events ≡ t.switch
    grown : t.effects ≡ effects ++ calls_of events
    names : NamesNot plan workers capacities k s events are

  takes_none : (s t : SwitchState) (c : Option (Call Rid)) (x : IsEvent plan workers capacities s c t) → t.written.taken ≡ s.written.taken → TakesNoWriteOf plan workers capacities k s c t x
  takes_none s t None (inl x) same = λ e. one_more_differs s.written.taken x.write (sym x.taken.taken ∙ same)
  takes_none s t None (inr x) same = tt
  takes_none s t (Some call) x same = tt

  made_front : (c : Option (Call Rid)) (calls es : List (Call Rid)) → (es ++ with_made_call c []) ++ calls ≡ es ++ with_made_call c calls
  made_front None calls es = ap (λ z. z ++ calls) (append-nil es)
  made_front (Some call) calls es = append_assoc es (call ∷ []) calls

  run_of : (s : LoggedSwitch) (ts : List LoggedSwitch) (run : AreLoggedEvents plan workers capacities s ts) → AreNoWritesOf plan workers capacities k s ts run → Run s.switch s.effects (after_logged s ts)
  run_of s [] run h = record { events = []; are = tt; last = refl; grown = sym (append-nil s.effects); names = tt }
  run_of s (t ∷ ts) (inl x, run) h =
      let y = run_of t ts run h.1 in
      record {
        events = (None, t.switch) ∷ y.events;
        are = (inl x.takes, y.are);
        last = y.last;
        grown = y.grown ∙ ap (λ z. z ++ calls_of y.events) x.effects;
        names = ((λ e. h.0 (ap written_key (sym x.same) ∙ e)), y.names);
      }
  run_of s (t ∷ ts) (inr (inl x), run) h =
      let y = run_of t ts run h.1 in
      record {
        events = (x.call, t.switch) ∷ y.events;
        are = (x.event, y.are);
        last = y.last;
        grown = y.grown ∙ ap (λ z. z ++ calls_of y.events) x.effects ∙ made_front x.call (calls_of y.events) s.effects;
        names = (takes_none s.switch t.switch x.call x.event x.taken, y.names);
      }
  run_of s (t ∷ ts) (inr (inr x), run) h = subst (λ z. Run z s.effects (after_logged t ts)) x.switch (subst (λ z. Run t.switch z (after_logged t ts)) x.effects (run_of t ts run h.1))

  -- after a mark that doesn't list the key, what stands for its row is neither set nor removed until a write of it is taken
  pub round-quiet : (s t : LoggedSwitch) (x : LogsMark plan workers capacities s t) (ts : List LoggedSwitch) (run : AreLoggedEvents plan workers capacities t ts) (e : Entry Rid) → IsSafe plan workers capacities t.switch → AreNoWritesOf plan workers capacities k t ts run → (ListsKey k x.waits → ⊥) → EntryStandsFor plan k e t.switch.machine → (calls : List (Call Rid)) × ((after_logged t ts).effects ≡ t.effects ++ calls) × EntryStandsFor plan k e (after_logged t ts).switch.machine × ((call : Call Rid) → IsIn call calls → ChangesEntry call e → ⊥)
  round-quiet s t x ts run e kept none out stood =
      let y = run_of t ts run none in
      let z = unnamed-rows plan is workers capacities k t.switch y.events e kept y.are y.names (subst (λ (v : SwitchState). HasNoWrite v.written k) (sym x.switch) (x.popped k)) (λ w f at same. subst (λ (v : SwitchState). IsQuiet v) (sym x.switch) x.quiet w f at) (λ h. out (x.all k (subst (λ (v : SwitchState). IsIn k v.to_sync) x.switch h))) stood in
      (calls_of y.events, y.grown, subst (λ (v : SwitchState). EntryStandsFor plan k e v.machine) y.last z.1, z.2)

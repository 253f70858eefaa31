-- the calls of answers are those of the changes that they make, one for each; so far, those of the first of an operation's
use Rattle.std.proofs.Common.{◌≡◌, ◌∷◌, ◌++◌, inl, inr, ℕ, List, [], map, refl, sym, subst}
use Rattle.table_schema.specs.Plan.{Ports}
use Rattle.table_schema.specs.declared.key.Key.{Key}
use Rattle.sai_types.specs.declared.ids.Rid.{Rid}
use Rattle.sai_types.specs.declared.body.Call.{Call}
use Rattle.row_layout.specs.Operations.{Change}
use Rattle.switch_machine.specs.Events.{AreAnswers, Due, Ended, Follows, IsAnswer, IsDueCall, Left, Retires, SwitchState, after_answers, changes_made}
use Rattle.switch_machine.specs.Flights.{Machine}
use Rattle.switch_machine.specs.Steps.{moved}
use Rattle.machine_laws.specs.Calls.{AreCallsOf, AreFirstCallsOf, IsCallOf}
use Rattle.machine_laws.specs.Settling.{RunsAlone, RunsSoFar}

-- what follows an event changes nothing that stands
pub follows-stands : (plan : Ports) (w : ℕ) (m later : Machine) → Follows plan w m later → later.stands ≡ m.stands
follows-stands plan w m _ (Due c cs at) = refl
follows-stands plan w m _ (Ended f ends) = refl
follows-stands plan w m _ (Left f o x) = refl
follows-stands plan w m _ (Retires f o x) = refl

abbrev pub calls_in : List (Call Rid × SwitchState) → List (Call Rid)
calls_in es = map (λ (a : Call Rid × SwitchState). a.0) es

answer_call : (plan : Ports) (workers : ℕ) (call : Call Rid) (s t : SwitchState) (y : IsAnswer plan workers call s t) → IsCallOf s.machine.stands s.made y.next.change call t.machine.stands
answer_call plan workers call s t y =
    let stands = follows-stands plan y.next.worker (moved s.machine y.next.worker y.next.rest y.stands) t.machine y.follows in
    subst (λ v. IsCallOf s.machine.stands s.made y.next.change call v) (sym stands) (record { of = y.next.of; id = y.id; given = y.given; into = y.into; back = y.back })

pub calls-made : (plan : Ports) (workers : ℕ) (s : SwitchState) (es : List (Call Rid × SwitchState)) (run : AreAnswers plan workers s es) → AreCallsOf s.machine.stands s.made (changes_made plan workers s es run) (calls_in es) (after_answers s es).machine.stands
calls-made plan workers s [] run = (refl, refl)
calls-made plan workers s (e ∷ es) run = (
  e.0,
  calls_in es,
  e.1.machine.stands,
  refl,
  answer_call plan workers e.0 s e.1 run.0,
  subst (λ v. AreCallsOf e.1.machine.stands v (changes_made plan workers e.1 es run.1) (calls_in es) (after_answers e.1 es).machine.stands) run.0.made (calls-made plan workers e.1 es run.1),
)

-- ---- so far

-- the calls that are tried from here on: none, or the one that is due
pub data AreTried (workers : ℕ) (t : SwitchState) : List (Call Rid) → Type 0 where
  NoCall : AreTried workers t []
  DueCall : (call : Call Rid) → IsDueCall workers call t → AreTried workers t (call ∷ [])

-- with those they are the first of the changes
pub first-calls : (plan : Ports) (workers : ℕ) (s : SwitchState) (es : List (Call Rid × SwitchState)) (run : AreAnswers plan workers s es) (rest : List Change) (more : List (Call Rid)) → AreTried workers (after_answers s es) more → ((call : Call Rid) (y : IsDueCall workers call (after_answers s es)) → (after : List Change) × (rest ≡ y.change ∷ after)) → AreFirstCallsOf s.machine.stands s.made (changes_made plan workers s es run ++ rest) (calls_in es ++ more)
first-calls plan workers s [] run rest _ NoCall due = tt
first-calls plan workers s [] run rest _ (DueCall call y) due = subst (λ v. AreFirstCallsOf s.machine.stands s.made v (call ∷ [])) (sym (due call y).1) (y.of, inl refl)
first-calls plan workers s (e ∷ es) run rest more tried due = (
  run.0.next.of,
  inr (
    e.1.machine.stands,
    answer_call plan workers e.0 s e.1 run.0,
    subst (λ v. AreFirstCallsOf e.1.machine.stands v (changes_made plan workers e.1 es run.1 ++ rest) (calls_in es ++ more)) run.0.made (first-calls plan workers e.1 es run.1 rest more tried due),
  ),
)

abbrev pub alone-so-far : (plan : Ports) (workers : ℕ) (capacities : List ℕ) (k : Key) (s t : SwitchState) (calls : List (Call Rid)) → RunsAlone plan workers capacities k s t calls → RunsSoFar plan workers capacities k s t calls
alone-so-far plan workers capacities k s t calls x = record { first = x.first; starting = x.starting; is = x.is; answers = x.answers; are = x.are; last = x.last; calls_are = x.calls_are }

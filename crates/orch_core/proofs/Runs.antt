-- answers and pops, one after the other
use Rattle.std.proofs.Common.{◌≡◌, ◌+◌, ◌<◌, ◌≤◌, ◌==◌, ◌∷◌, ◌++◌, ◌∙◌, ◌⊎◌, inl, inr, ℕ, Bool, true, false, List, [], length, Option, None, Some, Result, Ok, Err, refl, sym, ap, subst, arith}
use Rattle.std.proofs.lemmas.List.{append-nil, append_assoc, length-append, map-append}
use Rattle.std.specs.Option.{IsSome}
use Rattle.std.specs.Result.{IsErr}
use Rattle.std.proofs.lemmas.Bool.{eq-eqb, eqb-true, false≢true}
use Rattle.swss_types.specs.declared.out_of_memory.OutOfMemory.{OutOfMemory}
use Rattle.table_schema.specs.Plan.{Ports}
use Rattle.sai_types.specs.declared.body.Call.{Call}
use Rattle.sai_types.specs.declared.ids.Rid.{Rid}
use Rattle.sai_types.specs.ChipState.{ChipState}
use Rattle.switch_model.specs.History.{History, listed_by}
use Rattle.switch_model.specs.declared.mark.MarkEvent.TheVariants as event
use Rattle.switch_machine.specs.Events.{AreAnswers, IsAnswer, SwitchState, after_answers}
use Rattle.restart_laws.specs.Logged.{LoggedService}
use Rattle.sync_tables.specs.Tables.{PopsKeys, TablesState}
use Rattle.flight_board.specs.Board.{BoardState, flown_at}
use Rattle.warm_state.specs.declared.warm.Warm.TheVariants as warm
use Rattle.session_laws.specs.Core.{CoreState, size_beside}
use Rattle.session_laws.specs.Events.{MakesSome}
use Rattle.session_laws.specs.Standing.{IsSessionOf}
use Rattle.session_laws.proofs.ByFirst.{away_stays, by_any, none_stay}
use Rattle.session_laws.proofs.Joining.{no_step, one_step}
use Rattle.session_laws.proofs.Service.States.{suspect-reconciled}
use Rattle.session_laws.proofs.Popping.{pop_told}
use Rattle.session_laws.specs.Leading.{LeadsTo, PopsTo, RunsTo, calls_in}
use Rattle.session_laws.proofs.Settling.Leading.{leads_more, leads_some}
use Rattle.session_laws.proofs.Settling.Popping.{pops_more, pops_none}
use Rattle.session_laws.proofs.Settling.Running.{runs_both, answered_both, answers_both, runs_more, runs_none}
use Rattle.session_laws.proofs.Settling.Settling.{free_answered, pops_cut}
use Rattle.orch_core.specs.Outcomes.{Answered, AnswersCall, IsLastCall, IsSameBeside, KeepsChip, KeepsFlights, MarksFault, with_fault, PopsAlone}
use Rattle.session_laws.specs.Turning.{IsAtRest}
use Rattle.orch_core.specs.Settled.{AreAnswersSoFar, AreByWorkers, BehindThem, Pops, RunsAll, RunsInOrder, RunsOut, Settles, SettlesSoFar, RunsWhole, StopsFaulted, StopsFull, StopsShort}
use Rattle.orch_core.specs.declared.answer.Ran.{Ran}
use Rattle.orch_core.specs.declared.answer.Ran.TheVariants as ran
use Rattle.orch_core.specs.declared.answer.Settled.{Settled}
use Rattle.orch_core.specs.declared.answer.Step.{Step}
use Rattle.orch_core.specs.declared.answer.Step.TheVariants as step
use Rattle.orch_core.proofs.Chips.{effects_asked, keeps_alike, keeps_asked, keeps_itself, keeps_on, keeps_stood}

pub beside_itself : (c : CoreState) → IsSameBeside c c
beside_itself c = record { tables = refl; waiting = refl; log = refl; listed = refl; limit = refl; warm = refl }

pub beside_on : (c d e : CoreState) → IsSameBeside c d → IsSameBeside d e → IsSameBeside c e
beside_on c d e x y = record { tables = y.tables ∙ x.tables; waiting = y.waiting ∙ x.waiting; log = y.log ∙ x.log; listed = y.listed ∙ x.listed; limit = y.limit ∙ x.limit; warm = y.warm ∙ x.warm }

-- ---- where steps stop

module _ (s t : LoggedService) (c d : CoreState) (chip : ChipState) (leads : LeadsTo c s t d chip) where
  -- steps of the later core are steps of the first
  pub all_more : (e : CoreState) (chip' : ChipState) → MakesSome d t e chip' → MakesSome c s e chip'
  all_more e chip' y = leads_some c e chip' s _ (leads_more c d e chip chip' s t _ leads (record { steps = y.steps; are = y.are; few = y.few; is = refl; stands = y.stands; plan = y.plan; capacities = y.capacities; limit = y.limit }))

  -- where nothing was logged on the way, what stops the later core stops the first
  module _ (first : ChipState) (is : IsSessionOf c first s) (same : d.log ≡ c.log) (keeps : KeepsChip c first d chip) where
    size_same : (n : ℕ) → size_beside d n ≡ size_beside c n
    size_same n =
        let listed : d.listed ≡ c.listed = leads.stands.listed ∙ ap (λ (h : History). listed_by h.marks) same ∙ sym is.listed in
        let taken : length d.log.taken ≡ length c.log.taken = ap (λ (h : History). length h.taken) same in
        let marks : length d.log.marks ≡ length c.log.marks = ap (λ (h : History). length h.marks) same in
        omega (arith, listed, taken, marks)

    marks_more : (e : CoreState) (chip' : ChipState) → MarksFault true d chip e chip' → MarksFault true c first e chip'
    marks_more e chip' y =
        let faults = keeps.faults in
        let size = size_same chip'.before_fault in
        let places = y.places in
        let limit = leads.limit in
        record {
          one = y.one ∙ ap (λ n. n + 1) faults;
          log = y.log
              ∙ ap (λ (h : History). with_fault true h (record { taken = length h.taken; effects = length chip'.effects; event = event.Faulted chip.faults chip'.faults })) same
              ∙ ap (λ n. with_fault true c.log (record { taken = length c.log.taken; effects = length chip'.effects; event = event.Faulted n chip'.faults })) faults;
          warm = y.warm;
          places = omega (arith, size, places, limit);
          few = y.few;
        }

    -- what was made so far behind these calls was made so far from the first core on
    module _ (So Then : SwitchState → SwitchState → List (Call Rid) → Type 0) (own : List (Call Rid)) (grew : t.effects ≡ s.effects ++ own) (through : (u : SwitchState) (calls : List (Call Rid)) → Then t.service.core u calls → So s.service.core u (own ++ calls)) where
      pub effects_on : (calls : List (Call Rid)) → chip.effects ++ calls ≡ first.effects ++ (own ++ calls)
      effects_on calls = ap (λ l. l ++ calls) (sym leads.stands.effects ∙ grew ∙ ap (λ l. l ++ own) is.effects) ∙ append_assoc first.effects own calls

      pub faulted_more : (c.tables.waiting ≡ [] → d.tables.waiting ≡ []) → (e : CoreState) (chip' : ChipState) → StopsFaulted Then t d chip e chip' → StopsFaulted So s c first e chip'
      faulted_more popped e chip' y = record {
        steps = all_more e chip' y.steps;
        before = y.before;
        calls = own ++ y.calls;
        so = through y.before y.calls y.so;
        call = y.call;
        due = y.due;
        effects = subst (λ l. IsLastCall l y.call chip'.effects) (effects_on y.calls) y.effects;
        marks = marks_more e chip' y.marks;
        popped = λ none. y.popped (popped none);
        fails = y.fails ∙ keeps.fails;
      }

      pub full_more : (e : CoreState) (chip' : ChipState) → StopsFull Then t d chip e chip' → StopsFull So s c first e chip'
      full_more e chip' y = record { steps = all_more e chip' y.steps; then = y.then; calls = own ++ y.calls; so = through y.then y.calls y.so; effects = y.effects ∙ effects_on y.calls; warm = y.warm; log = y.log ∙ same; flying = y.flying; full = y.full; keeps = keeps_on keeps y.keeps }

      pub short_more : (e : CoreState) (chip' : ChipState) → StopsShort Then t d chip e chip' → StopsShort So s c first e chip'
      short_more e chip' y = record { steps = all_more e chip' y.steps; then = y.then; calls = own ++ y.calls; so = through y.then y.calls y.so; effects = y.effects ∙ effects_on y.calls; warm = y.warm; log = y.log ∙ same; keeps = keeps_on keeps y.keeps }

-- what was made so far, seen as a part of more
module _ (So Then : SwitchState → SwitchState → List (Call Rid) → Type 0) (s : LoggedService) (through : (u : SwitchState) (calls : List (Call Rid)) → Then s.service.core u calls → So s.service.core u calls) (c : CoreState) (chip : ChipState) (d : CoreState) (chip' : ChipState) where
  pub faulted_as : StopsFaulted Then s c chip d chip' → StopsFaulted So s c chip d chip'
  faulted_as y = record { steps = y.steps; before = y.before; calls = y.calls; so = through y.before y.calls y.so; call = y.call; due = y.due; effects = y.effects; marks = y.marks; popped = y.popped; fails = y.fails }

  pub full_as : StopsFull Then s c chip d chip' → StopsFull So s c chip d chip'
  full_as y = record { steps = y.steps; then = y.then; calls = y.calls; so = through y.then y.calls y.so; effects = y.effects; warm = y.warm; log = y.log; flying = y.flying; full = y.full; keeps = y.keeps }

  pub short_as : StopsShort Then s c chip d chip' → StopsShort So s c chip d chip'
  short_as y = record { steps = y.steps; then = y.then; calls = y.calls; so = through y.then y.calls y.so; effects = y.effects; warm = y.warm; log = y.log; keeps = y.keeps }

-- nothing was logged in a session: the cores' logs are the same
pub log_same : (c d : CoreState) (first chip : ChipState) (s t : LoggedService) → IsSessionOf c first s → IsSessionOf d chip t → t.log ≡ s.log → d.log ≡ c.log
log_same c d first chip s t is there same = sym there.log ∙ same ∙ is.log

-- ---- answers in the order of the workers

by_wider : (plan : Ports) (from from' to to' : ℕ) (s : SwitchState) (es : List (Call Rid × SwitchState)) → from' ≤ from → to ≤ to' → AreByWorkers plan from to s es → AreByWorkers plan from' to' s es
by_wider plan from from' to to' s [] less more run = tt
by_wider plan from from' to to' s (e ∷ es) less more run =
    let least = run.1 in
    let most = run.2 in
    (run.0, omega (arith, less, least), omega (arith, more, most), by_wider plan run.0.next.worker run.0.next.worker to to' e.1 es (omega arith) more run.3)

-- answers of workers below one number, and then of workers from one on
pub by_both : (plan : Ports) (from top low to : ℕ) (s : SwitchState) (xs ys : List (Call Rid × SwitchState)) → from ≤ low → top ≤ low + 1 → top ≤ to → AreByWorkers plan from top s xs → AreByWorkers plan low to (after_answers s xs) ys → AreByWorkers plan from to s (xs ++ ys)
by_both plan from top low to s [] ys least few most a b = by_wider plan low from to to s ys least (omega arith) b
by_both plan from top low to s (x ∷ xs) ys least few most a b =
    let own = a.2 in
    (a.0, a.1, omega (arith, most, own), by_both plan a.0.next.worker top low to x.1 xs ys (omega (arith, few, own)) few most a.3 b)

-- a worker's next answer; those before were given by it or by earlier workers
by_one : (plan : Ports) (from w : ℕ) (s : SwitchState) (xs : List (Call Rid × SwitchState)) (e : Call Rid) (t : SwitchState) (x : IsAnswer plan 4 e (after_answers s xs) t) → x.next.worker ≡ w → from ≤ w → AreByWorkers plan from (w + 1) s xs → AreByWorkers plan from (w + 1) s (xs ++ (e, t) ∷ [])
by_one plan from w s [] e t x own less run = (x, omega (arith, own, less), omega (arith, own), tt)
by_one plan from w s (y ∷ ys) e t x own less run =
    let most = run.2 in
    (run.0, run.1, run.2, by_one plan run.0.next.worker w y.1 ys e t x own (omega (arith, most)) run.3)

pub by_are : (plan : Ports) (from to : ℕ) (s : SwitchState) (es : List (Call Rid × SwitchState)) → AreByWorkers plan from to s es → AreAnswers plan 4 s es
by_are plan from to s [] run = tt
by_are plan from to s (e ∷ es) run = (run.0, by_are plan run.0.next.worker to e.1 es run.3)

-- the answer of a call that stops
module _ (s : LoggedService) (w : ℕ) (c : CoreState) (chip : ChipState) (at : c.warm ≡ warm.Reconciled) (d : CoreState) (chip' : ChipState) where
  none_so : AreAnswersSoFar c.board.plan w (w + 1) s.service.core s.service.core []
  none_so = ([], tt, refl, refl)

  pub stop_faulted : Answered true s w c chip (Ok step.Faulted) d chip' → StopsFaulted (AreAnswersSoFar c.board.plan w (w + 1)) s c chip d chip'
  stop_faulted y = record {
    steps = one_step c d chip' s y.makes (by_any 0 s y.makes.later (away_stays s y.makes.later (λ h. suspect-reconciled (sym y.marks.warm ∙ sym y.makes.stands.warm_is ∙ h))));
    before = s.service.core;
    calls = [];
    so = none_so;
    call = y.call;
    due = y.due;
    effects = subst (λ l. IsLastCall l y.call chip'.effects) (sym (append-nil chip.effects)) y.effects;
    marks = y.marks;
    popped = λ none. ap (λ t. t.waiting) y.tables ∙ none;
    fails = y.fails;
  }

  pub stop_full : IsSessionOf c chip s → w < 4 → IsSome (flown_at c.board w) → Answered true s w c chip (Ok step.LogFull) d chip' → StopsFull (AreAnswersSoFar c.board.plan w (w + 1)) s c chip d chip'
  stop_full is less flying y =
      subst (λ z. StopsFull (AreAnswersSoFar c.board.plan w (w + 1)) s c chip z chip') (sym y.0)
      (subst (λ z. StopsFull (AreAnswersSoFar c.board.plan w (w + 1)) s c chip c z) (sym y.1) (record { steps = no_step c chip s is; then = s.service.core; calls = []; so = none_so; effects = sym (append-nil chip.effects); warm = at; log = refl; flying = (w, less, flying); full = y.2; keeps = keeps_itself c chip }))

  pub stop_short : IsSessionOf c chip s → (e : OutOfMemory) → Answered true s w c chip (Err e) d chip' → StopsShort (AreAnswersSoFar c.board.plan w (w + 1)) s c chip d chip'
  stop_short is e y = record {
    steps = record { steps = []; are = tt; few = none_stay 0 s; stands = y.1.stands; plan = y.1.plan; capacities = y.1.capacities; limit = y.1.limit };
    then = s.service.core;
    calls = [];
    so = none_so;
    effects = effects_asked y.0 ∙ sym (append-nil chip.effects);
    warm = y.1.warm ∙ at;
    log = y.1.log;
    keeps = keeps_asked y.0 (keeps_stood c d chip chip' s s is y.1.stands y.1.log y.1.limit);
  }

-- ---- answers

module _ (s : LoggedService) (w : ℕ) (c : CoreState) (first : ChipState) where
  pub runs_first : IsSessionOf c first s → RunsWhole s w c first c first
  runs_first is = record { runs = runs_none c first s is; order = tt; beside = beside_itself c; others = λ v apart. refl; keeps = keeps_itself c first }

  module _ (d : CoreState) (chip : ChipState) (x : RunsWhole s w c first d chip) where
    pub runs_on : (e : CoreState) (chip' : ChipState) → AnswersCall x.runs.later w d chip e chip' → RunsWhole s w c first e chip'
    runs_on e chip' y = record {
      runs = runs_more c d e chip chip' s x.runs y.makes y.call y.answer y.moves;
      order = by_one c.board.plan w w s.service.core x.runs.answers y.call y.makes.later.service.core as_first.0 as_first.1 (omega arith) x.order;
      beside = beside_on c d e x.beside y.beside;
      others = λ v apart. y.others v apart ∙ x.others v apart;
      keeps = keeps_on x.keeps y.keeps;
    }
      where
        -- the answer of the later core is one behind those so far
        as_first : (z : IsAnswer c.board.plan 4 y.call (after_answers s.service.core x.runs.answers) y.makes.later.service.core) × (z.next.worker ≡ w)
        as_first =
            subst (λ u. (z : IsAnswer c.board.plan 4 y.call u y.makes.later.service.core) × (z.next.worker ≡ w)) x.runs.core
            (subst (λ p. (z : IsAnswer p 4 y.call x.runs.later.service.core y.makes.later.service.core) × (z.next.worker ≡ w)) x.runs.leads.plan (y.answer, y.worker))

-- ---- the log fills up with answers

longer : (es fs : List (Call Rid)) (e : Call Rid) → fs ≡ es ++ e ∷ [] → length fs ≡ length es + 1
longer es fs e h = ap length h ∙ length-append es (e ∷ [])

pub fuller : (w : ℕ) (c : CoreState) (chip : ChipState) (s : LoggedService) (d : CoreState) (chip' : ChipState) → IsSessionOf c chip s → (y : AnswersCall s w c chip d chip') → size_beside d (length chip'.effects) ≡ size_beside c (length chip.effects) + 1
fuller w c chip s d chip' is y =
    let more : length chip'.effects ≡ length chip.effects + 1 = longer chip.effects chip'.effects y.call (sym y.makes.stands.effects ∙ ap (λ (t : LoggedService). t.effects) y.moves ∙ ap (λ l. l ++ y.call ∷ []) is.effects) in
    let taken : length d.log.taken ≡ length c.log.taken = ap (λ (h : History). length h.taken) y.beside.log in
    let marks : length d.log.marks ≡ length c.log.marks = ap (λ (h : History). length h.marks) y.beside.log in
    let listed : d.listed ≡ c.listed = y.beside.listed in
    omega (arith, more, taken, marks, listed)

-- ---- pops

pub pops_first : (c : CoreState) → PopsAlone c c
pops_first c = (c.tables, refl, λ chip s is. pops_none c chip s is)

pub pops_on : (c d : CoreState) → c.warm ≡ warm.Reconciled → PopsAlone c d → (e : CoreState) (t : TablesState) → PopsKeys d.tables t → e ≡ record d { tables = t } → PopsAlone c e
pops_on c d at (u, is_with, pops) e t keys same = (t, same ∙ ap (λ (z : CoreState). record z { tables = t }) is_with, λ chip s is. by chip s is (pops chip s is))
  where
    at_then : d.warm ≡ warm.Reconciled
    at_then = ap (λ (z : CoreState). z.warm) is_with ∙ at

    by : (chip : ChipState) (s : LoggedService) → IsSessionOf c chip s → PopsTo c s d chip → PopsTo c s e chip
    by chip s is x = let y = pop_told d chip x.later t x.leads.stands at_then keys in subst (λ z. PopsTo c s z chip) (sym same) (pops_more c d (record d { tables = t }) chip chip s x y.0 y.1 y.2)

pub pops_err : (c d : CoreState) (r : Result (Unit {0}) OutOfMemory) → IsErr r → PopsAlone c d → Pops c r d
pops_err c d (Err e) h x = x
pops_err c d (Ok u) h x = absurd (false≢true h)

-- ---- by the answer

pub did_by : (s : LoggedService) (w : ℕ) (c : CoreState) (chip : ChipState) (r : Step) (d : CoreState) (chip' : ChipState) → (r ≡ step.Faulted → ⊥) → (r ≡ step.LogFull → ⊥) → Answered true s w c chip (Ok r) d chip' → AnswersCall s w c chip d chip'
did_by s w c chip step.Did d chip' not_faulted not_full h = h
did_by s w c chip step.Faulted d chip' not_faulted not_full h = absurd (not_faulted refl)
did_by s w c chip step.LogFull d chip' not_faulted not_full h = absurd (not_full refl)
did_by s w c chip step.Idle d chip' not_faulted not_full h = absurd h
did_by s w c chip step.Suspect d chip' not_faulted not_full h = absurd h

module _ (s : LoggedService) (c : CoreState) (chip : ChipState) (d : CoreState) (chip' : ChipState) where
  pub out_err : (w : ℕ) (r : Result Ran OutOfMemory) → IsErr r → StopsShort (AreAnswersSoFar c.board.plan w (w + 1)) s c chip d chip' → RunsOut s w c chip r d chip'
  out_err w (Err e) h x = x
  out_err w (Ok b) h x = absurd (false≢true h)

  pub all_err : (r : Result Ran OutOfMemory) → IsErr r → StopsShort (AreAnswersSoFar c.board.plan 0 4) s c chip d chip' → RunsAll s c chip r d chip'
  all_err (Err e) h x = x
  all_err (Ok b) h x = absurd (false≢true h)

  pub settles_err : (r : Result Settled OutOfMemory) → IsErr r → StopsShort (SettlesSoFar c.board.plan c.sync.capacities) s c chip d chip' → Settles s c chip r d chip'
  settles_err (Err e) h x = x
  settles_err (Ok b) h x = absurd (false≢true h)

-- answers were given, in the order of the workers, and then more so far, or a stop
module _ (from top low to : ℕ) (s : LoggedService) (c : CoreState) (first : ChipState) (is : IsSessionOf c first s) (d : CoreState) (chip : ChipState) (x : RunsTo c s d chip) (order : AreByWorkers c.board.plan from top s.service.core x.answers) (least : from ≤ low) (few : top ≤ low + 1) (most : top ≤ to) (keeps : KeepsChip c first d chip) where
  same : d.log ≡ c.log
  same = log_same c d first chip s x.later is x.leads.stands x.log

  abbrev Then : SwitchState → SwitchState → List (Call Rid) → Type 0
  Then = AreAnswersSoFar d.board.plan low to

  abbrev So : SwitchState → SwitchState → List (Call Rid) → Type 0
  So = AreAnswersSoFar c.board.plan from to

  through : (u : SwitchState) (calls : List (Call Rid)) → Then x.later.service.core u calls → So s.service.core u (calls_in x.answers ++ calls)
  through u calls (es, run, last, said) = (
    x.answers ++ es,
    by_both c.board.plan from top low to s.service.core x.answers es least few most order (subst (λ z. AreByWorkers c.board.plan low to z es) x.core (subst (λ p. AreByWorkers p low to x.later.service.core es) x.leads.plan run)),
    last ∙ ap (λ z. after_answers z es) x.core ∙ sym (answered_both s.service.core x.answers es),
    ap (λ l. calls_in x.answers ++ l) said ∙ sym (map-append (λ (a : Call Rid × SwitchState). a.0) x.answers es),
  )

  pub runs_faulted : (c.tables.waiting ≡ [] → d.tables.waiting ≡ []) → (e : CoreState) (chip' : ChipState) → StopsFaulted Then x.later d chip e chip' → StopsFaulted So s c first e chip'
  runs_faulted popped e chip' h = faulted_more s x.later c d chip x.leads first is same keeps So Then (calls_in x.answers) x.effects through popped e chip' h

  pub runs_full : (e : CoreState) (chip' : ChipState) → StopsFull Then x.later d chip e chip' → StopsFull So s c first e chip'
  runs_full e chip' h = full_more s x.later c d chip x.leads first is same keeps So Then (calls_in x.answers) x.effects through e chip' h

  pub runs_short : (e : CoreState) (chip' : ChipState) → StopsShort Then x.later d chip e chip' → StopsShort So s c first e chip'
  runs_short e chip' h = short_more s x.later c d chip x.leads first is same keeps So Then (calls_in x.answers) x.effects through e chip' h

-- one worker more
module _ (w : ℕ) (s : LoggedService) (c : CoreState) (first : ChipState) (is : IsSessionOf c first s) (d : CoreState) (chip : ChipState) (all : RunsInOrder w s c d chip) (less : w < 4) (keeps : KeepsChip c first d chip) where
  abbrev WorkerSo : SwitchState → SwitchState → List (Call Rid) → Type 0
  WorkerSo = AreAnswersSoFar d.board.plan w (w + 1)

  abbrev UpSo : SwitchState → SwitchState → List (Call Rid) → Type 0
  UpSo = AreAnswersSoFar c.board.plan 0 (w + 1)

  abbrev FourSo : SwitchState → SwitchState → List (Call Rid) → Type 0
  FourSo = AreAnswersSoFar c.board.plan 0 4

  up_four : (u : SwitchState) (calls : List (Call Rid)) → UpSo s.service.core u calls → FourSo s.service.core u calls
  up_four u calls (es, run, last, said) = (es, by_wider c.board.plan 0 0 (w + 1) 4 s.service.core es (omega arith) (omega (arith, less)) run, last, said)

  pub all_short : (e : CoreState) (chip' : ChipState) → StopsShort WorkerSo all.runs.later d chip e chip' → StopsShort FourSo s c first e chip'
  all_short e chip' h = short_as FourSo UpSo s up_four c first e chip' (runs_short 0 w w (w + 1) s c first is d chip all.runs all.order (omega arith) (omega arith) (omega arith) keeps e chip' h)

  pub all_stops : (r : Ran) → (r ≡ ran.Whole → ⊥) → IsSameBeside c d → flown_at d.board w ≡ flown_at c.board w → (e : CoreState) (chip' : ChipState) → RunsOut all.runs.later w d chip (Ok r) e chip' → RunsAll s c first (Ok r) e chip'
  all_stops ran.Whole not beside still e chip' h = absurd (not refl)
  all_stops ran.Faulted not beside still e chip' h = (
    faulted_as FourSo UpSo s up_four c first e chip' (runs_faulted 0 w w (w + 1) s c first is d chip all.runs all.order (omega arith) (omega arith) (omega arith) keeps (λ none. ap (λ t. t.waiting) beside.tables ∙ none) e chip' h.0),
    (w, less, subst (λ o. IsSome o) still h.1),
  )
  all_stops ran.LogFull not beside still e chip' h = full_as FourSo UpSo s up_four c first e chip' (runs_full 0 w w (w + 1) s c first is d chip all.runs all.order (omega arith) (omega arith) (omega arith) keeps e chip' h)

-- it is run to its end
pub all_on : (w : ℕ) (s : LoggedService) (c d : CoreState) (chip : ChipState) (all : RunsInOrder w s c d chip) (e : CoreState) (chip' : ChipState) → RunsWhole all.runs.later w d chip e chip' → RunsInOrder (w + 1) s c e chip'
all_on w s c d chip all e chip' r = record {
  runs = runs_both c d e chip chip' s all.runs r.runs;
  order = by_both c.board.plan 0 w w (w + 1) s.service.core all.runs.answers r.runs.answers (omega arith) (omega arith) (omega arith) all.order
      (subst (λ z. AreByWorkers c.board.plan w (w + 1) z r.runs.answers) all.runs.core (subst (λ p. AreByWorkers p w (w + 1) all.runs.later.service.core r.runs.answers) all.runs.leads.plan r.order));
}

pub free_on : (w : ℕ) (b b' : BoardState) → ((v : ℕ) → v < w → flown_at b v ≡ None) → KeepsFlights w b b' → flown_at b' w ≡ None → (v : ℕ) → v < w + 1 → flown_at b' v ≡ None
free_on w b b' free others own v less = by (v == w) refl
  where
    by : (same : Bool) → (v == w) ≡ same → flown_at b' v ≡ None
    by true h = ap (flown_at b') (eqb-true v w h) ∙ own
    by false h = let apart : v ≡ w → ⊥ = λ e. false≢true (sym h ∙ eq-eqb v w e) in others v apart ∙ free v (omega (arith, less, apart))

-- a worker that has something under way had it from the first, or at once
pub flew : (w : ℕ) (c d : CoreState) → (d ≡ c) ⊎ IsSome (flown_at c.board w) → IsSome (flown_at d.board w) → IsSome (flown_at c.board w)
flew w c d (inl same) h = subst (λ (z : CoreState). IsSome (flown_at z.board w)) same h
flew w c d (inr had) h = had

pub still_on : (w : ℕ) (b0 b b' : BoardState) → ((v : ℕ) → w ≤ v → flown_at b v ≡ flown_at b0 v) → KeepsFlights w b b' → (v : ℕ) → w + 1 ≤ v → flown_at b' v ≡ flown_at b0 v
still_on w b0 b b' still others v more = others v (λ e. absurd (omega (arith, more, e))) ∙ still v (omega (arith, more))

-- nothing under way, and something
pub none_and_some : {X : Type 0} (o : Option X) → o ≡ None → IsSome o → ⊥
none_and_some None e h = false≢true h
none_and_some (Some x) e h = cc

-- ---- after all pops

pub rest_popped : (c d e : CoreState) → c.warm ≡ warm.Reconciled → IsSameBeside c d → ((v : ℕ) → v < 4 → flown_at d.board v ≡ None) → PopsAlone d e → e.tables.waiting ≡ [] → IsAtRest e
rest_popped c d e at beside free pops none = record {
  free = λ v less. ap (λ (z : CoreState). flown_at z.board v) pops.1 ∙ free v less;
  popped = none;
  warm = ap (λ (z : CoreState). z.warm) pops.1 ∙ beside.warm ∙ at;
}

pub short_popped : (s : LoggedService) (c : CoreState) (first : ChipState) (d e : CoreState) (chip : ChipState) → IsSessionOf c first s → c.warm ≡ warm.Reconciled → IsSameBeside c d → ((v : ℕ) → v < 4 → flown_at d.board v ≡ None) → RunsInOrder 4 s c d chip → KeepsChip c first d chip → PopsAlone d e → StopsShort (SettlesSoFar c.board.plan c.sync.capacities) s c first e chip
short_popped s c first d e chip is at beside free all keeps pops =
    let x = all.runs in
    let y = pops.2 chip x.later x.leads.stands in
    record {
      steps = leads_some c e chip s y.later (leads_more c d e chip chip s x.later y.later x.leads y.leads);
      then = y.later.service.core;
      calls = calls_in x.answers ++ [];
      so = BehindThem x.answers [] all.order (free_answered c d e chip chip s x y (beside.warm ∙ at) free) (pops_cut c d e chip chip s x y) refl;
      effects = sym x.leads.stands.effects ∙ x.effects ∙ ap (λ l. l ++ calls_in x.answers) is.effects ∙ ap (λ l. first.effects ++ l) (sym (append-nil (calls_in x.answers)));
      warm = ap (λ (z : CoreState). z.warm) pops.1 ∙ beside.warm ∙ at;
      log = ap (λ (z : CoreState). z.log) pops.1 ∙ beside.log;
      keeps = keeps_on keeps (keeps_alike d e chip chip refl (ap (λ (z : CoreState). z.log) pops.1) (ap (λ (z : CoreState). z.listed) pops.1) (ap (λ (z : CoreState). z.limit) pops.1));
    }

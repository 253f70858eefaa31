-- the walk of a worker over the keys to sync, up to the first that can begin
use Rattle.std.proofs.Common.{◌≡◌, ◌⊎◌, ◌∙◌, inl, inr, ℕ, true, false, [], is_some, Option, Some, None, Result, Ok, Err, Ordering, refl, sym, ap, subst}
use Rattle.std.specs.Map.{keys_of}
use Rattle.std.specs.Option.{IsSome}
use Rattle.std.specs.Ordering.{is_lt}
use Rattle.std.specs.Result.{IsErr}
use Rattle.std.specs.declared.cmp.Ordering.TheVariants.{Less, Equal, Greater}
use Rattle.std.proofs.lemmas.Bool.{false≢true}
use Rattle.std.proofs.lemmas.Option.{none-some}
use Rattle.swss_types.specs.declared.out_of_memory.OutOfMemory.{OutOfMemory}
use Rattle.table_schema.specs.Key.{key_cmp}
use Rattle.table_schema.specs.declared.key.Key.{Key}
use Rattle.sai_types.specs.Alike.{IsIn}
use Rattle.sai_types.specs.declared.body.Call.{Call}
use Rattle.sai_types.specs.declared.ids.Rid.{Rid}
use Rattle.sai_types.specs.ChipState.{ChipState}
use Rattle.switch_model.specs.declared.wait.Wait.{Wait}
use Rattle.switch_machine.specs.Events.{IsAnswer, IsBegin, IsDrop, SwitchState}
use Rattle.switch_machine.specs.Next.{AreHindered, Answering, Beginning, Dropping, IsIdle, MustWait, Popping}
use Rattle.switch_machine.specs.Reasons.{IsReason}
use Rattle.switch_machine.proofs.Hindered.{begins-free, drops-free}
use Rattle.restart_laws.specs.Logged.{IsLoggedStep, LoggedService}
use Rattle.restart_laws.proofs.Order.{not-both, not-self}
use Rattle.sync_tables.specs.Tables.{IsBehind, IsNextKey, IsToSync, PopsBatch, PopsKeys, PopsSome, TablesState}
use Rattle.sync_tables.specs.declared.tables.TheConstants.{BATCH}
use Rattle.flight_board.specs.Board.{BoardState, IsSameBoard, flown_at}
use Rattle.warm_state.specs.declared.warm.Warm.TheVariants as warm
use Rattle.session_laws.specs.Core.{CoreState}
use Rattle.session_laws.specs.Events.{MakesOne, MakesSome}
use Rattle.session_laws.specs.Standing.{IsSessionOf}
use Rattle.session_laws.proofs.ByFirst.{none_stay}
use Rattle.session_laws.proofs.Marking.{popped}
use Rattle.session_laws.proofs.Popping.{pop_told}
use Rattle.session_laws.proofs.Seeing.{free_worker_rests, is_idle, same_keys}
use Rattle.orch_core.specs.Outcomes.{Answered, BeginsOrDrops, BeginsTo, DropsTo, IsInSession, IsPopNext, IsSameCore, StaysInSession, StepsTo, Unbegun, Uncalled}
use Rattle.orch_core.specs.declared.answer.Step.{Step}
use Rattle.orch_core.specs.declared.answer.Step.TheVariants as step
use Rattle.orch_core.proofs.Chips.{keeps_alike}

-- ---- orders

behind_by : (k q : Key) (o : Ordering) → key_cmp k q ≡ o → (key_cmp k q ≡ Less) ⊎ (key_cmp k q ≡ Less → ⊥)
behind_by k q Less e = inl e
behind_by k q Equal e = inr (λ h. false≢true (ap is_lt (sym e ∙ h)))
behind_by k q Greater e = inr (λ h. false≢true (ap is_lt (sym e ∙ h)))

pub behind_split : (after : Option Key) (q : Key) → IsBehind after q ⊎ (IsBehind after q → ⊥)
behind_split None q = inl tt
behind_split (Some k) q = behind_by k q (key_cmp k q) refl

-- ---- the same core

pub same_itself : (c : CoreState) → IsSameCore c c
same_itself c = (c.board, record { plan = refl; names = refl; room = refl; flights = refl; rows = λ q. refl }, refl)

same_board : (a b d : BoardState) → IsSameBoard a b → IsSameBoard b d → IsSameBoard a d
same_board a b d x y = record { plan = y.plan ∙ x.plan; names = y.names ∙ x.names; room = y.room ∙ x.room; flights = y.flights ∙ x.flights; rows = λ q. y.rows q ∙ x.rows q }

pub same_on : (c c' c'' : CoreState) → IsSameCore c c' → IsSameCore c' c'' → IsSameCore c c''
same_on c c' c'' (b, x, e) (d, y, f) = (d, same_board c.board b d x (subst (λ (z : CoreState). IsSameBoard z.board d) e y), f ∙ ap (λ (z : CoreState). record z { board = d }) e)

plan_same : (c c' : CoreState) → IsSameCore c c' → c'.board.plan ≡ c.board.plan
plan_same c c' same = ap (λ (z : CoreState). z.board.plan) same.2 ∙ same.1.plan

capacities_same : (c c' : CoreState) → IsSameCore c c' → c'.sync.capacities ≡ c.sync.capacities
capacities_same c c' same = ap (λ (z : CoreState). z.sync.capacities) same.2

limit_same : (c c' : CoreState) → IsSameCore c c' → c'.limit ≡ c.limit
limit_same c c' same = ap (λ (z : CoreState). z.limit) same.2

abbrev makes_same : (c c' d : CoreState) (chip : ChipState) (s : LoggedService) → IsSameCore c c' → MakesOne c' s d chip → MakesOne c s d chip
makes_same c c' d chip s same m = record {
  later = m.later;
  makes = subst (λ p. IsLoggedStep p 4 c.sync.capacities s m.later) (plan_same c c' same) (subst (λ l. IsLoggedStep c'.board.plan 4 l s m.later) (capacities_same c c' same) m.makes);
  stands = m.stands;
  plan = m.plan ∙ plan_same c c' same;
  capacities = m.capacities ∙ capacities_same c c' same;
  limit = m.limit ∙ limit_same c c' same;
}

-- what is said of the plan and the capacities is said of the same core
pub of_same : (P : CoreState → Type 0) (c c' : CoreState) → ((b : BoardState) → b.plan ≡ c.board.plan → P (record c { board = b }) → P c) → IsSameCore c c' → P c' → P c
of_same P c c' on (b, x, e) h = on b x.plan (subst P e h)

-- ---- the walk

-- the walk came to this key: the core is the same, and each key that is not behind it has a reason to wait
abbrev pub IsWalkedTo : CoreState → Option Key → CoreState → Type 0
IsWalkedTo c after c' = IsSameCore c c' × ((s : LoggedService) (chip : ChipState) → IsSessionOf c chip s → IsSessionOf c' chip s × ((q : Key) → IsToSync c.tables q → (IsBehind after q → ⊥) → MustWait c.board.plan 4 c.sync.capacities s.service.core q))

pub walk_first : (c : CoreState) → IsWalkedTo c None c
walk_first c = (same_itself c, λ s chip is. (is, λ q i no. absurd (no tt)))

reason_same : (c c' : CoreState) (s : LoggedService) (k : Key) (r : Wait) → IsSameCore c c' → IsReason c'.board.plan 4 c'.sync.capacities s.service.core k r → IsReason c.board.plan 4 c.sync.capacities s.service.core k r
reason_same c c' s k r same h = of_same (λ z. IsReason z.board.plan 4 z.sync.capacities s.service.core k r) c c' (λ b e x. subst (λ p. IsReason p 4 c.sync.capacities s.service.core k r) e x) same h

module _ (c c' : CoreState) (after : Option Key) (walked : IsWalkedTo c after c') (k : Key) (next : IsNextKey after (keys_of c'.tables.ops) k) where
  to_sync_same : (q : Key) → IsToSync c.tables q → IsToSync c'.tables q
  to_sync_same q i = subst (λ (z : CoreState). IsToSync z.tables q) (sym walked.0.2) i

  -- a key behind the one before is this or a later one
  first : (q : Key) → IsToSync c.tables q → IsBehind after q → (q ≡ k) ⊎ (key_cmp k q ≡ Less)
  first q i behind = next.first q (to_sync_same q i) behind

  pub walk_on : (c'' : CoreState) → ((chip : ChipState) × IsInSession c chip) → ((s : LoggedService) (chip : ChipState) → IsSessionOf c' chip s → IsSameCore c' c'' × IsSessionOf c'' chip s × ((r : Wait) × IsReason c'.board.plan 4 c'.sync.capacities s.service.core k r)) → IsWalkedTo c (Some k) c''
  walk_on c'' (chip0, (s0, is0)) tries = (same_on c c' c'' walked.0 (tries s0 chip0 (walked.1 s0 chip0 is0).0).0, λ s chip is. let z = walked.1 s chip is in let t = tries s chip z.0 in (t.1, λ q i not_behind. by s (t.2.0, reason_same c c' s k t.2.0 walked.0 t.2.1) q (z.1 q i) i not_behind (behind_split after q)))
    where
      by : (s : LoggedService) → MustWait c.board.plan 4 c.sync.capacities s.service.core k → (q : Key) (old : (IsBehind after q → ⊥) → MustWait c.board.plan 4 c.sync.capacities s.service.core q) → IsToSync c.tables q → (key_cmp k q ≡ Less → ⊥) → IsBehind after q ⊎ (IsBehind after q → ⊥) → MustWait c.board.plan 4 c.sync.capacities s.service.core q
      by s own q old i apart (inr before) = old before
      by s own q old i apart (inl behind) = elim (first q i behind) [
        | inl same ↦ subst (MustWait c.board.plan 4 c.sync.capacities s.service.core) (sym same) own
        | inr less ↦ absurd (apart less)
      ]

  -- each key before this one has a reason to wait
  hindered : (s : LoggedService) (chip : ChipState) → IsSessionOf c chip s → AreHindered c.board.plan 4 c.sync.capacities s.service.core k
  hindered s chip is q i less = let j = same_keys c chip s is q i in (walked.1 s chip is).1 q j (λ behind. elim (first q j behind) [ inl same ↦ not-self q k less same | inr back ↦ not-both q k less back ])

  module _ (w : ℕ) (at : c.warm ≡ warm.Reconciled) (none : flown_at c.board w ≡ None) (empty : c.tables.waiting ≡ []) (s : LoggedService) (chip : ChipState) (is : IsSessionOf c chip s) (d : CoreState) where
    pub walk_drops : DropsTo s k c' d chip → StepsTo s w c chip (Ok step.Did) d chip
    walk_drops x =
        let makes = makes_same c c' d chip s walked.0 x.makes in
        let z : (z : IsDrop c.board.plan s.service.core makes.later.service.core) × (z.key ≡ k) = of_same (λ y. (z : IsDrop y.board.plan s.service.core x.makes.later.service.core) × (z.key ≡ k)) c c' (λ b e h. subst (λ p. (z : IsDrop p s.service.core x.makes.later.service.core) × (z.key ≡ k)) e h) walked.0 (x.drop, x.key) in
        record {
          makes = makes;
          call = None;
          next = Dropping makes.later.service.core z.0 (free_worker_rests c chip s is at w none) (popped c chip s is at empty) (subst (AreHindered c.board.plan 4 c.sync.capacities s.service.core) (sym z.1) (hindered s chip is));
          applies = λ idle. let wait = idle.hindered z.0.key z.0.to_sync.there in drops-free c.board.plan is.plan 4 c.sync.capacities s.service.core (is.working at).stands.safe makes.later.service.core z.0 wait.0 wait.1;
          moves = x.moves;
          keeps = keeps_alike c d chip chip refl (ap (λ (z : CoreState). z.log) x.is ∙ ap (λ (z : CoreState). z.log) walked.0.2) (ap (λ (z : CoreState). z.listed) x.is ∙ ap (λ (z : CoreState). z.listed) walked.0.2) (ap (λ (z : CoreState). z.limit) x.is ∙ ap (λ (z : CoreState). z.limit) walked.0.2);
          room = λ some full. false≢true some;
          called = refl;
          batch = λ next. absurd (next.1 empty);
        }

    pub walk_begins : BeginsTo s w k c' d chip → StepsTo s w c chip (Ok step.Did) d chip
    walk_begins x =
        let makes = makes_same c c' d chip s walked.0 x.makes in
        let z : (z : IsBegin c.board.plan 4 c.sync.capacities s.service.core makes.later.service.core) × (z.worker ≡ w) × (z.flight.key ≡ k) = of_same (λ y. (z : IsBegin y.board.plan 4 y.sync.capacities s.service.core x.makes.later.service.core) × (z.worker ≡ w) × (z.flight.key ≡ k)) c c' (λ b e h. subst (λ p. (z : IsBegin p 4 c.sync.capacities s.service.core x.makes.later.service.core) × (z.worker ≡ w) × (z.flight.key ≡ k)) e h) walked.0 (x.begin, x.worker, x.key) in
        record {
          makes = makes;
          call = None;
          next = Beginning makes.later.service.core z.0 z.1 (popped c chip s is at empty) (subst (AreHindered c.board.plan 4 c.sync.capacities s.service.core) (sym z.2) (hindered s chip is));
          applies = λ idle. let wait = idle.hindered z.0.flight.key z.0.to_sync.there in begins-free c.board.plan is.plan 4 c.sync.capacities s.service.core makes.later.service.core z.0 wait.0 wait.1;
          moves = x.moves;
          keeps = keeps_alike c d chip chip refl (ap (λ (z : CoreState). z.log) x.is ∙ ap (λ (z : CoreState). z.log) walked.0.2) (ap (λ (z : CoreState). z.listed) x.is ∙ ap (λ (z : CoreState). z.listed) walked.0.2) (ap (λ (z : CoreState). z.limit) x.is ∙ ap (λ (z : CoreState). z.limit) walked.0.2);
          room = λ some full. false≢true some;
          called = refl;
          batch = λ next. absurd (next.1 empty);
        }

-- no key is left: the worker is idle
pub walk_idle : (c c' : CoreState) (after : Option Key) → IsWalkedTo c after c' → ((q : Key) → IsIn q (keys_of c'.tables.ops) → IsBehind after q → ⊥) → (w : ℕ) → c.warm ≡ warm.Reconciled → flown_at c.board w ≡ None → c.tables.waiting ≡ [] → (s : LoggedService) (chip : ChipState) → IsSessionOf c chip s → StepsTo s w c chip (Ok step.Idle) c' chip
walk_idle c c' after walked last w at none empty s chip is =
    let z = walked.1 s chip is in
    (refl, walked.0, z.0, is_idle c chip s is at w none empty (λ q i. z.1 q i (last q (subst (λ (y : CoreState). IsToSync y.tables q) (sym walked.0.2) i))))

-- the session stays where memory was refused
pub some_same : (c d : CoreState) (s : LoggedService) (chip : ChipState) → IsSameCore c d → IsSessionOf d chip s → MakesSome c s d chip
some_same c d s chip same is = record { steps = []; are = tt; few = none_stay 0 s; stands = is; plan = plan_same c d same; capacities = capacities_same c d same; limit = limit_same c d same }

pub warm_same : (c d : CoreState) → IsSameCore c d → d.warm ≡ c.warm
warm_same c d same = ap (λ (z : CoreState). z.warm) same.2

-- it stays where memory was refused
stays_same : (c d : CoreState) (s : LoggedService) (chip : ChipState) → IsSameCore c d → IsSessionOf d chip s → StaysInSession s c d chip
stays_same c d s chip same is = record { stands = is; plan = plan_same c d same; capacities = capacities_same c d same; limit = limit_same c d same; warm = warm_same c d same; log = ap (λ (z : CoreState). z.log) same.2 }

pub walk_err : (c c' d : CoreState) (after : Option Key) (e : OutOfMemory) → IsWalkedTo c after c' → IsSameCore c' d → (w : ℕ) → flown_at c.board w ≡ None → (s : LoggedService) (chip : ChipState) → IsSessionOf d chip s → StepsTo s w c chip (Err e) d chip
walk_err c c' d after e walked same w none s chip is = Unbegun none refl (stays_same c d s chip (same_on c c' d walked.0 same) is)

-- ---- by the answer

module _ (c c' : CoreState) (after : Option Key) (walked : IsWalkedTo c after c') (k : Key) (next : IsNextKey after (keys_of c'.tables.ops) k) (w : ℕ) (at : c.warm ≡ warm.Reconciled) (none : flown_at c.board w ≡ None) (empty : c.tables.waiting ≡ []) (s : LoggedService) (chip : ChipState) (is : IsSessionOf c chip s) (d : CoreState) where
  pub walk_done : BeginsOrDrops s w k c' chip (Ok true) d → StepsTo s w c chip (Ok step.Did) d chip
  walk_done (inl x) = walk_drops c c' after walked k next w at none empty s chip is d x
  walk_done (inr x) = walk_begins c c' after walked k next w at none empty s chip is d x

pub steps_err : (s : LoggedService) (w : ℕ) (c : CoreState) (chip : ChipState) (r : Result Step OutOfMemory) (d : CoreState) → IsErr r → ((e : OutOfMemory) → StepsTo s w c chip (Err e) d chip) → StepsTo s w c chip r d chip
steps_err s w c chip (Err e) d h x = x e
steps_err s w c chip (Ok r) d h x = absurd (false≢true h)

-- ---- the other steps

module _ (s : LoggedService) (w : ℕ) (c : CoreState) (chip : ChipState) (is : IsSessionOf c chip s) (at : c.warm ≡ warm.Reconciled) (flying : IsSome (flown_at c.board w)) where
  -- the worker makes a call, and is not idle
  call_applies : (call : Call Rid) (t : SwitchState) (x : IsAnswer c.board.plan 4 call s.service.core t) → x.next.worker ≡ w → IsIdle c.board.plan 4 c.sync.capacities w s.service.core → ⊥
  call_applies call t x same idle = none-some x.next.flight (sym idle.none ∙ subst (λ v. s.service.core.machine.board.flights v ≡ Some x.next.flight) same x.next.flying)

  no_pop_next : IsPopNext c w → ⊥
  no_pop_next next = false≢true (ap is_some (sym next.0) ∙ flying)

  pub answering_steps : (r : Result Step OutOfMemory) (d : CoreState) (chip' : ChipState) → Answered false s w c chip r d chip' → StepsTo s w c chip r d chip'
  answering_steps (Ok step.Did) d chip' x = record {
    makes = x.makes;
    call = Some x.call;
    next = Answering x.call x.makes.later.service.core x.answer x.worker;
    applies = call_applies x.call x.makes.later.service.core x.answer x.worker;
    moves = x.moves;
    keeps = x.keeps;
    room = λ some. x.room;
    called = x.called;
    batch = λ next. absurd (no_pop_next next);
  }
  answering_steps (Ok step.Faulted) d chip' x = (x, flying)
  answering_steps (Ok step.LogFull) d chip' x = (x.0, x.1, x.2, flying)
  answering_steps (Ok step.Idle) d chip' x = absurd x
  answering_steps (Ok step.Suspect) d chip' x = absurd x
  answering_steps (Err e) d chip' x = Uncalled flying x.0 x.1 x.2

module _ (s : LoggedService) (w : ℕ) (c : CoreState) (chip : ChipState) (is : IsSessionOf c chip s) (at : c.warm ≡ warm.Reconciled) (next : IsPopNext c w) (t : TablesState) (keys : PopsKeys c.tables t) (d : CoreState) (same : d ≡ record c { tables = t }) where
  pub popping_steps : (c.tables.waiting ≡ []) ⊎ PopsSome c.tables d.tables → PopsBatch BATCH c.tables d.tables → StepsTo s w c chip (Ok step.Did) d chip
  popping_steps (inl empty) batch = absurd (next.1 empty)
  popping_steps (inr popped) batch =
      let told = pop_told c chip s t is at keys in
      let one = told.3 (subst (λ (z : CoreState). PopsSome c.tables z.tables) same popped) in
      subst (λ z. StepsTo s w c chip (Ok step.Did) z chip) (sym same) (record {
        makes = told.0;
        call = None;
        next = Popping told.0.later.service.core one.0 (free_worker_rests c chip s is at w next.0) told.1 one.1 one.2;
        applies = λ idle. one.1 (idle.popped one.0);
        moves = told.2;
        keeps = keeps_alike c (record c { tables = t }) chip chip refl refl refl refl;
        room = λ some full. false≢true some;
        called = refl;
        batch = λ next. subst (λ (z : CoreState). PopsBatch BATCH c.tables z.tables) same batch;
      })

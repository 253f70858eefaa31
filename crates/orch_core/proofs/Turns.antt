-- turns, key by key
use Rattle.std.proofs.Common.{◌≡◌, ◌+◌, ◌<◌, ◌∷◌, ◌++◌, ◌∙◌, inl, inr, ℕ, List, [], length, Option, None, Some, option_map, zero, suc, Result, Ok, Err, refl, sym, ap, subst, arith}
use Rattle.std.specs.Map.{keys_of}
use Rattle.std.specs.Result.{IsErr}
use Rattle.std.proofs.lemmas.Bool.{false≢true}
use Rattle.std.proofs.lemmas.List.{append-nil, append_assoc}
use Rattle.swss_types.specs.declared.out_of_memory.OutOfMemory.{OutOfMemory}
use Rattle.table_schema.specs.Plan.{Ports}
use Rattle.table_schema.specs.declared.key.Key.{Key}
use Rattle.sai_types.specs.declared.body.Call.{Call}
use Rattle.sai_types.specs.declared.ids.Rid.{Rid}
use Rattle.sai_types.specs.Alike.{IsIn}
use Rattle.sai_types.specs.ChipState.{ChipState}
use Rattle.consumer_table.specs.Ops.{AreOpsInOrder, Ops, first_in, keys_behind}
use Rattle.retry_list.specs.Reasons.{with_reason}
use Rattle.switch_model.specs.declared.wait.Wait.{Wait}
use Rattle.switch_machine.specs.Events.{SwitchState}
use Rattle.switch_machine.specs.Reasons.{IsReason}
use Rattle.machine_laws.specs.Settling.{IsMachineTurnSoFar, RunsSoFar}
use Rattle.restart_laws.specs.Logged.{LoggedService}
use Rattle.sync_tables.specs.Tables.{IsToSync}
use Rattle.flight_board.specs.Board.{FlightState, flight_on, flown_at}
use Rattle.warm_state.specs.declared.warm.Warm.TheVariants as warm
use Rattle.mark_lists.proofs.Listings.{in_middle}
use Rattle.session_laws.specs.Core.{CoreState}
use Rattle.session_laws.specs.Standing.{IsSessionOf}
use Rattle.session_laws.proofs.Beside.{stands_with}
use Rattle.session_laws.proofs.ByFirst.{begin_stays}
use Rattle.session_laws.proofs.Joining.{no_step}
use Rattle.session_laws.specs.Leading.{LeadsTo}
use Rattle.session_laws.specs.Turning.{IsAtRest, IsTurned, IsTurning}
use Rattle.session_laws.proofs.Settling.Leading.{leads_one, plan_led_back}
use Rattle.session_laws.proofs.Settling.Turning.{turn_begins, turn_drops, turn_runs, turn_waits}
use Rattle.session_laws.proofs.Settling.Walking.{first_next, in_key_order, walk_goes, walk_stays}
use Rattle.orch_core.specs.Outcomes.{KeepsChip, BeginsTo, DropsTo, IsSameCore, key_left}
use Rattle.orch_core.specs.Settled.{AreAnswersSoFar, AreByWorkers, AreTurnsSoFar, Begun, Brings, BringsKey, Dropped, IsKeySoFar, IsTurnSoFar, MakesTurn, MakesTurns, RunsOut, RunsWhole, StopsShort, Waits, StopsFaulted, StopsFull}
use Rattle.orch_core.specs.declared.answer.Ran.{Ran}
use Rattle.orch_core.specs.declared.answer.Ran.TheVariants as ran
use Rattle.orch_core.specs.declared.answer.Turned.{Turned}
use Rattle.orch_core.proofs.Chips.{keeps_alike, keeps_itself, keeps_on}
use Rattle.orch_core.proofs.Runs.{by_are, faulted_more, full_more, log_same, short_more}
use Rattle.orch_core.proofs.Walks.{some_same, warm_same}

-- ---- at rest

-- a core with the same board, tables but for keys to sync, and warm state
pub rest_left : (c : CoreState) (k : Key) → IsAtRest c → IsAtRest (key_left c k)
rest_left c k rest = record { free = rest.free; popped = rest.popped; warm = rest.warm }

pub rest_same : (c d : CoreState) → IsSameCore c d → IsAtRest c → IsAtRest d
rest_same c d (b, x, e) rest = subst IsAtRest (sym e) (record { free = λ v less. flown_same v ∙ rest.free v less; popped = rest.popped; warm = rest.warm })
  where
    flown_same : (v : ℕ) → flown_at b v ≡ flown_at c.board v
    flown_same v = ap (λ l. option_map (λ (f : FlightState). f.flown) (flight_on l v)) x.flights

-- ---- a turn so far: the keys before these were tried

abbrev pub IsTurnAt : CoreState → ChipState → List Key → CoreState → ChipState → Type 0
IsTurnAt c chip rest d chip' = (s : LoggedService) → IsSessionOf c chip s → (left : List Key) × IsTurning (keys_of c.tables.ops) c s left rest d chip' × KeepsChip c chip d chip'

pub turn_first : (c : CoreState) (chip : ChipState) → IsAtRest c → (keys : List Key) → keys ≡ keys_of c.tables.ops → IsTurnAt c chip keys c chip
turn_first c chip rest keys are s is = ([], subst (λ l. IsTurning (keys_of c.tables.ops) c s [] l c chip) (sym are) (turn_begins c chip s is rest), keeps_itself c chip)

-- the next key is one to sync
pub turn_key : (keys left more : List Key) (k : Key) (c d : CoreState) (chip : ChipState) (s : LoggedService) → IsTurning keys c s left (k ∷ more) d chip → IsToSync d.tables k
turn_key keys left more k c d chip s x = subst (IsIn k) (sym x.ops) (in_middle left more k)

-- the next key, and those behind it
pub leads_with_key : (rest : List Key) (after : Option Key) (keys : List Key) (k : Key) → keys_behind after keys ≡ rest → first_in (keys_behind after keys) ≡ Some k → (more : List Key) × (rest ≡ k ∷ more)
leads_with_key rest after keys k behind first = first_next rest k (ap first_in (sym behind) ∙ first)

one_longer : (k : Key) (ks : List Key) → length (k ∷ ks) ≡ length ks + 1
one_longer k ks = omega arith

-- the keys behind this one are the last of all
abbrev pub AreBehind : Option Key → List Key → Type 0
AreBehind after keys = (front : List Key) × (rest : List Key) × (keys ≡ front ++ rest) × (keys_behind after keys ≡ rest)

abbrev pub behind_first : (keys : List Key) → AreBehind None keys
behind_first keys = ([], keys, refl, refl)

module _ (ops : Ops) (after : Option Key) (k : Key) (order : AreOpsInOrder ops) (are : AreBehind after (keys_of ops)) (first : first_in (keys_behind after (keys_of ops)) ≡ Some k) where
  pub more_of : (more : List Key) × (are.1 ≡ k ∷ more)
  more_of = leads_with_key are.1 after (keys_of ops) k are.3 first

  pub split_of : keys_of ops ≡ are.0 ++ (k ∷ more_of.0)
  split_of = are.2 ∙ ap (λ l. are.0 ++ l) more_of.1

  abbrev pub behind_on : AreBehind (Some k) (keys_of ops)
  behind_on = (are.0 ++ k ∷ [], more_of.0, split_of ∙ sym (append_assoc are.0 (k ∷ []) more_of.0), walk_stays ops are.0 more_of.0 k order split_of)

  pub behind_fewer : length (keys_behind (Some k) (keys_of ops)) < length (keys_behind after (keys_of ops))
  behind_fewer =
      let now : length (keys_behind (Some k) (keys_of ops)) ≡ length more_of.0 = ap length (walk_stays ops are.0 more_of.0 k order split_of) in
      let before : length (keys_behind after (keys_of ops)) ≡ length more_of.0 + 1 = ap length (are.3 ∙ more_of.1) ∙ one_longer k more_of.0 in
      omega (arith, now, before)

module _ (keys left more : List Key) (k : Key) (c d : CoreState) (chip : ChipState) (s : LoggedService) (x : IsTurning keys c s left (k ∷ more) d chip) (order : AreOpsInOrder d.tables.ops) where
  abbrev IsNext : CoreState → ChipState → Type 0
  IsNext e chip' = (l : List Key) × IsTurning keys c s l more e chip'

  goes : keys_of (key_left d k).tables.ops ≡ left ++ more
  goes = (walk_goes d.tables.ops left more k order x.ops).0

  dropped : (e : CoreState) (chip' : ChipState) → chip' ≡ chip → DropsTo x.later k d e chip → IsNext e chip'
  dropped e chip' same y =
      let rest : IsAtRest e = subst IsAtRest (sym y.is) (rest_left d k x.at_rest) in
      subst (IsNext e) (sym same) (
        left,
        turn_drops keys left more k c d chip s x e y.makes y.drop y.key y.moves rest (ap (λ (z : CoreState). keys_of z.tables.ops) y.is ∙ goes),
      )

  begun : (mid : CoreState) (y : BeginsTo x.later 0 k d mid chip) (e : CoreState) (chip' : ChipState) → RunsWhole y.makes.later 0 mid chip e chip' → flown_at e.board 0 ≡ None → IsNext e chip'
  begun mid y e chip' r none =
      let rest : IsAtRest e = record {
        free = free;
        popped = ap (λ t. t.waiting) r.beside.tables ∙ ap (λ (z : CoreState). z.tables.waiting) y.is ∙ x.at_rest.popped;
        warm = r.beside.warm ∙ ap (λ (z : CoreState). z.warm) y.is ∙ x.at_rest.warm;
      } in
      let ops : e.tables ≡ (key_left d k).tables = r.beside.tables ∙ ap (λ (z : CoreState). z.tables) y.is in (
        left,
        turn_runs keys left more k c d chip s x mid e chip' y.makes y.begin y.key y.worker y.moves r.runs rest (ap (λ t. keys_of t.ops) ops ∙ goes),
      )
    where
      free : (v : ℕ) → v < 4 → flown_at e.board v ≡ None
      free zero less = none
      free (suc v) less = r.others (suc v) (λ h. cc) ∙ ap (λ (z : CoreState). flown_at z.board (suc v)) y.is ∙ y.others (suc v) (λ h. cc) ∙ x.at_rest.free (suc v) less

  waited : (mid : CoreState) (r : Wait) → IsSameCore d mid → IsSessionOf mid chip x.later → IsReason d.board.plan 4 d.sync.capacities x.later.service.core k r → (e : CoreState) (chip' : ChipState) → chip' ≡ chip → e ≡ record mid { waiting = with_reason mid.waiting k r } → IsNext e chip'
  waited mid r same is reason e chip' alike on =
      let is_same : mid ≡ record d { board = same.0 } = same.2 in
      let rest : IsAtRest mid = rest_same d mid same x.at_rest in
      let is_with : IsSessionOf e chip x.later = subst (λ z. IsSessionOf z chip x.later) (sym on) (stands_with mid chip x.later (with_reason mid.waiting k r) is) in
      let rest_with : IsAtRest e = subst IsAtRest (sym on) (record { free = rest.free; popped = rest.popped; warm = rest.warm }) in
      let ops : e.tables.ops ≡ d.tables.ops = ap (λ (z : CoreState). z.tables.ops) on ∙ ap (λ (z : CoreState). z.tables.ops) is_same in
      let plan : e.board.plan ≡ d.board.plan = ap (λ (z : CoreState). z.board.plan) on ∙ ap (λ (z : CoreState). z.board.plan) is_same ∙ same.1.plan in
      let limit : e.limit ≡ d.limit = ap (λ (z : CoreState). z.limit) on ∙ ap (λ (z : CoreState). z.limit) is_same in
      let capacities : e.sync.capacities ≡ d.sync.capacities = ap (λ (z : CoreState). z.sync.capacities) on ∙ ap (λ (z : CoreState). z.sync.capacities) is_same in
      let waiting : e.waiting ≡ with_reason d.waiting k r = ap (λ (z : CoreState). z.waiting) on ∙ ap (λ (z : CoreState). with_reason z.waiting k r) is_same in
      subst (IsNext e) (sym alike) (
        left ++ k ∷ [],
        turn_waits keys left more k c d chip s x r reason e is_with plan capacities limit rest_with ops waiting,
      )

  pub turn_on : (e : CoreState) (chip' : ChipState) → BringsKey x.later k d e chip chip' → IsNext e chip'
  turn_on e chip' (Dropped same y) = dropped e chip' same y
  turn_on e chip' (Begun mid y runs none) = begun mid y e chip' runs none
  turn_on e chip' (Waits mid r alike same is reason on) = waited mid r same is reason e chip' alike on

-- what stays of the chip where an operation begins, and where a key is brought
begins_keeps : (s : LoggedService) (k : Key) (c mid : CoreState) (chip : ChipState) → BeginsTo s 0 k c mid chip → KeepsChip c chip mid chip
begins_keeps s k c mid chip x = keeps_alike c mid chip chip refl (ap (λ (z : CoreState). z.log) x.is) (ap (λ (z : CoreState). z.listed) x.is) (ap (λ (z : CoreState). z.limit) x.is)

brings_keeps : (s : LoggedService) (k : Key) (c d : CoreState) (chip chip' : ChipState) → BringsKey s k c d chip chip' → KeepsChip c chip d chip'
brings_keeps s k c d chip chip' (Dropped same y) = keeps_alike c d chip chip' same (ap (λ (z : CoreState). z.log) y.is) (ap (λ (z : CoreState). z.listed) y.is) (ap (λ (z : CoreState). z.limit) y.is)
brings_keeps s k c d chip chip' (Begun mid y runs none) = keeps_on (begins_keeps s k c mid chip y) runs.keeps
brings_keeps s k c d chip chip' (Waits mid r same alike is reason on) =
    keeps_alike c d chip chip' same (ap (λ (z : CoreState). z.log) on ∙ ap (λ (z : CoreState). z.log) alike.2) (ap (λ (z : CoreState). z.listed) on ∙ ap (λ (z : CoreState). z.listed) alike.2) (ap (λ (z : CoreState). z.limit) on ∙ ap (λ (z : CoreState). z.limit) alike.2)

-- the next key was brought, or waits
pub turn_next : (c : CoreState) (first : ChipState) (k : Key) (more rest : List Key) (d : CoreState) (chip : ChipState) → rest ≡ k ∷ more → AreOpsInOrder d.tables.ops → IsTurnAt c first rest d chip → (e : CoreState) (chip' : ChipState) → ((s : LoggedService) → IsSessionOf d chip s → BringsKey s k d e chip chip') → IsTurnAt c first more e chip'
turn_next c first k more rest d chip split order turning e chip' brings s is =
    let x = subst (λ l. (left : List Key) × IsTurning (keys_of c.tables.ops) c s left l d chip × KeepsChip c first d chip) split (turning s is) in
    let b = brings x.1.later x.1.leads.stands in
    let z = turn_on (keys_of c.tables.ops) x.0 more k c d chip s x.1 order e chip' b in
    (z.0, z.1, keeps_on x.2 (brings_keeps x.1.later k d e chip chip' b))

-- ---- by the answer

module _ (s : LoggedService) (c : CoreState) (chip : ChipState) (d : CoreState) (chip' : ChipState) where
  pub turn_err : (r : Result Ran OutOfMemory) → IsErr r → StopsShort (IsTurnSoFar c.board.plan c.sync.capacities (keys_of c.tables.ops)) s c chip d chip' → MakesTurn s c chip r d chip'
  turn_err (Err e) h x = x
  turn_err (Ok b) h x = absurd (false≢true h)

  pub turns_err : (r : Result Turned OutOfMemory) → IsErr r → StopsShort (AreTurnsSoFar c.board.plan c.sync.capacities (keys_of c.tables.ops)) s c chip d chip' → MakesTurns s c chip r d chip'
  turns_err (Err e) h x = x
  turns_err (Ok b) h x = absurd (false≢true h)

-- a key that stops the turn
module _ (s : LoggedService) (c : CoreState) (first : ChipState) (is : IsSessionOf c first s) (left more : List Key) (k : Key) (d : CoreState) (chip : ChipState) (x : IsTurning (keys_of c.tables.ops) c s left (k ∷ more) d chip) (keeps : KeepsChip c first d chip) where
  same : d.log ≡ c.log
  same = log_same c d first chip s x.later is x.leads.stands x.log

  abbrev KeySo : SwitchState → SwitchState → List (Call Rid) → Type 0
  KeySo = IsKeySoFar d.board.plan d.sync.capacities k

  abbrev TurnSo : SwitchState → SwitchState → List (Call Rid) → Type 0
  TurnSo = IsTurnSoFar c.board.plan c.sync.capacities (keys_of c.tables.ops)

  through : (u : SwitchState) (calls : List (Call Rid)) → KeySo x.later.service.core u calls → TurnSo s.service.core u (x.calls ++ calls)
  through u calls (inl h) = x.cut u calls (inl h)
  through u calls (inr runs) = x.cut u calls (inr (inl (plan_led_back (λ p l. RunsSoFar p 4 l k x.later.service.core u calls) x.leads runs)))

  pub turn_stops : (r : Ran) → (r ≡ ran.Whole → ⊥) → (e : CoreState) (chip' : ChipState) → Brings x.later k d chip (Ok r) e chip' → MakesTurn s c first (Ok r) e chip'
  turn_stops ran.Whole not e chip' h = absurd (not refl)
  turn_stops ran.Faulted not e chip' h = faulted_more s x.later c d chip x.leads first is same keeps TurnSo KeySo x.calls x.effects through (λ none. x.at_rest.popped) e chip' h
  turn_stops ran.LogFull not e chip' h = full_more s x.later c d chip x.leads first is same keeps TurnSo KeySo x.calls x.effects through e chip' h

  pub turn_short : (e : CoreState) (chip' : ChipState) → StopsShort KeySo x.later d chip e chip' → StopsShort TurnSo s c first e chip'
  turn_short e chip' h = short_more s x.later c d chip x.leads first is same keeps TurnSo KeySo x.calls x.effects through e chip' h

-- a turn that stops the turns
module _ (n : ℕ) (s : LoggedService) (c : CoreState) (first : ChipState) (is : IsSessionOf c first s) (order : AreOpsInOrder c.tables.ops) (d : CoreState) (chip : ChipState) (x : IsTurned n c s d chip) (keeps : KeepsChip c first d chip) (e : CoreState) (chip' : ChipState) where
  same_log : d.log ≡ c.log
  same_log = log_same c d first chip s x.later is x.leads.stands x.log

  abbrev OneSo : SwitchState → SwitchState → List (Call Rid) → Type 0
  OneSo = IsTurnSoFar d.board.plan d.sync.capacities (keys_of d.tables.ops)

  abbrev AllSo : SwitchState → SwitchState → List (Call Rid) → Type 0
  AllSo = AreTurnsSoFar c.board.plan c.sync.capacities (keys_of c.tables.ops)

  turn_through : (u : SwitchState) (calls : List (Call Rid)) → OneSo x.later.service.core u calls → AllSo s.service.core u (x.calls ++ calls)
  turn_through u calls h = (
    in_key_order c.tables.ops order.keys,
    n + 0,
    x.cut 0 u calls (plan_led_back (λ p l. IsMachineTurnSoFar p 4 l x.later.service.core (keys_of d.tables.ops) u calls) x.leads h),
  )

  pub turns_faulted : StopsFaulted OneSo x.later d chip e chip' → StopsFaulted AllSo s c first e chip'
  turns_faulted h = faulted_more s x.later c d chip x.leads first is same_log keeps AllSo OneSo x.calls x.effects turn_through (λ none. x.at_rest.popped) e chip' h

  pub turns_full : StopsFull OneSo x.later d chip e chip' → StopsFull AllSo s c first e chip'
  turns_full h = full_more s x.later c d chip x.leads first is same_log keeps AllSo OneSo x.calls x.effects turn_through e chip' h

  pub turns_short : StopsShort OneSo x.later d chip e chip' → StopsShort AllSo s c first e chip'
  turns_short h = short_more s x.later c d chip x.leads first is same_log keeps AllSo OneSo x.calls x.effects turn_through e chip' h

-- an operation that begins is run to its end
module _ (s : LoggedService) (k : Key) (c : CoreState) (chip : ChipState) (is : IsSessionOf c chip s) (mid : CoreState) (x : BeginsTo s 0 k c mid chip) (d : CoreState) (chip' : ChipState) where
  leads : LeadsTo c s x.makes.later mid chip
  leads = leads_one c mid chip s x.makes (begin_stays s x.makes.later (ap (λ (t : LoggedService). t.service.warm) x.moves) c.board.plan 4 c.sync.capacities x.begin 0 x.worker)

  log_kept : mid.log ≡ c.log
  log_kept = ap (λ (z : CoreState). z.log) x.is

  abbrev RunSo : SwitchState → SwitchState → List (Call Rid) → Type 0
  RunSo = AreAnswersSoFar mid.board.plan 0 1

  abbrev OwnSo : SwitchState → SwitchState → List (Call Rid) → Type 0
  OwnSo = IsKeySoFar c.board.plan c.sync.capacities k

  run_through : (u : SwitchState) (calls : List (Call Rid)) → RunSo x.makes.later.service.core u calls → OwnSo s.service.core u ([] ++ calls)
  run_through u calls (es, run, last, said) = inr (record {
    first = x.makes.later.service.core;
    starting = x.begin;
    is = x.key;
    answers = es;
    are = by_are c.board.plan 0 1 x.makes.later.service.core es (subst (λ p. AreByWorkers p 0 1 x.makes.later.service.core es) x.makes.plan run);
    last = last;
    calls_are = said;
  })

  none_made : x.makes.later.effects ≡ s.effects ++ []
  none_made = ap (λ (t : LoggedService). t.effects) x.moves

  pub begun_runs : (r : Result Ran OutOfMemory) → RunsOut x.makes.later 0 mid chip r d chip' → Brings s k c chip r d chip'
  begun_runs (Ok ran.Whole) h = Begun mid x h.0 h.1
  begun_runs (Ok ran.Faulted) h = faulted_more s x.makes.later c mid chip leads chip is log_kept (begins_keeps s k c mid chip x) OwnSo RunSo [] none_made run_through (λ none. ap (λ (z : CoreState). z.tables.waiting) x.is ∙ none) d chip' h.0
  begun_runs (Ok ran.LogFull) h = full_more s x.makes.later c mid chip leads chip is log_kept (begins_keeps s k c mid chip x) OwnSo RunSo [] none_made run_through d chip' h
  begun_runs (Err e) h = short_more s x.makes.later c mid chip leads chip is log_kept (begins_keeps s k c mid chip x) OwnSo RunSo [] none_made run_through d chip' h

pub brings_err : (s : LoggedService) (k : Key) (c : CoreState) (chip : ChipState) (r : Result Ran OutOfMemory) (d : CoreState) (chip' : ChipState) → IsErr r → StopsShort (IsKeySoFar c.board.plan c.sync.capacities k) s c chip d chip' → Brings s k c chip r d chip'
brings_err s k c chip (Err e) d chip' h x = x
brings_err s k c chip (Ok b) d chip' h x = absurd (false≢true h)

-- the same core stops where memory was refused
pub short_same : (So : SwitchState → SwitchState → List (Call Rid) → Type 0) (s : LoggedService) (c d : CoreState) (chip : ChipState) → So s.service.core s.service.core [] → c.warm ≡ warm.Reconciled → IsSameCore c d → IsSessionOf d chip s → StopsShort So s c chip d chip
short_same So s c d chip so at same is = record { steps = some_same c d s chip same is; then = s.service.core; calls = []; so = so; effects = sym (append-nil chip.effects); warm = warm_same c d same ∙ at; log = ap (λ (z : CoreState). z.log) same.2; keeps = keeps_alike c d chip chip refl (ap (λ (z : CoreState). z.log) same.2) (ap (λ (z : CoreState). z.listed) same.2) (ap (λ (z : CoreState). z.limit) same.2) }

-- a turn that took a key away, or did not
pub turn_fewer : (keys left : List Key) (c : CoreState) (s : LoggedService) (d : CoreState) (chip' : ChipState) (y : IsTurning keys c s left [] d chip') → (length (keys_of d.tables.ops) ≡ length keys → ⊥) → length (keys_of d.tables.ops) < length keys
turn_fewer keys left c s d chip' y apart =
    let long : length (keys_of d.tables.ops) ≡ length (left ++ []) = ap length y.ops in
    elim y.lists [
      | inl less ↦ omega (arith, long, less)
      | inr same ↦ absurd (apart (long ∙ same.0))
    ]

-- nothing of a turn was made
turn_none : (plan : Ports) (capacities : List ℕ) (s : SwitchState) (keys : List Key) → IsTurnSoFar plan capacities keys s s []
turn_none plan capacities s [] = (refl, refl)
turn_none plan capacities s (k ∷ ks) = inl (refl, refl)

pub turn_unbegun : (s : LoggedService) (c : CoreState) (chip : ChipState) → IsSessionOf c chip s → IsAtRest c → (r : Result Ran OutOfMemory) → IsErr r → MakesTurn s c chip r c chip
turn_unbegun s c chip is rest r failed =
    turn_err s c chip c chip r failed (record {
      steps = no_step c chip s is;
      then = s.service.core;
      calls = [];
      so = turn_none c.board.plan c.sync.capacities s.service.core (keys_of c.tables.ops);
      effects = sym (append-nil chip.effects);
      warm = rest.warm;
      log = refl;
      keeps = keeps_itself c chip;
    })

-- What running, popping, turns and settling come to, by their answers. Own.
use Rattle.std.specs.Prelude.{◌≡◌, ◌+◌, ◌<◌, ◌≤◌, ◌⊎◌, ◌++◌, ◌∷◌, ℕ, true, List, [], length, None, IsSome, Result, Ok, Err}
use Rattle.std.specs.Map.{keys_of}
use Rattle.swss_types.specs.declared.out_of_memory.OutOfMemory.{OutOfMemory}
use Rattle.table_schema.specs.Plan.{Ports}
use Rattle.table_schema.specs.declared.key.Key.{Key}
use Rattle.sai_types.specs.declared.body.Call.{Call}
use Rattle.sai_types.specs.declared.ids.Rid.{Rid}
use Rattle.sai_types.specs.ChipState.{ChipState}
use Rattle.consumer_table.specs.Ops.{AreOpsInOrder}
use Rattle.retry_list.specs.Reasons.{with_reason}
use Rattle.switch_model.specs.declared.wait.Wait.{Wait}
use Rattle.switch_machine.specs.Events.{IsAnswer, IsDueCall, IsQuiet, SwitchState, after_answers}
use Rattle.switch_machine.specs.Next.{MustWait}
use Rattle.switch_machine.specs.Reasons.{IsReason}
use Rattle.machine_laws.specs.Logged.{IsSettlingSoFar}
use Rattle.machine_laws.specs.Settling.{AreMachineTurnsSoFar, IsMachineTurnSoFar, RunsSoFar}
use Rattle.machine_laws.specs.ToSync.{AreInKeyOrder}
use Rattle.restart_laws.specs.Logged.{LoggedService}
use Rattle.sync_tables.specs.Tables.{IsToSync}
use Rattle.flight_board.specs.Board.{flown_at}
use Rattle.warm_state.specs.declared.warm.Warm.TheVariants as warm
use Rattle.session_laws.specs.Core.{CoreState, IsFullFor, size_beside}
use Rattle.session_laws.specs.Events.{MakesSome}
use Rattle.session_laws.specs.Standing.{IsSessionOf}
use Rattle.session_laws.specs.Leading.{LeadsTo, RunsTo, SettlesTo, calls_in, with_calls}
use Rattle.session_laws.specs.Turning.{IsAtRest, IsTurning, TurnsTo}
use Rattle.orch_core.specs.Outcomes.{KeepsChip, MarksFault, BeginsTo, DropsTo, IsLastCall, IsSameBeside, IsSameCore, KeepsFlights, PopsAlone}
use Rattle.orch_core.specs.Marked.{ListsWhatWaits, Marks}
use Rattle.orch_core.specs.declared.answer.Ran.{Ran}
use Rattle.orch_core.specs.declared.answer.Ran.TheVariants as ran
use Rattle.orch_core.specs.declared.answer.Settled.{Settled}
use Rattle.orch_core.specs.declared.answer.Settled.TheVariants as settled
use Rattle.orch_core.specs.declared.answer.Turned.{Turned}
use Rattle.orch_core.specs.declared.answer.Turned.TheVariants as turned

-- ---- where it stops: with the calls that were made so far

-- answers of workers from one number on and below another, in the order of these numbers: no worker goes on behind the next
abbrev pub AreByWorkers : Ports → ℕ → ℕ → SwitchState → List (Call Rid × SwitchState) → Type 0
AreByWorkers plan from to s [] = Unit {0}
AreByWorkers plan from to s (e ∷ es) = (x : IsAnswer plan 4 e.0 s e.1) × (from ≤ x.next.worker) × (x.next.worker < to) × AreByWorkers plan x.next.worker to e.1 es

-- what these workers left was run so far, with these calls
abbrev pub AreAnswersSoFar : Ports → ℕ → ℕ → SwitchState → SwitchState → List (Call Rid) → Type 0
AreAnswersSoFar plan from to s t calls = (answers : List (Call Rid × SwitchState)) × AreByWorkers plan from to s answers × (t ≡ after_answers s answers) × (calls ≡ calls_in answers)

-- the operation of a key had not begun, or was run so far
abbrev pub IsKeySoFar : Ports → List ℕ → Key → SwitchState → SwitchState → List (Call Rid) → Type 0
IsKeySoFar plan capacities k s t calls = ((t ≡ s) × (calls ≡ [])) ⊎ RunsSoFar plan 4 capacities k s t calls

-- a turn over these keys was made so far
abbrev pub IsTurnSoFar : Ports → List ℕ → List Key → SwitchState → SwitchState → List (Call Rid) → Type 0
IsTurnSoFar plan capacities keys s t calls = IsMachineTurnSoFar plan 4 capacities s keys t calls

-- turns over these keys, which are in key order, were made so far
abbrev pub AreTurnsSoFar : Ports → List ℕ → List Key → SwitchState → SwitchState → List (Call Rid) → Type 0
AreTurnsSoFar plan capacities keys s t calls = AreInKeyOrder keys × (turns : ℕ) × AreMachineTurnsSoFar plan 4 capacities turns s keys t calls

-- a settling so far: what workers left was run so far, worker by worker; or to its end, and then keys were popped and turns made so far
pub data SettlesSoFar (plan : Ports) (capacities : List ℕ) (s t : SwitchState) (calls : List (Call Rid)) : Type 0 where
  InAnswers : AreAnswersSoFar plan 0 4 s t calls → SettlesSoFar plan capacities s t calls
  BehindThem : (answers : List (Call Rid × SwitchState)) (more : List (Call Rid)) → AreByWorkers plan 0 4 s answers → IsQuiet (after_answers s answers) → IsSettlingSoFar plan 4 capacities (with_calls (after_answers s answers) []) (with_calls t more) → calls ≡ calls_in answers ++ more → SettlesSoFar plan capacities s t calls

-- steps were made, with calls so far, and then a call that was due failed, the first that did, which is marked, and the round ends at the mark; where no write waited before, none waits then
pub record StopsFaulted (So : SwitchState → SwitchState → List (Call Rid) → Type 0) (s : LoggedService) (c : CoreState) (chip : ChipState) (c' : CoreState) (chip' : ChipState) : Type 0 where
  pub steps : MakesSome c s c' chip'
  pub before : SwitchState
  pub calls : List (Call Rid)
  pub so : So s.service.core before calls
  pub call : Call Rid
  pub due : IsDueCall 4 call before
  pub effects : IsLastCall (chip.effects ++ calls) call chip'.effects
  pub marks : MarksFault true c chip c' chip'
  pub popped : c.tables.waiting ≡ [] → c'.tables.waiting ≡ []
  pub fails : chip'.fails ≡ chip.fails

-- steps were made, with calls so far, and then the call that was due for a worker had no places in the log
pub record StopsFull (So : SwitchState → SwitchState → List (Call Rid) → Type 0) (s : LoggedService) (c : CoreState) (chip : ChipState) (c' : CoreState) (chip' : ChipState) : Type 0 where
  pub steps : MakesSome c s c' chip'
  pub then : SwitchState
  pub calls : List (Call Rid)
  pub so : So s.service.core then calls
  pub effects : chip'.effects ≡ chip.effects ++ calls
  pub warm : c'.warm ≡ warm.Reconciled
  pub log : c'.log ≡ c.log
  pub flying : (v : ℕ) × (v < 4) × IsSome (flown_at c'.board v)
  pub full : IsFullFor c' (length chip'.effects) 2
  pub keeps : KeepsChip c chip c' chip'

-- steps were made, with calls so far, and then memory was refused
pub record StopsShort (So : SwitchState → SwitchState → List (Call Rid) → Type 0) (s : LoggedService) (c : CoreState) (chip : ChipState) (c' : CoreState) (chip' : ChipState) : Type 0 where
  pub steps : MakesSome c s c' chip'
  pub then : SwitchState
  pub calls : List (Call Rid)
  pub so : So s.service.core then calls
  pub effects : chip'.effects ≡ chip.effects ++ calls
  pub warm : c'.warm ≡ warm.Reconciled
  pub log : c'.log ≡ c.log
  pub keeps : KeepsChip c chip c' chip'

-- ---- what is under way

-- what a worker has under way was run to its end: answers alone; nothing else changed
pub record RunsWhole (s : LoggedService) (w : ℕ) (c : CoreState) (chip : ChipState) (c' : CoreState) (chip' : ChipState) : Type 0 where
  pub runs : RunsTo c s c' chip'
  pub order : AreByWorkers c.board.plan w (w + 1) s.service.core runs.answers
  pub beside : IsSameBeside c c'
  pub others : KeepsFlights w c.board c'.board
  pub keeps : KeepsChip c chip c' chip'

abbrev pub RunsOut : LoggedService → ℕ → CoreState → ChipState → Result Ran OutOfMemory → CoreState → ChipState → Type 0
RunsOut s w c chip (Ok ran.Whole) c' chip' = RunsWhole s w c chip c' chip' × (flown_at c'.board w ≡ None)
RunsOut s w c chip (Ok ran.Faulted) c' chip' = StopsFaulted (AreAnswersSoFar c.board.plan w (w + 1)) s c chip c' chip' × IsSome (flown_at c.board w)
RunsOut s w c chip (Ok ran.LogFull) c' chip' = StopsFull (AreAnswersSoFar c.board.plan w (w + 1)) s c chip c' chip'
RunsOut s w c chip (Err e) c' chip' = StopsShort (AreAnswersSoFar c.board.plan w (w + 1)) s c chip c' chip'

-- what the workers below this number have under way was run to its end, one worker after the other
pub record RunsInOrder (to : ℕ) (s : LoggedService) (c c' : CoreState) (chip' : ChipState) : Type 0 where
  pub runs : RunsTo c s c' chip'
  pub order : AreByWorkers c.board.plan 0 to s.service.core runs.answers

abbrev pub RunsAll : LoggedService → CoreState → ChipState → Result Ran OutOfMemory → CoreState → ChipState → Type 0
RunsAll s c chip (Ok ran.Whole) c' chip' = RunsInOrder 4 s c c' chip' × IsSameBeside c c' × ((v : ℕ) → v < 4 → flown_at c'.board v ≡ None) × KeepsChip c chip c' chip'
RunsAll s c chip (Ok ran.Faulted) c' chip' = StopsFaulted (AreAnswersSoFar c.board.plan 0 4) s c chip c' chip' × ((v : ℕ) × (v < 4) × IsSome (flown_at c.board v))
RunsAll s c chip (Ok ran.LogFull) c' chip' = StopsFull (AreAnswersSoFar c.board.plan 0 4) s c chip c' chip'
RunsAll s c chip (Err e) c' chip' = StopsShort (AreAnswersSoFar c.board.plan 0 4) s c chip c' chip'

-- ---- pops

abbrev pub Pops : CoreState → Result (Unit {0}) OutOfMemory → CoreState → Type 0
Pops c (Ok _) c' = PopsAlone c c' × (c'.tables.waiting ≡ [])
Pops c (Err e) c' = PopsAlone c c'

-- ---- turns

-- a key was brought to the chip: it had its good row; its operation began and was run to its end; or it waits, which the list says
pub data BringsKey (s : LoggedService) (k : Key) (c c' : CoreState) (chip chip' : ChipState) : Type 0 where
  Dropped : chip' ≡ chip → DropsTo s k c c' chip → BringsKey s k c c' chip chip'
  Begun : (mid : CoreState) (x : BeginsTo s 0 k c mid chip) → RunsWhole x.makes.later 0 mid chip c' chip' → flown_at c'.board 0 ≡ None → BringsKey s k c c' chip chip'
  Waits : (mid : CoreState) (r : Wait) → chip' ≡ chip → IsSameCore c mid → IsSessionOf mid chip s → IsReason c.board.plan 4 c.sync.capacities s.service.core k r → c' ≡ record mid { waiting = with_reason mid.waiting k r } → BringsKey s k c c' chip chip'

abbrev pub Brings : LoggedService → Key → CoreState → ChipState → Result Ran OutOfMemory → CoreState → ChipState → Type 0
Brings s k c chip (Ok ran.Whole) c' chip' = BringsKey s k c c' chip chip'
Brings s k c chip (Ok ran.Faulted) c' chip' = StopsFaulted (IsKeySoFar c.board.plan c.sync.capacities k) s c chip c' chip'
Brings s k c chip (Ok ran.LogFull) c' chip' = StopsFull (IsKeySoFar c.board.plan c.sync.capacities k) s c chip c' chip'
Brings s k c chip (Err e) c' chip' = StopsShort (IsKeySoFar c.board.plan c.sync.capacities k) s c chip c' chip'

abbrev pub MakesTurn : LoggedService → CoreState → ChipState → Result Ran OutOfMemory → CoreState → ChipState → Type 0
MakesTurn s c chip (Ok ran.Whole) c' chip' = (left : List Key) × IsTurning (keys_of c.tables.ops) c s left [] c' chip' × KeepsChip c chip c' chip'
MakesTurn s c chip (Ok ran.Faulted) c' chip' = StopsFaulted (IsTurnSoFar c.board.plan c.sync.capacities (keys_of c.tables.ops)) s c chip c' chip'
MakesTurn s c chip (Ok ran.LogFull) c' chip' = StopsFull (IsTurnSoFar c.board.plan c.sync.capacities (keys_of c.tables.ops)) s c chip c' chip'
MakesTurn s c chip (Err e) c' chip' = StopsShort (IsTurnSoFar c.board.plan c.sync.capacities (keys_of c.tables.ops)) s c chip c' chip'

abbrev pub MakesTurns : LoggedService → CoreState → ChipState → Result Turned OutOfMemory → CoreState → ChipState → Type 0
MakesTurns s c chip (Ok (turned.Whole n)) c' chip' = AreOpsInOrder c.tables.ops × TurnsTo n c s c' chip' × KeepsChip c chip c' chip'
MakesTurns s c chip (Ok turned.Faulted) c' chip' = StopsFaulted (AreTurnsSoFar c.board.plan c.sync.capacities (keys_of c.tables.ops)) s c chip c' chip'
MakesTurns s c chip (Ok turned.LogFull) c' chip' = StopsFull (AreTurnsSoFar c.board.plan c.sync.capacities (keys_of c.tables.ops)) s c chip c' chip'
MakesTurns s c chip (Err e) c' chip' = StopsShort (AreTurnsSoFar c.board.plan c.sync.capacities (keys_of c.tables.ops)) s c chip c' chip'

-- ---- a settling

-- the mark at the end has no place in the log: nothing is under way, nothing waits in the tables, and each key to sync has to wait
pub record StopsAtMark (So : SwitchState → SwitchState → List (Call Rid) → Type 0) (s : LoggedService) (c : CoreState) (chip : ChipState) (c' : CoreState) (chip' : ChipState) : Type 0 where
  pub later : LoggedService
  pub leads : LeadsTo c s later c' chip'
  pub calls : List (Call Rid)
  pub so : So s.service.core later.service.core calls
  pub effects : chip'.effects ≡ chip.effects ++ calls
  pub at_rest : IsAtRest c'
  pub log : c'.log ≡ c.log
  pub order : AreOpsInOrder c'.tables.ops
  pub waits : (k : Key) → IsToSync c'.tables k → MustWait c'.board.plan 4 c'.sync.capacities later.service.core k
  pub full : IsFullFor c' (length chip'.effects) (1 + length c'.tables.ops)
  pub keeps : KeepsChip c chip c' chip'

-- a whole settling, which began with what workers had left, worker by worker; its mark had its places, and lists each key that is still to sync with the reason that the core has for it
pub record SettlesWhole (s : LoggedService) (c : CoreState) (chip : ChipState) (c' : CoreState) (chip' : ChipState) : Type 0 where
  pub settles : SettlesTo c s c' chip'
  pub workers : AreByWorkers c.board.plan 0 4 s.service.core settles.answers
  pub places : size_beside c' (length chip'.effects) ≤ c'.limit
  pub lists : ListsWhatWaits c'
  pub keeps : KeepsChip c chip c' chip'

-- a settling ends at its mark; a call fails, and its mark ends it, and where no worker had anything under way no write waits any more; the log has no place for the call that is due or for the mark; or memory is refused, and then whole events were made
abbrev pub Settles : LoggedService → CoreState → ChipState → Result Settled OutOfMemory → CoreState → ChipState → Type 0
Settles s c chip (Ok settled.Settled) c' chip' = SettlesWhole s c chip c' chip'
Settles s c chip (Ok settled.Faulted) c' chip' = StopsFaulted (SettlesSoFar c.board.plan c.sync.capacities) s c chip c' chip' × (((v : ℕ) → v < 4 → flown_at c.board v ≡ None) → c'.tables.waiting ≡ [])
Settles s c chip (Ok settled.LogFull) c' chip' = StopsFull (SettlesSoFar c.board.plan c.sync.capacities) s c chip c' chip' ⊎ StopsAtMark (SettlesSoFar c.board.plan c.sync.capacities) s c chip c' chip'
Settles s c chip (Err e) c' chip' = StopsShort (SettlesSoFar c.board.plan c.sync.capacities) s c chip c' chip'

-- the turns of a settling, and its mark
pub record MarksTurns (s : LoggedService) (c : CoreState) (chip : ChipState) (c' : CoreState) (chip' : ChipState) : Type 0 where
  pub turns : ℕ
  pub mid : CoreState
  pub order : AreOpsInOrder c.tables.ops
  pub turned : TurnsTo turns c s mid chip'
  pub marks : Marks (length chip'.effects) turns mid (Ok settled.Settled) c'
  pub keeps : KeepsChip c chip mid chip'

abbrev pub SettlesKeys : LoggedService → CoreState → ChipState → Result Settled OutOfMemory → CoreState → ChipState → Type 0
SettlesKeys s c chip (Ok settled.Settled) c' chip' = MarksTurns s c chip c' chip'
SettlesKeys s c chip (Ok settled.Faulted) c' chip' = StopsFaulted (AreTurnsSoFar c.board.plan c.sync.capacities (keys_of c.tables.ops)) s c chip c' chip'
SettlesKeys s c chip (Ok settled.LogFull) c' chip' = StopsFull (AreTurnsSoFar c.board.plan c.sync.capacities (keys_of c.tables.ops)) s c chip c' chip' ⊎ StopsAtMark (AreTurnsSoFar c.board.plan c.sync.capacities (keys_of c.tables.ops)) s c chip c' chip'
SettlesKeys s c chip (Err e) c' chip' = StopsShort (AreTurnsSoFar c.board.plan c.sync.capacities (keys_of c.tables.ops)) s c chip c' chip'

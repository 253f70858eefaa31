-- What the core's events come to, by their answers. Own.
use Rattle.std.specs.Prelude.{◌≡◌, ◌+◌, ◌<◌, ◌≤◌, ◌⊎◌, ◌++◌, ◌∷◌, ℕ, Bool, true, false, List, [], length, Option, Some, None, IsSome, Result, Ok, Err}
use Rattle.swss_types.specs.declared.out_of_memory.OutOfMemory.{OutOfMemory}
use Rattle.table_schema.specs.declared.key.Key.{Key}
use Rattle.table_schema.specs.declared.row.Row.{Row}
use Rattle.sai_types.specs.declared.answer.SyncAnswer.{SyncAnswer}
use Rattle.sai_types.specs.declared.answer.SyncAnswer.TheVariants as sync
use Rattle.sai_types.specs.declared.body.Call.{Call}
use Rattle.sai_types.specs.declared.ids.Rid.{Rid}
use Rattle.sai_types.specs.declared.kind.Kind.{Kind}
use Rattle.sai_types.specs.ChipState.{ChipState, IsAskedOnce, calls_after}
use Rattle.switch_model.specs.History.{History, with_end, with_mark}
use Rattle.switch_model.specs.declared.mark.Mark.{Mark}
use Rattle.switch_model.specs.declared.mark.MarkEvent.TheVariants as event
use Rattle.switch_model.specs.declared.wait.Wait.{Wait}
use Rattle.consumer_table.specs.Ops.{without_op}
use Rattle.retry_list.specs.Reasons.{without_reason}
use Rattle.switch_machine.specs.Events.{IsAnswer, IsBegin, IsDrop, IsDueCall}
use Rattle.switch_machine.specs.Next.{IsIdle, IsNextEvent}
use Rattle.switch_machine.specs.Reasons.{IsReason}
use Rattle.restart_laws.specs.Logged.{LoggedService}
use Rattle.asic_view.specs.View.{used_of}
use Rattle.ref_counts.specs.Room.{number_of_kind}
use Rattle.sync_tables.specs.Tables.{PopsBatch, PopsInPart, TablesState}
use Rattle.sync_tables.specs.declared.tables.TheConstants.{BATCH}
use Rattle.syncd_core.specs.Synced.{SyncState, current}
use Rattle.flight_board.specs.Board.{BoardState, IsBegunFor, IsSameBoard, IsTakenFor, flown_at}
use Rattle.warm_state.specs.declared.warm.Warm.TheVariants as warm
use Rattle.session_laws.specs.Core.{CoreState, IsFullFor, mark_at, size_beside}
use Rattle.session_laws.specs.Events.{IsMachineStep, MakesOne, vid_made_by}
use Rattle.session_laws.specs.Leading.{PopsTo}
use Rattle.session_laws.specs.Standing.{IsSessionOf}
use Rattle.orch_core.specs.declared.answer.Step.{Step}
use Rattle.orch_core.specs.declared.answer.Step.TheVariants as step
use Rattle.orch_core.specs.declared.answer.Tried.{Tried}
use Rattle.orch_core.specs.declared.answer.Tried.TheVariants as tried

-- a core and its chip stand for a session
abbrev pub IsInSession : CoreState → ChipState → Type 0
IsInSession c chip = (s : LoggedService) × IsSessionOf c chip s

-- ---- the mark of a fault

-- a log with a mark, at which a round ends or not
abbrev pub with_fault : Bool → History → Mark → History
with_fault true h m = with_end (with_mark h m)
with_fault false h m = with_mark h m

-- ---- what stays

-- beside the board and syncd all is as it was
pub record IsSameBeside (c c' : CoreState) : Type 0 where
  pub tables : c'.tables ≡ c.tables
  pub waiting : c'.waiting ≡ c.waiting
  pub log : c'.log ≡ c.log
  pub listed : c'.listed ≡ c.listed
  pub limit : c'.limit ≡ c.limit
  pub warm : c'.warm ≡ c.warm

-- what the other workers have under way is as it was
abbrev pub KeepsFlights : ℕ → BoardState → BoardState → Type 0
KeepsFlights w b b' = (v : ℕ) → (v ≡ w → ⊥) → flown_at b' v ≡ flown_at b v

-- the same core, but for places that the board keeps for nothing
abbrev pub IsSameCore : CoreState → CoreState → Type 0
IsSameCore c c' = (b : BoardState) × IsSameBoard c.board b × (c' ≡ record c { board = b })

-- a key is no longer to sync, nor on the list of those that wait
abbrev pub key_left : CoreState → Key → CoreState
key_left c k = record c { tables = record c.tables { ops = without_op c.tables.ops k }; waiting = without_reason c.waiting k }

-- ---- the call that is due for a worker

-- what the core makes of its answer, and of its log, which it gets back: it takes what the call made; or the fault is marked
abbrev pub Heeds : ℕ → SyncAnswer → History → Mark → Bool → CoreState → Step → CoreState → Type 0
Heeds w sync.Failed log fault ends c r c' = (r ≡ step.Faulted) × (c' ≡ record c { log = with_fault ends log fault; warm = warm.Suspect })
Heeds w a log fault ends c r c' = (r ≡ step.Did) × (b : BoardState) × IsTakenFor c.board w (vid_made_by a) b × (c' ≡ record c { log = log; board = b })

-- the log, beside the chip's effects, is within its limit
abbrev pub IsWithinLimit : CoreState → ChipState → Type 0
IsWithinLimit c chip = size_beside c (length chip.effects) ≤ c.limit

-- the chip has the failing calls that it was made with, and failed no more often than before; and a log that was within its limit still is
pub record KeepsChip (c : CoreState) (chip : ChipState) (c' : CoreState) (chip' : ChipState) : Type 0 where
  pub fails : chip'.fails ≡ chip.fails
  pub faults : chip'.faults ≡ chip.faults
  pub limit : IsWithinLimit c chip → IsWithinLimit c' chip'

-- these calls took effect, and then that of this call or nothing
abbrev pub IsLastCall : List (Call Rid) → Call Rid → List (Call Rid) → Type 0
IsLastCall before call after = (after ≡ before) ⊎ (after ≡ before ++ call ∷ [])

-- one call failed, the first that did, and its mark says so, with the chip's counts of faults before it and after it, which differ by one; the call had two places in the log, and at most its own effect came behind those before it
pub record MarksFault (ends : Bool) (c : CoreState) (chip : ChipState) (c' : CoreState) (chip' : ChipState) : Type 0 where
  pub one : chip'.faults ≡ chip.faults + 1
  pub log : c'.log ≡ with_fault ends c.log (mark_at c (length chip'.effects) (event.Faulted chip.faults chip'.faults))
  pub warm : c'.warm ≡ warm.Suspect
  pub places : size_beside c chip'.before_fault + 2 ≤ c.limit
  pub few : length chip'.effects ≤ chip'.before_fault + 1

-- the core stands for the same session still, and its log is the same
pub record StaysInSession (s : LoggedService) (c : CoreState) (c' : CoreState) (chip : ChipState) : Type 0 where
  pub stands : IsSessionOf c' chip s
  pub plan : c'.board.plan ≡ c.board.plan
  pub capacities : c'.sync.capacities ≡ c.sync.capacities
  pub limit : c'.limit ≡ c.limit
  pub warm : c'.warm ≡ c.warm
  pub log : c'.log ≡ c.log

-- the answer of the call that was due for a worker is one step of the session, an Answer of the machine
pub record AnswersCall (s : LoggedService) (w : ℕ) (c : CoreState) (chip : ChipState) (c' : CoreState) (chip' : ChipState) : Type 0 where
  pub makes : MakesOne c s c' chip'
  pub call : Call Rid
  pub answer : IsAnswer c.board.plan 4 call s.service.core makes.later.service.core
  pub worker : answer.next.worker ≡ w
  pub moves : IsMachineStep s (Some call) makes.later
  pub beside : IsSameBeside c c'
  pub others : KeepsFlights w c.board c'.board
  pub room : IsFullFor c (length chip.effects) 2 → ⊥
  pub called : chip'.calls ≡ calls_after chip.calls
  pub keeps : KeepsChip c chip c' chip'

-- a fault of the call that was due for the worker is one step too, one call of the chip, and leaves the tables as they were
pub record FaultsCall (ends : Bool) (s : LoggedService) (w : ℕ) (c : CoreState) (chip : ChipState) (c' : CoreState) (chip' : ChipState) : Type 0 where
  pub makes : MakesOne c s c' chip'
  pub call : Call Rid
  pub due : IsDueCall 4 call s.service.core
  pub worker : due.worker ≡ w
  pub effects : IsLastCall chip.effects call chip'.effects
  pub called : chip'.calls ≡ calls_after chip.calls
  pub marks : MarksFault ends c chip c' chip'
  pub tables : c'.tables ≡ c.tables
  pub fails : chip'.fails ≡ chip.fails

-- what the call came to: one step; a fault, which is marked; no places in the log, and then nothing was done; or want of memory, which the chip itself may have answered, where the log has its places
abbrev pub Answered : Bool → LoggedService → ℕ → CoreState → ChipState → Result Step OutOfMemory → CoreState → ChipState → Type 0
Answered ends s w c chip (Ok step.Did) c' chip' = AnswersCall s w c chip c' chip'
Answered ends s w c chip (Ok step.Faulted) c' chip' = FaultsCall ends s w c chip c' chip'
Answered ends s w c chip (Ok step.LogFull) c' chip' = (c' ≡ c) × (chip' ≡ chip) × IsFullFor c (length chip.effects) 2
Answered ends s w c chip (Ok _) c' chip' = ⊥
Answered ends s w c chip (Err e) c' chip' = IsAskedOnce chip chip' × StaysInSession s c c' chip' × (IsFullFor c (length chip.effects) 2 → ⊥)

-- ---- a key to sync

-- the numbers of objects of each kind are those that syncd counts
abbrev pub AreKindsCounted : SyncState → (Kind → ℕ) → Type 0
AreKindsCounted y used = (kind : Kind) → used kind ≡ used_of (current y) kind

-- what the board made of a key: its operation began; or it waits
abbrev pub Begun : ℕ → Key → Option Row → CoreState → Result Tried OutOfMemory → CoreState → Type 0
Begun w k new c (Ok tried.Begun) c' = (used : List ℕ) × AreKindsCounted c.sync (number_of_kind used) × (b : BoardState) × IsBegunFor c.board used w k new (Ok tt) b × (c' ≡ record (key_left c k) { board = b })
Begun w k new c (Ok (tried.Waits r)) c' = (used : List ℕ) × AreKindsCounted c.sync (number_of_kind used) × (b : BoardState) × IsBegunFor c.board used w k new (Err r) b × (c' ≡ record c { board = b })
Begun w k new c (Ok tried.Dropped) c' = ⊥
Begun w k new c (Err e) c' = IsSameCore c c'

-- a key that has its good row leaves those to sync in one step of the session, a Drop of the machine
pub record DropsTo (s : LoggedService) (k : Key) (c c' : CoreState) (chip : ChipState) : Type 0 where
  pub makes : MakesOne c s c' chip
  pub drop : IsDrop c.board.plan s.service.core makes.later.service.core
  pub key : drop.key ≡ k
  pub moves : IsMachineStep s None makes.later
  pub is : c' ≡ key_left c k

-- its operation begins for a worker in one step, a Begin of the machine
pub record BeginsTo (s : LoggedService) (w : ℕ) (k : Key) (c c' : CoreState) (chip : ChipState) : Type 0 where
  pub makes : MakesOne c s c' chip
  pub begin : IsBegin c.board.plan 4 c.sync.capacities s.service.core makes.later.service.core
  pub worker : begin.worker ≡ w
  pub key : begin.flight.key ≡ k
  pub moves : IsMachineStep s None makes.later
  pub board : BoardState
  pub is : c' ≡ record (key_left c k) { board = board }
  pub others : KeepsFlights w c.board board

-- what became of a key to sync
abbrev pub Tries : LoggedService → ℕ → Key → CoreState → ChipState → Result Tried OutOfMemory → CoreState → Type 0
Tries s w k c chip (Ok tried.Dropped) c' = DropsTo s k c c' chip
Tries s w k c chip (Ok tried.Begun) c' = BeginsTo s w k c c' chip
Tries s w k c chip (Ok (tried.Waits r)) c' = IsSameCore c c' × IsSessionOf c' chip s × IsReason c.board.plan 4 c.sync.capacities s.service.core k r
Tries s w k c chip (Err e) c' = IsSameCore c c' × IsSessionOf c' chip s

-- whether it is no longer to sync
abbrev pub BeginsOrDrops : LoggedService → ℕ → Key → CoreState → ChipState → Result Bool OutOfMemory → CoreState → Type 0
BeginsOrDrops s w k c chip (Ok true) c' = DropsTo s k c c' chip ⊎ BeginsTo s w k c c' chip
BeginsOrDrops s w k c chip (Ok false) c' = IsSameCore c c' × IsSessionOf c' chip s × ((r : Wait) × IsReason c.board.plan 4 c.sync.capacities s.service.core k r)
BeginsOrDrops s w k c chip (Err e) c' = IsSameCore c c' × IsSessionOf c' chip s

-- ---- a pop

-- keys were popped, and nothing but the tables changed
abbrev pub PopsAlone : CoreState → CoreState → Type 0
PopsAlone c c' = (t : TablesState) × (c' ≡ record c { tables = t }) × ((chip : ChipState) (s : LoggedService) → IsSessionOf c chip s → PopsTo c s c' chip)

-- a worker has nothing under way and a write waits: a pop is next
abbrev pub IsPopNext : CoreState → ℕ → Type 0
IsPopNext c w = (flown_at c.board w ≡ None) × (c.tables.waiting ≡ [] → ⊥)

-- ---- a step

-- the chip made the one call of an event, or is as it was where the event makes none
abbrev pub IsCalledFor : Option (Call Rid) → ChipState → ChipState → Type 0
IsCalledFor None chip chip' = chip' ≡ chip
IsCalledFor (Some call) chip chip' = chip'.calls ≡ calls_after chip.calls

-- one event was made, the first that applies to the worker, and one does; it made at most one call of the chip, which had two places in the log; and where a pop was next, the first keys that waited were popped, a batch of them or all, and the rows and the operations to sync are what that makes of them
pub record StepsOn (s : LoggedService) (w : ℕ) (c : CoreState) (chip : ChipState) (c' : CoreState) (chip' : ChipState) : Type 0 where
  pub makes : MakesOne c s c' chip'
  pub call : Option (Call Rid)
  pub next : IsNextEvent c.board.plan 4 c.sync.capacities w s.service.core call makes.later.service.core
  pub applies : IsIdle c.board.plan 4 c.sync.capacities w s.service.core → ⊥
  pub moves : IsMachineStep s call makes.later
  pub keeps : KeepsChip c chip c' chip'
  pub room : IsSome call → IsFullFor c (length chip.effects) 2 → ⊥
  pub called : IsCalledFor call chip chip'
  pub batch : IsPopNext c w → PopsBatch BATCH c.tables c'.tables

-- memory was refused, and no event was made: a call was due, had its places in the log, and was not made, or the chip answered so; nothing was done, where the worker has nothing under way; or a pop was next, and a part of it was made, up to the key at which memory was refused
pub data StepsInPart (s : LoggedService) (w : ℕ) (c : CoreState) (chip : ChipState) (c' : CoreState) (chip' : ChipState) : Type 0 where
  Uncalled : IsSome (flown_at c.board w) → IsAskedOnce chip chip' → StaysInSession s c c' chip' → (IsFullFor c (length chip.effects) 2 → ⊥) → StepsInPart s w c chip c' chip'
  Unbegun : flown_at c.board w ≡ None → chip' ≡ chip → StaysInSession s c c' chip → StepsInPart s w c chip c' chip'
  Part : IsPopNext c w → chip' ≡ chip → PopsAlone c c' → PopsInPart BATCH c.tables c'.tables → StepsInPart s w c chip c' chip'

-- a step of a worker makes the first event that applies to it; it is Idle where none does; Faulted where the call that was due for it failed, which is marked; LogFull where that call has not two places; and after want of memory at most a part of a pop was made
abbrev pub StepsTo : LoggedService → ℕ → CoreState → ChipState → Result Step OutOfMemory → CoreState → ChipState → Type 0
StepsTo s w c chip (Ok step.Did) c' chip' = StepsOn s w c chip c' chip'
StepsTo s w c chip (Ok step.Idle) c' chip' = (chip' ≡ chip) × IsSameCore c c' × IsSessionOf c' chip s × IsIdle c.board.plan 4 c.sync.capacities w s.service.core
StepsTo s w c chip (Ok step.Suspect) c' chip' = (c' ≡ c) × (chip' ≡ chip) × (c.warm ≡ warm.Suspect)
StepsTo s w c chip (Ok step.Faulted) c' chip' = FaultsCall false s w c chip c' chip' × IsSome (flown_at c.board w)
StepsTo s w c chip (Ok step.LogFull) c' chip' = (c' ≡ c) × (chip' ≡ chip) × IsFullFor c (length chip.effects) 2 × IsSome (flown_at c.board w)
StepsTo s w c chip (Err e) c' chip' = StepsInPart s w c chip c' chip'

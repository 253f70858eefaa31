-- What a restart and the events that follow it come to, by their answers. Own.
use Rattle.std.specs.Prelude.{◌≡◌, ◌+◌, ◌<◌, ◌≤◌, ◌⊎◌, ℕ, Bool, false, List, [], ◌∷◌, length, map, Option, Some, None, Result, Ok, Err}
use Rattle.std.specs.Map.{keys_of}
use Rattle.swss_types.specs.declared.out_of_memory.OutOfMemory.{OutOfMemory}
use Rattle.table_schema.specs.Plan.{Ports}
use Rattle.table_schema.specs.Rows.{fields_at}
use Rattle.table_schema.specs.declared.key.Key.{Key}
use Rattle.sai_types.specs.declared.plan.Mode.{Mode}
use Rattle.sai_types.specs.declared.plan.PlanCall.{PlanCall}
use Rattle.sai_types.specs.ChipState.{ChipState, IsAskedOnce, asked, calls_after, objects_of}
use Rattle.switch_model.specs.History.{History, with_mark}
use Rattle.switch_model.specs.Marks.{Waiting}
use Rattle.switch_model.specs.declared.mark.Mark.{Mark}
use Rattle.switch_model.specs.declared.mark.MarkEvent.TheVariants as event
use Rattle.restart_laws.specs.Logged.{LoggedService}
use Rattle.sync_tables.specs.Tables.{TablesState, ops_popped, row_popped}
use Rattle.syncd_core.specs.Synced.{new_state, with_listed}
use Rattle.syncd_core.specs.declared.answer.ApplyStep.{ApplyStep}
use Rattle.syncd_core.specs.declared.answer.ApplyStep.TheVariants as apply_step
use Rattle.syncd_core.specs.declared.answer.Listed.{Listed}
use Rattle.syncd_core.specs.declared.answer.Listed.TheVariants as listed
use Rattle.row_layout.specs.Operations.{shared_going}
use Rattle.row_layout.specs.Rows.{Owner}
use Rattle.ref_counts.specs.Registry.{Names}
use Rattle.registry_laws.specs.Flown.{Flown, due_for}
use Rattle.flight_board.specs.Board.{BoardState, flown_at, new_board}
use Rattle.warm_state.specs.declared.warm.Warm.{Warm}
use Rattle.warm_state.specs.declared.warm.Warm.TheVariants as warm
use Rattle.session_laws.specs.Core.{CoreState, IsFullFor, mark_at, size_beside}
use Rattle.session_laws.specs.Service.Built.{IsBeside, IsBringing, IsBuilt}
use Rattle.session_laws.specs.Service.Events.{MakesMore, MakesNext, restarted}
use Rattle.session_laws.specs.Service.Standing.{IsServiceOf}
use Rattle.orch_core.specs.Outcomes.{KeepsChip, StepsTo, with_fault}
use Rattle.orch_core.specs.declared.answer.LogFull.{LogFull}
use Rattle.orch_core.specs.declared.answer.Step.{Step}
use Rattle.orch_core.specs.declared.answer.Step.TheVariants as step

-- a core and its chip stand for a session of the service, in any warm state
abbrev pub IsInService : CoreState → ChipState → Type 0
IsInService c chip = (s : LoggedService) × IsServiceOf c chip s

-- the core stands for the same session still, and its log is the same
pub record StaysInService (s : LoggedService) (c : CoreState) (c' : CoreState) (chip : ChipState) : Type 0 where
  pub stands : IsServiceOf c' chip s
  pub plan : c'.board.plan ≡ c.board.plan
  pub capacities : c'.sync.capacities ≡ c.sync.capacities
  pub limit : c'.limit ≡ c.limit
  pub warm : c'.warm ≡ c.warm
  pub log : c'.log ≡ c.log

-- ---- a restart

-- the core without all but its rows, what waits to be popped and its log
abbrev pub forgotten_core : CoreState → CoreState
forgotten_core c = record {
  tables = record c.tables { ops = [] };
  board = new_board c.board.plan c.sync.capacities;
  sync = new_state c.sync.capacities;
  waiting = [];
  log = c.log;
  listed = c.listed;
  limit = c.limit;
  warm = warm.Initialized;
}

-- it is made and marked; or the log has no place for its mark, and nothing is done
abbrev pub MarksRestart : CoreState → ℕ → Result (Unit {0}) LogFull → CoreState → Type 0
MarksRestart c effects (Ok _) c' = (c' ≡ restarted c effects) × (IsFullFor c effects 1 → ⊥)
MarksRestart c effects (Err full) c' = (c' ≡ c) × IsFullFor c effects 1

-- one that is made is one step of the session
abbrev pub RestartsStep : LoggedService → CoreState → ChipState → Result (Result (Unit {0}) LogFull) OutOfMemory → CoreState → Type 0
RestartsStep s c chip (Ok (Ok _)) c' = MakesNext c s c' chip
RestartsStep s c chip _ c' = c' ≡ c

-- ---- a fault on the way

-- a list of the chip, or a call of a plan, failed in one step of the session, one call of the chip, and a mark says so, with the chip's counts of faults, which differ by one; it had so many places in the log, which are enough for the mark and its own effect
pub record FaultsOnWay (need : ℕ) (ends : Bool) (s : LoggedService) (c : CoreState) (chip : ChipState) (c' : CoreState) (chip' : ChipState) : Type 0 where
  pub makes : MakesNext c s c' chip'
  pub called : chip'.calls ≡ calls_after chip.calls
  pub one : chip'.faults ≡ chip.faults + 1
  pub last : chip'.before_fault ≡ length chip.effects
  pub log : c'.log ≡ with_fault ends c.log (mark_at c (length chip'.effects) (event.Faulted chip.faults chip'.faults))
  pub warm : c'.warm ≡ warm.Suspect
  pub places : size_beside c chip'.before_fault + need ≤ c.limit
  pub few : length chip'.effects + 1 ≤ chip'.before_fault + need
  pub tables : c'.tables ≡ c.tables
  pub fails : chip'.fails ≡ chip.fails

-- ---- the list of the chip

-- what the core makes of a list, and of its log, which it gets back
abbrev pub HeedsList : Listed → History → Mark → Bool → CoreState → Step → CoreState → Type 0
HeedsList listed.Done log fault ends c r c' = (r ≡ step.Did) × (c' ≡ record c { log = log; warm = warm.Restored })
HeedsList listed.Failed log fault ends c r c' = (r ≡ step.Faulted) × (c' ≡ record c { log = with_fault ends log fault; warm = warm.Suspect })

-- the chip was listed in one step of the session, which had its place in the log
pub record ListsOnWay (s : LoggedService) (c : CoreState) (chip : ChipState) (c' : CoreState) (chip' : ChipState) : Type 0 where
  pub makes : MakesNext c s c' chip'
  pub is : c' ≡ record c { sync = with_listed c.sync (objects_of chip.objects); warm = warm.Restored }
  pub chip_is : chip' ≡ asked chip
  pub room : IsFullFor c (length chip.effects) 1 → ⊥

-- the chip was listed; the list failed, which is marked; the log has no place for the list; or it has, and memory was refused, maybe by the chip
abbrev pub ListsOut : Bool → LoggedService → CoreState → ChipState → Result Step OutOfMemory → CoreState → ChipState → Type 0
ListsOut ends s c chip (Ok step.Did) c' chip' = ListsOnWay s c chip c' chip'
ListsOut ends s c chip (Ok step.Faulted) c' chip' = FaultsOnWay 1 ends s c chip c' chip'
ListsOut ends s c chip (Ok step.LogFull) c' chip' = (c' ≡ c) × (chip' ≡ chip) × IsFullFor c (length chip.effects) 1
ListsOut ends s c chip (Ok _) c' chip' = ⊥
ListsOut ends s c chip (Err e) c' chip' = (c' ≡ c) × IsAskedOnce chip chip' × (IsFullFor c (length chip.effects) 1 → ⊥)

-- ---- the restore

-- keys were popped for a restore, and the session is the same
abbrev pub PopsForRestore : CoreState → CoreState → Type 0
PopsForRestore c c' = (t : TablesState) × (c' ≡ record c { tables = t }) × ((chip : ChipState) (s : LoggedService) → IsServiceOf c chip s → IsServiceOf c' chip s)

-- all that waited is popped, one key after the other
pub record PopsAll (old new : TablesState) : Type 0 where
  pub waiting : new.waiting ≡ []
  pub rows : (q : Key) → fields_at new.rows q ≡ row_popped q (fields_at old.rows q) old.waiting
  pub ops : new.ops ≡ ops_popped old.ops old.waiting

abbrev pub PopsBare : CoreState → Result (Unit {0}) OutOfMemory → CoreState → Type 0
PopsBare c (Ok _) c' = PopsForRestore c c' × PopsAll c.tables c'.tables
PopsBare c (Err e) c' = PopsForRestore c c'

-- of the keys gone over these are left; or memory was refused; no call was made on the chip
abbrev pub GoesOver : CoreState → List Key → ChipState → Result (Unit {0}) OutOfMemory → CoreState → ChipState → Type 0
GoesOver first rest chip (Ok _) c' chip' = IsBuilt first c' rest × (chip' ≡ chip)
GoesOver first rest chip (Err e) c' chip' = IsBeside first c' × (chip' ≡ chip)

-- at most so many calls are left for what worker 0 has under way, and one: those that are due, and those that take away what it leaves last
abbrev pub calls_leaving : Option Owner → ℕ
calls_leaving None = 0
calls_leaving (Some o) = length (shared_going o) + 1

abbrev pub calls_for : Ports → Names → Option Flown → ℕ
calls_for plan names None = 0
calls_for plan names (Some x) = length (due_for plan names x) + calls_leaving x.operation.leaves + 1

abbrev pub calls_left : BoardState → ℕ
calls_left b = calls_for b.plan b.names (flown_at b 0)

-- a call of the operation was made on the view, and fewer are left; or memory was refused; no call was made on the chip
abbrev pub CallsView : CoreState → List Key → CoreState → ChipState → Result (Unit {0}) OutOfMemory → CoreState → ChipState → Type 0
CallsView first rest c chip (Ok _) c' chip' = IsBringing first c' rest × (chip' ≡ chip) × (calls_left c'.board < calls_left c.board)
CallsView first rest c chip (Err e) c' chip' = IsBeside first c' × (chip' ≡ chip)

-- the rows were restored in one step of the session, and no worker has anything under way: its mark lists the keys that are to sync, each of which waits, and had its places in the log
pub record RestoresRows (s : LoggedService) (c : CoreState) (chip : ChipState) (c' : CoreState) : Type 0 where
  pub makes : MakesNext c s c' chip
  pub warm : c'.warm ≡ warm.Applying
  pub popped : c'.tables.waiting ≡ []
  pub free : (v : ℕ) → v < 4 → flown_at c'.board v ≡ None
  pub mode : Mode
  pub waits : Waiting
  pub lists : map (λ w. w.0) waits ≡ keys_of c'.tables.ops
  pub log : c'.log ≡ with_mark c.log (mark_at c (length chip.effects) (event.ApplyBegan mode waits))
  pub room : IsFullFor c (length chip.effects) (1 + length waits) → ⊥

-- the log has no places for the mark of a restore and for the keys that it would list
pub record IsFullForRestore (first : CoreState) (chip : ChipState) : Type 0 where
  pub built : CoreState
  pub all : IsBuilt first built []
  pub full : IsFullFor first (length chip.effects) (1 + length all.waits)

-- so it is once all that waits is popped, and the session is the same
pub record IsFullOncePopped (s : LoggedService) (c : CoreState) (chip : ChipState) : Type 0 where
  pub tables : TablesState
  pub stands : IsServiceOf (record c { tables = tables }) chip s
  pub popped : PopsAll c.tables tables
  pub full : IsFullForRestore (record c { tables = tables }) chip

-- it has none for any mark, or none for that one
abbrev pub IsFullToRestore : LoggedService → CoreState → ChipState → Type 0
IsFullToRestore s c chip = IsFullFor c (length chip.effects) 1 ⊎ IsFullOncePopped s c chip

abbrev pub BeginsOut : LoggedService → CoreState → ChipState → Result Step OutOfMemory → CoreState → Type 0
BeginsOut s first chip (Ok step.Did) c' = RestoresRows s first chip c'
BeginsOut s first chip (Ok step.LogFull) c' = IsBeside first c' × IsFullForRestore first chip
BeginsOut s first chip (Ok _) c' = ⊥
BeginsOut s first chip (Err e) c' = IsBeside first c'

abbrev pub BuildsOut : LoggedService → CoreState → ChipState → Result Step OutOfMemory → CoreState → ChipState → Type 0
BuildsOut s first chip r c' chip' = (chip' ≡ chip) × BeginsOut s first chip r c'

-- the rows were restored; the log has no places for that, or it has one for a mark and memory was refused, and then keys may have been popped, and the session is the same
abbrev pub RestoresOut : LoggedService → CoreState → ChipState → Result Step OutOfMemory → CoreState → ChipState → Type 0
RestoresOut s c chip (Ok step.Did) c' chip' = (chip' ≡ chip) × RestoresRows s c chip c'
RestoresOut s c chip (Ok step.LogFull) c' chip' = (chip' ≡ chip) × StaysInService s c c' chip × IsFullToRestore s c chip
RestoresOut s c chip (Ok _) c' chip' = ⊥
RestoresOut s c chip (Err e) c' chip' = (chip' ≡ chip) × StaysInService s c c' chip × (IsFullFor c (length chip.effects) 1 → ⊥)

-- ---- the apply

-- how many places of the log the next event of an apply needs: two for a call, and one where the end alone is marked
abbrev pub places_left : List PlanCall → ℕ
places_left [] = 1
places_left (c ∷ cs) = 2

-- what the core makes of a call of the plan, and of its log, which it gets back
abbrev pub HeedsApply : ApplyStep → History → Mark → Mark → Bool → CoreState → Step → CoreState → Type 0
HeedsApply apply_step.More log fault end ends c r c' = (r ≡ step.Did) × (c' ≡ record c { log = log })
HeedsApply apply_step.Ended log fault end ends c r c' = (r ≡ step.Did) × (c' ≡ record c { log = with_mark log end; warm = warm.Reconciled })
HeedsApply apply_step.Failed log fault end ends c r c' = (r ≡ step.Faulted) × (c' ≡ record c { log = with_fault ends log fault; warm = warm.Suspect })

-- how many calls and lists were asked of the chip after the next event of an apply: one more where a call is left
abbrev pub calls_then : List PlanCall → ℕ → ℕ
calls_then [] n = n
calls_then (c ∷ cs) n = calls_after n

-- a call of the plan was made in one step of the session, and more are left
pub record AppliesOne (s : LoggedService) (c : CoreState) (chip : ChipState) (c' : CoreState) (chip' : ChipState) : Type 0 where
  pub makes : MakesNext c s c' chip'
  pub warm : c'.warm ≡ warm.Applying
  pub log : c'.log ≡ c.log
  pub tables : c'.tables ≡ c.tables
  pub board : c'.board ≡ c.board
  pub fewer : length c'.sync.left < length c.sync.left
  pub more : 0 < length c'.sync.left
  pub room : IsFullFor c (length chip.effects) 2 → ⊥
  pub called : chip'.calls ≡ calls_after chip.calls
  pub keeps : KeepsChip c chip c' chip'

-- the last call was made, where one was left, and the end is marked: the core is reconciled; of more than one call none is the last
pub record AppliesLast (s : LoggedService) (c : CoreState) (chip : ChipState) (c' : CoreState) (chip' : ChipState) : Type 0 where
  pub makes : MakesMore 0 c s c' chip'
  pub warm : c'.warm ≡ warm.Reconciled
  pub log : c'.log ≡ with_mark c.log (mark_at c (length chip'.effects) event.ApplyEnded)
  pub tables : c'.tables ≡ c.tables
  pub board : c'.board ≡ c.board
  pub one : length c.sync.left ≤ 1
  pub few : length chip'.effects ≤ length chip.effects + length c.sync.left
  pub room : IsFullFor c (length chip.effects) (places_left c.sync.left) → ⊥
  pub called : chip'.calls ≡ calls_then c.sync.left chip.calls
  pub keeps : KeepsChip c chip c' chip'

-- a call was made, or the end is marked; the call failed, which is marked; the log has no places; or it has, and memory was refused, maybe by the chip
abbrev pub AppliesOut : Bool → LoggedService → CoreState → ChipState → Result Step OutOfMemory → CoreState → ChipState → Type 0
AppliesOut ends s c chip (Ok step.Did) c' chip' = AppliesOne s c chip c' chip' ⊎ AppliesLast s c chip c' chip'
AppliesOut ends s c chip (Ok step.Faulted) c' chip' = FaultsOnWay 2 ends s c chip c' chip'
AppliesOut ends s c chip (Ok step.LogFull) c' chip' = (c' ≡ c) × (chip' ≡ chip) × IsFullFor c (length chip.effects) (places_left c.sync.left)
AppliesOut ends s c chip (Ok _) c' chip' = ⊥
AppliesOut ends s c chip (Err e) c' chip' = (c' ≡ c) × IsAskedOnce chip chip' × (IsFullFor c (length chip.effects) (places_left c.sync.left) → ⊥)

-- ---- a step

-- while the core is suspect, nothing is done
abbrev pub StaysSuspect : CoreState → ChipState → Result Step OutOfMemory → CoreState → ChipState → Type 0
StaysSuspect c chip r c' chip' = (r ≡ Ok step.Suspect) × (c' ≡ c) × (chip' ≡ chip)

-- a step by the warm state: an event of an unfinished restart, or the first that applies to the worker
abbrev pub StepsFrom : Warm → ℕ → LoggedService → CoreState → ChipState → Result Step OutOfMemory → CoreState → ChipState → Type 0
StepsFrom warm.Initialized w s c chip r c' chip' = ListsOut false s c chip r c' chip'
StepsFrom warm.Restored w s c chip r c' chip' = RestoresOut s c chip r c' chip'
StepsFrom warm.Applying w s c chip r c' chip' = AppliesOut false s c chip r c' chip'
StepsFrom warm.Reconciled w s c chip r c' chip' = StepsTo s w c chip r c' chip'
StepsFrom warm.Suspect w s c chip r c' chip' = StaysSuspect c chip r c' chip'

-- What a settling comes to that begins in any warm state: first the core comes back from a fault and from a restart. Own.
use Rattle.std.specs.Prelude.{◌≡◌, ◌+◌, ◌++◌, ℕ, Bool, true, false, ◌<◌, List, [], ◌∷◌, length, map, None, Result, Ok, Err}
use Rattle.std.specs.Map.{keys_of}
use Rattle.swss_types.specs.declared.out_of_memory.OutOfMemory.{OutOfMemory}
use Rattle.sai_types.specs.declared.plan.Mode.{Mode}
use Rattle.sai_types.specs.ChipState.{ChipState, IsAskedOnce}
use Rattle.switch_model.specs.Marks.{Waiting}
use Rattle.switch_model.specs.declared.mark.Mark.{Mark}
use Rattle.switch_model.specs.declared.mark.MarkEvent.{MarkEvent}
use Rattle.switch_model.specs.declared.mark.MarkEvent.TheVariants as event
use Rattle.machine_laws.specs.Order.{MayEndRound}
use Rattle.restart_laws.specs.Logged.{AreLoggedSteps, LoggedService, session_after}
use Rattle.flight_board.specs.Board.{flown_at}
use Rattle.warm_state.specs.declared.warm.Warm.{Warm}
use Rattle.warm_state.specs.declared.warm.Warm.TheVariants as warm
use Rattle.session_laws.specs.Core.{CoreState, IsFullFor, mark_at}
use Rattle.session_laws.specs.Service.Standing.{IsServiceOf}
use Rattle.session_laws.specs.Workers.{StayByFirst}
use Rattle.orch_core.specs.Outcomes.{KeepsChip}
use Rattle.orch_core.specs.Restarting.{FaultsOnWay, IsFullToRestore, StaysInService, places_left}
use Rattle.orch_core.specs.Settled.{Settles}
use Rattle.orch_core.specs.declared.answer.Ran.{Ran}
use Rattle.orch_core.specs.declared.answer.Ran.TheVariants as ran
use Rattle.orch_core.specs.declared.answer.Settled.{Settled}
use Rattle.orch_core.specs.declared.answer.Settled.TheVariants as settled
use Rattle.orch_core.specs.declared.answer.Step.{Step}
use Rattle.orch_core.specs.declared.answer.Step.TheVariants as step

-- what an event after a restart came to, for a settling
abbrev pub ran_of : Step → Ran
ran_of step.Did = ran.Whole
ran_of step.Faulted = ran.Faulted
ran_of _ = ran.LogFull

-- ---- marks on the way

-- a round may end at none of these marks: they are those of restarts and applies
abbrev pub AreOnWay : List Mark → Type 0
AreOnWay [] = Unit {0}
AreOnWay (mark ∷ marks) = (MayEndRound mark.event → ⊥) × AreOnWay marks

-- how many restarts a mark is the mark of, and marks together
abbrev pub restarts_at : MarkEvent → ℕ
restarts_at event.Restarted = 1
restarts_at _ = 0

abbrev pub restarts_marked : List Mark → ℕ
restarts_marked [] = 0
restarts_marked (mark ∷ marks) = restarts_at mark.event + restarts_marked marks

-- how many restarts a settling has still to make: one where the core is suspect
abbrev pub restarts_due : Warm → ℕ
restarts_due warm.Suspect = 1
restarts_due _ = 0

-- whether the rows are still to be restored, since a fault or a restart
abbrev pub is_unrestored : Warm → Bool
is_unrestored warm.Applying = false
is_unrestored warm.Reconciled = false
is_unrestored _ = true

-- a mark of a restart, or of the beginning of an apply, counts so many writes and effects
abbrev pub CountsSo : ℕ → ℕ → Mark → MarkEvent → Type 0
CountsSo taken effects mark event.Restarted = (mark.taken ≡ taken) × (mark.effects ≡ effects)
CountsSo taken effects mark (event.ApplyBegan mode waits) = (mark.taken ≡ taken) × (mark.effects ≡ effects)
CountsSo taken effects mark _ = Unit {0}

abbrev pub CountAll : ℕ → ℕ → List Mark → Type 0
CountAll taken effects [] = Unit {0}
CountAll taken effects (mark ∷ marks) = CountsSo taken effects mark mark.event × CountAll taken effects marks

-- ---- on the way

-- the rows were restored: whole events led to a core that had just begun its apply, with its mark, which lists the keys that are to sync; its board and its tables are the later core's; and while the apply goes on no other mark is made, and then that of its end alone
pub record HasRestored (s : LoggedService) (c : CoreState) (c' : CoreState) (chip' : ChipState) : Type 0 where
  pub begun : CoreState
  pub begun_chip : ChipState
  pub then : LoggedService
  pub steps : List LoggedService
  pub are : AreLoggedSteps c.board.plan 4 c.sync.capacities s steps
  pub few : StayByFirst 0 s steps
  pub is : session_after s steps ≡ then
  pub stands : IsServiceOf begun begun_chip then
  pub plan : begun.board.plan ≡ c.board.plan
  pub capacities : begun.sync.capacities ≡ c.sync.capacities
  pub goes_on : c'.warm ≡ warm.Applying → c'.log.marks ≡ begun.log.marks
  pub ends : c'.warm ≡ warm.Reconciled → c'.log.marks ≡ begun.log.marks ++ mark_at begun (length chip'.effects) event.ApplyEnded ∷ []
  pub warm : begun.warm ≡ warm.Applying
  pub free : (v : ℕ) → v < 4 → flown_at begun.board v ≡ None
  pub popped : begun.tables.waiting ≡ []
  pub taken : begun.log.taken ≡ c.log.taken
  pub earlier : List Mark
  pub mark : Mark
  pub marks : begun.log.marks ≡ c.log.marks ++ (earlier ++ mark ∷ [])
  pub counts : mark.taken ≡ length c.log.taken
  pub mode : Mode
  pub waits : Waiting
  pub event_is : mark.event ≡ event.ApplyBegan mode waits
  pub lists : map (λ w. w.0) waits ≡ keys_of begun.tables.ops
  pub board : c'.board ≡ begun.board
  pub tables : c'.tables ≡ begun.tables

-- the rows were restored before: the board and the tables stay, and no mark is made but that of the end of an apply
pub record KeepsRestored (c : CoreState) (chip : ChipState) (c' : CoreState) (chip' : ChipState) : Type 0 where
  pub restored : is_unrestored c'.warm ≡ false
  pub board : c'.board ≡ c.board
  pub tables : c'.tables ≡ c.tables
  pub goes_on : c'.warm ≡ warm.Applying → (c.warm ≡ warm.Applying) × (c'.log.marks ≡ c.log.marks)
  pub ends : c.warm ≡ warm.Applying → c'.warm ≡ warm.Reconciled → c'.log.marks ≡ c.log.marks ++ mark_at c (length chip'.effects) event.ApplyEnded ∷ []
  pub ended : c.warm ≡ warm.Reconciled → (c'.log.marks ≡ c.log.marks) × (chip'.effects ≡ chip.effects)

-- whole events lead to this session, which is that of the later core and chip, and none where the core was reconciled: no write was taken, and no round ended; the marks that were made are those of restarts and applies, and each restart that is no longer due has its own; a mark of a restart or of the beginning of an apply counts the writes and effects that were there first, since until the rows are restored no call takes effect; the rows that are applied were restored on the way, or are as they were
pub record ComesTo (s later : LoggedService) (c : CoreState) (chip : ChipState) (c' : CoreState) (chip' : ChipState) : Type 0 where
  pub steps : List LoggedService
  pub are : AreLoggedSteps c.board.plan 4 c.sync.capacities s steps
  pub few : StayByFirst 0 s steps
  pub is : session_after s steps ≡ later
  pub stands : IsServiceOf c' chip' later
  pub plan : c'.board.plan ≡ c.board.plan
  pub capacities : c'.sync.capacities ≡ c.sync.capacities
  pub limit : c'.limit ≡ c.limit
  pub taken : c'.log.taken ≡ c.log.taken
  pub ends : c'.log.ends ≡ c.log.ends
  pub added : List Mark
  pub marks : c'.log.marks ≡ c.log.marks ++ added
  pub way : AreOnWay added
  pub counted : CountAll (length c.log.taken) (length chip.effects) added
  pub none_counted : is_unrestored c.warm ≡ false → (taken effects : ℕ) → CountAll taken effects added
  pub unmoved : is_unrestored c'.warm ≡ true → chip'.effects ≡ chip.effects
  pub restarts : restarts_marked added + restarts_due c'.warm ≡ restarts_due c.warm
  pub restored : is_unrestored c.warm ≡ true → is_unrestored c'.warm ≡ false → HasRestored s c c' chip'
  pub kept : is_unrestored c.warm ≡ false → KeepsRestored c chip c' chip'
  pub keeps : KeepsChip c chip c' chip'
  pub still : c.warm ≡ warm.Reconciled → (c' ≡ c) × (chip' ≡ chip) × (later ≡ s)

-- the log has no places for the next event of the way: a restart, a list, a restore, or a call of the plan
abbrev pub IsFullOnWay : Warm → LoggedService → CoreState → ChipState → Type 0
IsFullOnWay warm.Suspect s c chip = IsFullFor c (length chip.effects) 1
IsFullOnWay warm.Initialized s c chip = IsFullFor c (length chip.effects) 1
IsFullOnWay warm.Restored s c chip = IsFullToRestore s c chip
IsFullOnWay warm.Applying s c chip = IsFullFor c (length chip.effects) (places_left c.sync.left)
IsFullOnWay warm.Reconciled s c chip = ⊥

-- how many places the list of the chip has, or else a call of the plan
abbrev pub places_on_way : Warm → ℕ
places_on_way warm.Initialized = 1
places_on_way _ = 2

-- what stops it there: a fault, which is marked, and the round ends at the mark; no places for the next event; or want of memory; and then nothing was done, but that keys may have been popped for a restore
abbrev pub StopsOnWay : LoggedService → CoreState → ChipState → Result Ran OutOfMemory → CoreState → ChipState → Type 0
StopsOnWay s c chip (Ok ran.Whole) c' chip' = ⊥
StopsOnWay s c chip (Ok ran.Faulted) c' chip' = (restarts_due c.warm ≡ 0) × FaultsOnWay (places_on_way c.warm) true s c chip c' chip'
StopsOnWay s c chip (Ok ran.LogFull) c' chip' = (chip' ≡ chip) × StaysInService s c c' chip × IsFullOnWay c.warm s c chip
StopsOnWay s c chip (Err e) c' chip' = IsAskedOnce chip chip' × StaysInService s c c' chip'

-- the core came this far, where it is not reconciled yet, and then it was stopped
pub record StopsAfter (s : LoggedService) (c : CoreState) (chip : ChipState) (r : Result Ran OutOfMemory) (c' : CoreState) (chip' : ChipState) : Type 0 where
  pub mid : CoreState
  pub mid_chip : ChipState
  pub later : LoggedService
  pub comes : ComesTo s later c chip mid mid_chip
  pub warm : mid.warm ≡ warm.Reconciled → ⊥
  pub stops : StopsOnWay later mid mid_chip r c' chip'

-- the core came back, and is reconciled
pub record ComesBack (s : LoggedService) (c : CoreState) (chip : ChipState) (c' : CoreState) (chip' : ChipState) : Type 0 where
  pub later : LoggedService
  pub comes : ComesTo s later c chip c' chip'
  pub warm : c'.warm ≡ warm.Reconciled

-- it came back, or was stopped
abbrev pub ComesOut : LoggedService → CoreState → ChipState → Result Ran OutOfMemory → CoreState → ChipState → Type 0
ComesOut s c chip (Ok ran.Whole) c' chip' = ComesBack s c chip c' chip'
ComesOut s c chip (Ok ran.Faulted) c' chip' = StopsAfter s c chip (Ok ran.Faulted) c' chip'
ComesOut s c chip (Ok ran.LogFull) c' chip' = StopsAfter s c chip (Ok ran.LogFull) c' chip'
ComesOut s c chip (Err e) c' chip' = StopsAfter s c chip (Err e) c' chip'

-- ---- a settling

-- a settling whose core was stopped on its way back
abbrev pub StopsBack : LoggedService → CoreState → ChipState → Result Settled OutOfMemory → CoreState → ChipState → Type 0
StopsBack s c chip (Ok settled.Settled) c' chip' = ⊥
StopsBack s c chip (Ok settled.Faulted) c' chip' = StopsAfter s c chip (Ok ran.Faulted) c' chip'
StopsBack s c chip (Ok settled.LogFull) c' chip' = StopsAfter s c chip (Ok ran.LogFull) c' chip'
StopsBack s c chip (Err e) c' chip' = StopsAfter s c chip (Err e) c' chip'

-- a settling: the core comes back, by no event where it is reconciled already, and settles from there as one that is reconciled; or it is stopped on its way
pub data SettlesFrom (s : LoggedService) (c : CoreState) (chip : ChipState) (r : Result Settled OutOfMemory) (c' : CoreState) (chip' : ChipState) : Type 0 where
  Back : (mid : CoreState) (mid_chip : ChipState) (x : ComesBack s c chip mid mid_chip) → Settles x.later mid mid_chip r c' chip' → SettlesFrom s c chip r c' chip'
  Stopped : StopsBack s c chip r c' chip' → SettlesFrom s c chip r c' chip'

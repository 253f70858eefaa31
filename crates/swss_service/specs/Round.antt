-- What a round with one worker comes to. Own.
use Rattle.std.specs.Prelude.{◌≡◌, ◌⊎◌, ◌<◌, ◌≤◌, List, [], ◌++◌, length, Option, Result, Ok, Err}
use Rattle.swss_types.specs.declared.out_of_memory.OutOfMemory.{OutOfMemory}
use Rattle.table_schema.specs.declared.write.Sent.{Sent}
use Rattle.sai_types.specs.ChipState.{ChipState}
use Rattle.restart_laws.specs.Logged.{LoggedService}
use Rattle.session_laws.specs.Core.{CoreState, IsFullFor}
use Rattle.session_laws.specs.Service.Standing.{IsServiceOf}
use Rattle.orch_core.specs.ComingBack.{SettlesFrom}
use Rattle.orch_core.specs.Outcomes.{IsWithinLimit}
use Rattle.orch_core.specs.declared.answer.Settled.{Settled}
use Rattle.swss_script.specs.Sent.{restarts_in, sent_after, writes_in}
use Rattle.swss_script.specs.declared.parts.Section.{Section}
use Rattle.swss_service.specs.Made.{restarts_made, with_made, writes_among}
use Rattle.swss_service.specs.Taking.{acts_in, acts_made}
use Rattle.swss_service.specs.declared.ending.RoundEnd.{RoundEnd}
use Rattle.swss_service.specs.declared.ending.RoundEnd.TheVariants as end

-- all acts of the sections were made, in the script's order: their writes were taken, and their restarts made
pub record AreAllMade (sections : List Section) (old : CoreState) (chip : ChipState) (mid : CoreState) : Type 0 where
  pub made : List (Option Sent)
  pub order : made ≡ acts_made [] (acts_in sections)
  pub is : mid ≡ with_made (length chip.effects) old made
  pub writes : writes_among made ≡ sent_after [] (writes_in sections)
  pub restarts : restarts_made made ≡ restarts_in sections
  pub places : IsWithinLimit old chip → IsWithinLimit mid chip

-- the first of them were: these writes are left
pub record AreSomeMade (sections : List Section) (old : CoreState) (chip : ChipState) (mid : CoreState) (left : List Sent) : Type 0 where
  pub made : List (Option Sent)
  pub later : List (Option Sent)
  pub order : made ++ later ≡ acts_made [] (acts_in sections)
  pub is : mid ≡ with_made (length chip.effects) old made
  pub writes : writes_among made ++ left ≡ sent_after [] (writes_in sections)
  pub restarts : restarts_made made ≤ restarts_in sections
  pub places : IsWithinLimit old chip → IsWithinLimit mid chip

-- and what was made of them is settled
pub record SettlesActs (sections : List Section) (old : CoreState) (chip : ChipState) (r : Result Settled OutOfMemory) (new : CoreState) (chip' : ChipState) : Type 0 where
  pub mid : CoreState
  pub all : AreAllMade sections old chip mid
  pub settles : (s : LoggedService) → IsServiceOf mid chip s → SettlesFrom s mid chip r new chip'

-- the log is full for one place more, where a write of these, or a restart, is due
pub record FillsUp (sections : List Section) (old : CoreState) (chip : ChipState) (new : CoreState) : Type 0 where
  pub left : List Sent
  pub some : AreSomeMade sections old chip new left
  pub full : IsFullFor new (length chip.effects) 1
  pub due : (1 ≤ length left) ⊎ (restarts_made some.made < restarts_in sections)

-- by how the round ended: it was settled; the log had no place for the next act; or memory was refused, before all acts were made, or in the settling
abbrev pub RoundsTo : List Section → CoreState → ChipState → RoundEnd → CoreState → ChipState → Type 0
RoundsTo sections old chip (end.Ran r) new chip' = SettlesActs sections old chip (Ok r) new chip'
RoundsTo sections old chip end.LogFull new chip' = (chip' ≡ chip) × FillsUp sections old chip new
RoundsTo sections old chip end.NoMemory new chip' = ((chip' ≡ chip) × (left : List Sent) × AreSomeMade sections old chip new left) ⊎ ((e : OutOfMemory) × SettlesActs sections old chip (Err e) new chip')

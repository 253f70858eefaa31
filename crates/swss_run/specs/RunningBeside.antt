-- What running a round by several workers comes to. Own.
use Rattle.std.specs.Prelude.{◌≡◌, ◌⊎◌, ℕ, ◌+◌, ◌<◌, ◌≤◌, true, false, List, [], ◌++◌, length, Option}
use Rattle.swss_types.specs.Outside.{HasRisen, Takes}
use Rattle.table_schema.specs.SentBy.{sent_of}
use Rattle.table_schema.specs.declared.write.Sent.{Sent}
use Rattle.sai_types.specs.ChipState.{ChipState}
use Rattle.sai_chip.specs.Replay.{IsReplayOf, Replayed}
use Rattle.switch_model.specs.History.{log_size}
use Rattle.switch_model.specs.Sound.{is_suspect}
use Rattle.session_laws.specs.Core.{CoreState}
use Rattle.round_laws.specs.Named.{keys_named}
use Rattle.round_laws.specs.Sessions.{InSession}
use Rattle.round_actors.specs.Round.{HasFront, own_sent}
use Rattle.swss_script.specs.declared.parts.Round.{Round}
use Rattle.swss_service.specs.Faults.{FaultsRise}
use Rattle.swss_run.specs.Beside.{EndsAtLast}
use Rattle.swss_run.specs.Output.{TakesPart}
use Rattle.swss_run.specs.Restarts.{HasFewRestarts, HasRestarts}
use Rattle.swss_run.specs.Rounds.{Ran}
use Rattle.swss_run.specs.Running.{HasLines, KeepsPlan, TakesSome, with_round}
use Rattle.swss_run.specs.Session.{log_limit}
use Rattle.swss_run.specs.declared.status.Status.{Status}
use Rattle.swss_run.specs.declared.status.Status.TheVariants as status

-- a core and its chip in a session by so many workers: the log is within its limit, and the faults that are marked are the chip's
pub record IsInRun (workers : ℕ) (core : CoreState) (sim : ChipState) : Type 0 where
  pub within : InSession workers core sim
  pub places : log_size core.log (length sim.effects) ≤ core.limit
  pub faults : FaultsRise 0 core.log.marks sim.faults

-- and the replay has followed the chip: a round may begin
pub record IsRunReadyBeside (workers : ℕ) (core : CoreState) (sim : ChipState) (replay : Replayed) : Type 0 where
  pub here : IsInRun workers core sim
  pub follows : IsReplayOf replay sim.effects
  pub at_end : replay.at ≡ length sim.effects

-- a session whose first writes were taken, and in which nothing else was done
pub record IsOpened (workers : ℕ) (first : List Sent) (core : CoreState) (sim : ChipState) : Type 0 where
  pub here : IsInRun workers core sim
  pub limit : core.limit ≡ log_limit
  pub log : core.log ≡ record { taken = first; marks = []; ends = [] }
  pub effects : sim.effects ≡ []

-- the round ended: of each producer all its writes were taken, its restarts were made, and its last mark counts the writes and the calls
pub record EndsBeside (workers : ℕ) (round : Round) (old : CoreState) (sim : ChipState) (ran : Ran) (new : CoreState) (sim' : ChipState) : Type 0 where
  pub here : IsInRun workers new sim'
  pub same : KeepsPlan old new
  pub at_mark : EndsAtLast (length old.log.taken) (length sim.effects) ran
  pub sent : (p : ℕ) → sent_of p ran.sent ≡ own_sent p round.sections
  pub restarts : HasRestarts (is_suspect old.log.marks) round ran.marks
  pub log : new.log ≡ with_round old.log ran
  pub calls : sim'.effects ≡ sim.effects ++ ran.calls

-- the round did not end: of each producer some of its writes were taken, and some restarts made
pub record StopsBeside (workers : ℕ) (round : Round) (old : CoreState) (sim : ChipState) (new : CoreState) (sim' : ChipState) : Type 0 where
  pub here : IsInRun workers new sim'
  pub same : KeepsPlan old new
  pub since : Ran
  pub fronts : (p : ℕ) → HasFront (own_sent p round.sections) (sent_of p since.sent)
  pub restarts : HasFewRestarts (is_suspect old.log.marks) round since.marks
  pub log : new.log ≡ record { taken = old.log.taken ++ since.sent; marks = old.log.marks ++ since.marks; ends = old.log.ends }
  pub calls : sim'.effects ≡ sim.effects ++ since.calls

-- the round ended so, and its lines were written: the next may begin
pub record GoesOnBeside (workers number : ℕ) (round : Round) (old : CoreState) (sim : ChipState) (held : Option (List ℕ)) (new : CoreState) (sim' : ChipState) (replay : Replayed) (held' : Option (List ℕ)) : Type 0 where
  pub ran : Ran
  pub lines : List ℕ
  pub ends : EndsBeside workers round old sim ran new sim'
  pub has : HasLines number round old sim ran lines
  pub took : Takes held lines held'
  pub ready : IsRunReadyBeside workers new sim' replay

-- what a round came to, by the status
abbrev pub IsRoundRunBeside : ℕ → ℕ → Round → CoreState → ChipState → Option (List ℕ) → ℕ → Status → CoreState → ChipState → Replayed → Option (List ℕ) → ℕ → Type 0
IsRoundRunBeside workers number round old sim held faults status.Done new sim' replay held' faults' =
    GoesOnBeside workers number round old sim held new sim' replay held' × (is_suspect new.log.marks ≡ false)
IsRoundRunBeside workers number round old sim held faults status.ChipFault new sim' replay held' faults' =
    GoesOnBeside workers number round old sim held new sim' replay held' × (is_suspect new.log.marks ≡ true) × (0 < sim'.faults)
IsRoundRunBeside workers number round old sim held faults status.WriteFault new sim' replay held' faults' =
    (ran : Ran) × (lines : List ℕ) × EndsBeside workers round old sim ran new sim' × HasLines number round old sim ran lines × TakesPart held lines held' × HasRisen faults faults'
IsRoundRunBeside workers number round old sim held faults status.LogFull new sim' replay held' faults' =
    StopsBeside workers round old sim new sim' × (new.limit < log_size new.log (length sim'.effects) + 2 + length (keys_named new.log.taken)) × (held' ≡ held)
IsRoundRunBeside workers number round old sim held faults status.OutOfMemory new sim' replay held' faults' =
    (StopsBeside workers round old sim new sim' × (held' ≡ held)) ⊎ ((ran : Ran) × EndsBeside workers round old sim ran new sim' × TakesSome number round old sim ran held held')
IsRoundRunBeside workers number round old sim held faults _ new sim' replay held' faults' = ⊥

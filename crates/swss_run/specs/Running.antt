-- What running a round comes to. Own.
use Rattle.std.specs.Prelude.{◌≡◌, ◌⊎◌, ℕ, ◌+◌, ◌<◌, ◌≤◌, true, false, List, [], ◌∷◌, ◌++◌, length, drop, Option, Result, Ok, Err}
use Rattle.swss_types.specs.Outside.{HasRisen, Takes}
use Rattle.swss_types.specs.declared.out_of_memory.OutOfMemory.{OutOfMemory}
use Rattle.table_schema.specs.Rows.{rows_of}
use Rattle.table_schema.specs.declared.write.Sent.{Sent}
use Rattle.sai_types.specs.ChipState.{ChipState}
use Rattle.sai_chip.specs.Replay.{IsReplayOf, Replayed}
use Rattle.switch_model.specs.History.{History, log_size}
use Rattle.switch_model.specs.Marks.{sent_writes}
use Rattle.switch_model.specs.Sound.{is_suspect}
use Rattle.switch_model.specs.declared.mark.Mark.{Mark}
use Rattle.machine_laws.specs.Order.{MayEndRound}
use Rattle.session_laws.specs.Core.{CoreState}
use Rattle.round_laws.specs.Between.{IsReadyForRound, mark_of}
use Rattle.round_laws.specs.Named.{keys_named}
use Rattle.round_laws.specs.Sessions.{InSession}
use Rattle.orch_core.specs.ComingBack.{AreOnWay}
use Rattle.orch_core.specs.Outcomes.{IsWithinLimit}
use Rattle.orch_core.specs.declared.answer.Settled.{Settled}
use Rattle.orch_core.specs.declared.answer.Settled.TheVariants as settled
use Rattle.swss_script.specs.Sent.{sent_in_round}
use Rattle.swss_script.specs.declared.parts.Round.{Round}
use Rattle.swss_script.specs.declared.parts.Show.{Show}
use Rattle.swss_report.specs.Ended.{Ended}
use Rattle.swss_report.specs.Round.{IsRoundText}
use Rattle.swss_service.specs.Faults.{FaultsRise}
use Rattle.swss_service.specs.declared.ending.RoundEnd.{RoundEnd}
use Rattle.swss_service.specs.declared.ending.RoundEnd.TheVariants as end
use Rattle.swss_run.specs.Faults.{places_beside}
use Rattle.swss_run.specs.Full.{IsFull}
use Rattle.swss_run.specs.Output.{TakesFront, TakesPart}
use Rattle.swss_run.specs.Restarts.{HasFewRestarts, HasRestarts}
use Rattle.swss_run.specs.Rounds.{AreFenced, Ran, round_end}
use Rattle.swss_run.specs.Turned.{DrainsBehind, IsRoundTurned, IsSinceTurned}
use Rattle.swss_run.specs.declared.status.Status.{Status}
use Rattle.swss_run.specs.declared.status.Status.TheVariants as status

-- a session between two rounds: the next may begin, the replay has followed the chip, the log is within its limit, and the faults that are marked are the chip's
pub record IsRunReady (core : CoreState) (sim : ChipState) (replay : Replayed) : Type 0 where
  pub ready : IsReadyForRound 1 core sim
  pub follows : IsReplayOf replay sim.effects
  pub at_end : replay.at ≡ length sim.effects
  pub places : log_size core.log (length sim.effects) ≤ core.limit
  pub faults : FaultsRise 0 core.log.marks sim.faults

-- the plan, the room and the places of the log stay
pub record KeepsPlan (old new : CoreState) : Type 0 where
  pub plan : new.board.plan ≡ old.board.plan
  pub capacities : new.sync.capacities ≡ old.sync.capacities
  pub limit : new.limit ≡ old.limit

-- a log behind a round that ended
abbrev pub with_round : History → Ran → History
with_round log ran = record { taken = log.taken ++ ran.sent; marks = log.marks ++ ran.marks; ends = log.ends ++ length (log.marks ++ ran.marks) ∷ [] }

-- the round ended: all its writes were taken and its restarts made, and its last mark counts the writes and the calls
pub record EndsRound (round : Round) (old : CoreState) (sim : ChipState) (ran : Ran) (new : CoreState) (sim' : ChipState) : Type 0 where
  pub before : List Mark
  pub mark : Mark
  pub marks : ran.marks ≡ before ++ mark ∷ []
  pub way : AreOnWay before
  pub fenced : AreFenced (length old.log.taken) (length old.log.taken + length ran.sent) (length sim.effects) before
  pub settling : MayEndRound mark.event
  pub sent : ran.sent ≡ sent_in_round round
  pub restarts : HasRestarts (is_suspect old.log.marks) round ran.marks
  pub taken : mark.taken ≡ length (old.log.taken ++ ran.sent)
  pub effects : mark.effects ≡ length (sim.effects ++ ran.calls)
  pub log : new.log ≡ with_round old.log ran
  pub calls : sim'.effects ≡ sim.effects ++ ran.calls
  pub turned : IsRoundTurned old.board.plan old.sync.capacities (mark_of old) old.log.taken sim.effects ran
  pub drained : DrainsBehind old.board.plan old.sync.capacities old.log.taken ran
  pub within : InSession 1 new sim'
  pub same : KeepsPlan old new
  pub places : log_size new.log (length sim'.effects) ≤ new.limit
  pub fault_places : is_suspect new.log.marks ≡ true → log_size new.log sim'.before_fault + places_beside new.log.marks ≤ new.limit
  pub faults : FaultsRise 0 new.log.marks sim'.faults

-- so far this came in a round, and it did not end: writes were taken, the marks made are those of restarts and applies, calls took effect, and the log is within its limit
pub record HasCome (old : CoreState) (chip : ChipState) (since : Ran) (new : CoreState) (chip' : ChipState) : Type 0 where
  pub log : new.log ≡ record { taken = old.log.taken ++ since.sent; marks = old.log.marks ++ since.marks; ends = old.log.ends }
  pub calls : chip'.effects ≡ chip.effects ++ since.calls
  pub way : AreOnWay since.marks
  pub fenced : AreFenced (length old.log.taken) (length old.log.taken + length since.sent) (length chip.effects) since.marks
  pub within : InSession 1 new chip'
  pub same : KeepsPlan old new
  pub limit : IsWithinLimit new chip'
  pub faults : FaultsRise 0 new.log.marks chip'.faults

-- the round did not end: some of its writes were taken, and some restarts made
pub record StopsRound (round : Round) (old : CoreState) (sim : ChipState) (new : CoreState) (sim' : ChipState) : Type 0 where
  pub since : Ran
  pub rest : List Sent
  pub front : sent_in_round round ≡ since.sent ++ rest
  pub restarts : HasFewRestarts (is_suspect old.log.marks) round since.marks
  pub come : HasCome old sim since new sim'

-- and its calls are those of its turns so far
abbrev pub StopsInTurns : Round → CoreState → ChipState → CoreState → ChipState → Type 0
StopsInTurns round old sim new sim' = (stops : StopsRound round old sim new sim') × IsSinceTurned old.board.plan old.sync.capacities (mark_of old) old.log.taken sim.effects stops.since

-- how a settling that answered so ends the round, or the run
abbrev pub settling_ended : Result Settled OutOfMemory → Result Status Status
settling_ended (Ok settled.Settled) = Ok status.Done
settling_ended (Ok settled.Faulted) = Ok status.ChipFault
settling_ended (Ok settled.LogFull) = Err status.LogFull
settling_ended (Err e) = Err status.OutOfMemory

-- and how a round that ended so does
abbrev pub round_ended : RoundEnd → Result Status Status
round_ended (end.Ran r) = settling_ended (Ok r)
round_ended end.LogFull = Err status.LogFull
round_ended end.NoMemory = Err status.OutOfMemory

-- what stands when a round has ended with this core and this chip, before which there were so many marks
abbrev pub ended_now : CoreState → ChipState → ℕ → ℕ → Ended
ended_now core chip number before = record {
  plan = core.board.plan;
  number = number;
  marks = drop before core.log.marks;
  taken = length core.log.taken;
  rows = rows_of (sent_writes core.log.taken);
  capacities = chip.capacities;
  objects = chip.objects;
  effects = chip.effects;
}

-- the lines of a round were written, which ended with this status and before which so many calls took effect: all of them, and then the replay has followed the chip; or a part where the sink failed, and a front where it found no memory; or nothing where there was none for them
pub data IsWritten (e : Ended) (before : ℕ) (shows : List Show) (ended : Status) (held : Option (List ℕ)) (faults : ℕ) (result : Status) (replay : Replayed) (held' : Option (List ℕ)) (faults' : ℕ) : Type 0 where
  Whole : (lines : List ℕ) → IsRoundText e before shows lines → Takes held lines held' → IsReplayOf replay e.effects → replay.at ≡ length e.effects → result ≡ ended → IsWritten e before shows ended held faults result replay held' faults'
  Failed : (lines : List ℕ) → IsRoundText e before shows lines → TakesPart held lines held' → HasRisen faults faults' → result ≡ status.WriteFault → IsWritten e before shows ended held faults result replay held' faults'
  Wanting : (lines : List ℕ) → IsRoundText e before shows lines → TakesFront held lines held' → result ≡ status.OutOfMemory → IsWritten e before shows ended held faults result replay held' faults'
  Unwritten : held' ≡ held → result ≡ status.OutOfMemory → IsWritten e before shows ended held faults result replay held' faults'

-- the lines of a round that ended, where so many ended before it
pub record HasLines (number : ℕ) (round : Round) (old : CoreState) (sim : ChipState) (ran : Ran) (lines : List ℕ) : Type 0 where
  pub before : ℕ
  pub number_is : number ≡ before + 1
  pub text : IsRoundText (round_end old.board.plan old.sync.capacities before old.log.taken sim.effects ran) (length sim.effects) round.shows lines

-- the sink took a front of the lines of the round, or nothing
abbrev pub TakesSome : ℕ → Round → CoreState → ChipState → Ran → Option (List ℕ) → Option (List ℕ) → Type 0
TakesSome number round old sim ran held held' = (held' ≡ held) ⊎ ((lines : List ℕ) × HasLines number round old sim ran lines × TakesFront held lines held')

-- what a round came to, by the status
abbrev pub IsRoundRun : ℕ → Round → CoreState → ChipState → Option (List ℕ) → ℕ → Status → CoreState → ChipState → Replayed → Option (List ℕ) → ℕ → Type 0
IsRoundRun number round old sim held faults status.Done new sim' replay held' faults' =
    (ran : Ran) × (lines : List ℕ) × EndsRound round old sim ran new sim' × HasLines number round old sim ran lines × Takes held lines held' × (is_suspect new.log.marks ≡ false) × IsRunReady new sim' replay
IsRoundRun number round old sim held faults status.ChipFault new sim' replay held' faults' =
    (ran : Ran) × (lines : List ℕ) × EndsRound round old sim ran new sim' × HasLines number round old sim ran lines × Takes held lines held' × (is_suspect new.log.marks ≡ true) × (0 < sim'.faults) × IsRunReady new sim' replay
IsRoundRun number round old sim held faults status.WriteFault new sim' replay held' faults' =
    (ran : Ran) × (lines : List ℕ) × EndsRound round old sim ran new sim' × HasLines number round old sim ran lines × TakesPart held lines held' × HasRisen faults faults'
IsRoundRun number round old sim held faults status.LogFull new sim' replay held' faults' =
    (stops : StopsInTurns round old sim new sim') × IsFull new.board.plan new.sync.capacities new.limit round new.log sim' stops.0.since stops.0.come.within.session × (new.limit < log_size new.log (length sim'.effects) + 2 + length (keys_named new.log.taken)) × (held' ≡ held)
IsRoundRun number round old sim held faults status.OutOfMemory new sim' replay held' faults' =
    (StopsInTurns round old sim new sim' × (held' ≡ held)) ⊎ ((ran : Ran) × EndsRound round old sim ran new sim' × TakesSome number round old sim ran held held')
IsRoundRun number round old sim held faults _ new sim' replay held' faults' = ⊥

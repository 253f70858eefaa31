-- What a session comes to: the writes taken, the marks, the chip and the report. Own.
use Rattle.std.specs.Prelude.{◌≡◌, ℕ, ◌+◌, ◌*◌, ◌<◌, ◌≤◌, true, false, List, [], ◌++◌, length, slice_get, Option, Some, None}
use Rattle.table_schema.specs.Plan.{Ports}
use Rattle.sai_types.specs.ChipState.{ChipState}
use Rattle.switch_model.specs.History.{History, log_size}
use Rattle.switch_model.specs.Promises.{EffectsAreLegal, MarksAreTrue}
use Rattle.switch_model.specs.Sound.{AreWithin, is_suspect}
use Rattle.machine_laws.specs.Bounds.{most_calls}
use Rattle.machine_laws.specs.Order.{IsOrdered}
use Rattle.restart_laws.specs.Applied.{AreFollowed}
use Rattle.restart_laws.specs.Bounded.{effects_outside, listed_at_applies}
use Rattle.restart_laws.specs.Logged.{LoggedService, last_mark}
use Rattle.round_laws.specs.Awaited.{HasRecorded}
use Rattle.round_laws.specs.Named.{keys_named}
use Rattle.round_laws.specs.Sessions.{BeginNoApply}
use Rattle.swss_script.specs.declared.parts.Round.{Round}
use Rattle.restart_laws.specs.BrokenOff.{AreSteadyOverBreaks}
use Rattle.swss_service.specs.Faults.{FaultsRise}
use Rattle.swss_run.specs.Faults.{places_beside}
use Rattle.swss_run.specs.Full.{IsFull}
use Rattle.swss_run.specs.Report.{TookFront, TookPart, TookReport}
use Rattle.swss_run.specs.Restarts.{AreRestarted}
use Rattle.swss_run.specs.Rounds.{AreTaken, IsCutInRounds, Ran, AreEndsRising, all_calls, all_marks, all_sent, nothing_ran}
use Rattle.swss_run.specs.Turned.{AreDrained, AreTurned, IsSinceTurned}
use Rattle.swss_run.specs.declared.run.TheConstants.{LOG_LIMIT}
use Rattle.swss_run.specs.declared.status.Status.{Status}
use Rattle.swss_run.specs.declared.status.Status.TheVariants as status
use Rattle.sai_types.specs.After.{chip_after}

-- how many places the log has
abbrev pub log_limit : ℕ
log_limit = LOG_LIMIT

-- the log of the run is full: an event of the round that did not end needs more places than are left; and so the places, 2 more and one for each key that was written are more than the log has
pub record HasNoPlace (plan : Ports) (capacities : List ℕ) (rounds : List Round) (rans : List Ran) (since : Ran) (log : History) (chip : ChipState) (run : LoggedService) : Type 0 where
  pub round : Round
  pub next : slice_get rounds (length rans) ≡ Some round
  pub full : IsFull plan capacities log_limit round log chip since run
  pub many : log_limit < log_size log (length chip.effects) + 2 + length (keys_named log.taken)

-- the last round ended at its mark; where the chip failed, the call at which it did found its places, for its effect, if it may have one, and for the mark
pub record HasEnded (since : Ran) (log : History) (chip : ChipState) : Type 0 where
  pub none : since ≡ nothing_ran
  pub fault_places : is_suspect log.marks ≡ true → log_size log chip.before_fault + places_beside log.marks ≤ log_limit

-- what the status says of the rounds that ended, of the places that were left in the log, and of what the sink took: the whole report where all rounds ended, the last with or without a fault of the chip, and where the log is full; a front of it, and not all, where the sink failed; a front of that of some of the rounds where memory was refused
abbrev pub IsReported : Status → Ports → List ℕ → List Round → List Ran → Ran → History → ChipState → LoggedService → Option (List ℕ) → Option (List ℕ) → Type 0
IsReported status.Done plan capacities rounds rans since log chip run held held' =
    HasEnded since log chip × (length rans ≡ length rounds) × (is_suspect log.marks ≡ false) × TookReport plan capacities rans rounds held held'
IsReported status.ChipFault plan capacities rounds rans since log chip run held held' =
    HasEnded since log chip × (length rans ≡ length rounds) × (is_suspect log.marks ≡ true) × (0 < chip.faults) × TookReport plan capacities rans rounds held held'
IsReported status.WriteFault plan capacities rounds rans since log chip run held held' =
    HasEnded since log chip × TookPart plan capacities rans rounds held held'
IsReported status.LogFull plan capacities rounds rans since log chip run held held' =
    HasNoPlace plan capacities rounds rans since log chip run × TookReport plan capacities rans rounds held held'
IsReported status.OutOfMemory plan capacities rounds rans since log chip run held held' =
    (told : List Ran) × (untold : List Ran) × (rans ≡ told ++ untold) × TookFront plan capacities told rounds held held'
IsReported _ plan capacities rounds rans since log chip run held held' = ⊥

-- for any number of workers: the log and the effects are the record of one run of the service's machine, by at most so many workers, from its beginning over an empty chip. Of all that was made: every chip call was legal; outside applies at most so many took effect as an operation makes for each write taken and each key listed where an apply began, and where none began, for each write; every mark is true, counts no fewer writes and calls than the mark before it and no more than there are, and stands where it may; each event found its places in the log; of each apply, what holds while it is made, and of applies that are broken off one after the other, what holds over them all; each fault of the chip has its mark; and the ends of rounds rise
pub record IsRunRecorded (workers : ℕ) (plan : Ports) (capacities : List ℕ) (log : History) (chip : ChipState) : Type 0 where
  pub run : LoggedService
  pub recorded : HasRecorded workers plan capacities log chip.effects run
  pub room : chip.capacities ≡ capacities
  pub clean : chip.clean ≡ true
  pub objects : chip.objects ≡ chip_after chip.effects (length chip.effects)
  pub legality : EffectsAreLegal plan capacities log.taken chip.effects
  pub few : effects_outside None log.marks (length chip.effects) ≤ most_calls * (length log.taken + listed_at_applies log.marks)
  pub all_few : BeginNoApply log.marks → length chip.effects ≤ most_calls * length log.taken
  pub marks : MarksAreTrue plan capacities log chip.effects
  pub counts : AreWithin (length log.taken) (length chip.effects) log.marks
  pub order : IsOrdered log
  pub places : log_size log (length chip.effects) ≤ log_limit
  pub applies : AreFollowed plan capacities log.taken chip.effects log.marks
  pub breaks : AreSteadyOverBreaks plan log.taken chip.effects log.marks
  pub faults : FaultsRise 0 log.marks chip.faults
  pub rise : AreEndsRising 0 log.ends

-- a session over rounds, by one worker. Of the rounds: the writes taken are theirs in order and each once, they restarted as often as their sections say, or once more behind a fault; the calls of each round that ended with its settling are those of its turns, which leave quiet rows alone and drain where there is room: all of them, where it neither follows a fault nor restarted, and else those behind the end of its last apply; and where a fault cut it off there, or it did not end, they are those of its turns so far. And the sink took what the status says of the report
pub record IsSession (plan : Ports) (capacities : List ℕ) (rounds : List Round) (ended : Status) (log : History) (chip : ChipState) (held held' : Option (List ℕ)) : Type 0 where
  pub recorded : IsRunRecorded 1 plan capacities log chip
  pub rans : List Ran
  pub since : Ran
  pub cut : IsCutInRounds log chip.effects rans since
  pub writes : AreTaken rans rounds since.sent
  pub restarts : AreRestarted false rans rounds since.marks
  pub turned : AreTurned plan capacities None [] [] rans
  pub since_turned : IsSinceTurned plan capacities (last_mark None (all_marks rans)) (all_sent rans) (all_calls rans) since
  pub drained : AreDrained plan capacities [] rans
  pub reported : IsReported ended plan capacities rounds rans since log chip recorded.run held held'

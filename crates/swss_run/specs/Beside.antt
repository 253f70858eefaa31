-- The rounds of a session by several workers: what the log and the chip's calls say of each. Own.
use Rattle.std.specs.Prelude.{◌≡◌, ◌⊎◌, ℕ, ◌+◌, ◌<◌, true, false, List, [], ◌∷◌, ◌++◌, length, Option}
use Rattle.table_schema.specs.Plan.{Ports}
use Rattle.table_schema.specs.SentBy.{sent_of}
use Rattle.table_schema.specs.declared.write.Sent.{Sent}
use Rattle.sai_types.specs.ChipState.{ChipState}
use Rattle.sai_types.specs.declared.ids.Rid.{Rid}
use Rattle.sai_types.specs.declared.body.Call.{Call}
use Rattle.switch_model.specs.History.{History, log_size}
use Rattle.switch_model.specs.Sound.{is_suspect}
use Rattle.switch_model.specs.declared.mark.Mark.{Mark}
use Rattle.machine_laws.specs.Order.{MayEndRound}
use Rattle.round_laws.specs.Named.{keys_named}
use Rattle.round_actors.specs.Round.{HasFront, own_sent}
use Rattle.swss_script.specs.declared.parts.Round.{Round}
use Rattle.swss_run.specs.Report.{TookFront, TookPart, TookReport}
use Rattle.swss_run.specs.Restarts.{AreRestarted}
use Rattle.swss_run.specs.Rounds.{Ran, all_calls, all_marks, all_sent, ends_from, nothing_ran}
use Rattle.swss_run.specs.Session.{IsRunRecorded, log_limit}
use Rattle.swss_run.specs.declared.status.Status.{Status}
use Rattle.swss_run.specs.declared.status.Status.TheVariants as status

-- a round, before which so many writes were taken and so many calls took effect, ends at its last mark: that of a settling that ended or of a fault. It counts the writes and the calls up to it
pub record EndsAtLast (sent calls : ℕ) (ran : Ran) : Type 0 where
  pub before : List Mark
  pub mark : Mark
  pub marks : ran.marks ≡ before ++ mark ∷ []
  pub settling : MayEndRound mark.event
  pub taken : mark.taken ≡ sent + length ran.sent
  pub effects : mark.effects ≡ calls + length ran.calls

abbrev pub EndAtLasts : ℕ → ℕ → List Ran → Type 0
EndAtLasts sent calls [] = Unit {0}
EndAtLasts sent calls (ran ∷ rans) = EndsAtLast sent calls ran × EndAtLasts (sent + length ran.sent) (calls + length ran.calls) rans

-- the log and the chip's calls are those of the rounds that ended, and then what came since
pub record IsCutBeside (log : History) (done : List (Call Rid)) (rans : List Ran) (since : Ran) : Type 0 where
  pub marks : log.marks ≡ all_marks rans ++ since.marks
  pub ends : log.ends ≡ ends_from 0 rans
  pub taken : log.taken ≡ all_sent rans ++ since.sent
  pub effects : done ≡ all_calls rans ++ since.calls
  pub at_marks : EndAtLasts 0 0 rans

-- of each round that ended, of each producer exactly the writes of its sections were taken, each once and in order, and none of anybody else; what was taken since is of each producer a front of the next round's, and nothing where there is none. The sender 0 counts as a producer here: its section is the image
abbrev pub AreTakenBeside : List Ran → List Round → List Sent → Type 0
AreTakenBeside [] [] sent = sent ≡ []
AreTakenBeside [] (round ∷ rounds) sent = (p : ℕ) → HasFront (own_sent p round.sections) (sent_of p sent)
AreTakenBeside (ran ∷ rans) [] sent = ⊥
AreTakenBeside (ran ∷ rans) (round ∷ rounds) sent = ((p : ℕ) → sent_of p ran.sent ≡ own_sent p round.sections) × AreTakenBeside rans rounds sent

-- these are the first writes taken; where fewer were taken, they are a front of these, and no round began
abbrev pub BeginsWithRows : List Sent → History → List (Call Rid) → Type 0
BeginsWithRows first log done = ((more : List Sent) × (log.taken ≡ first ++ more)) ⊎ ((left : List Sent) × (first ≡ log.taken ++ left) × (log.marks ≡ []) × (done ≡ []))

-- what the status says of the rounds that ended and of what the sink took: the whole report where all rounds ended, the last at the mark of its settling or at that of a fault; a front, and not all, of that of the rounds that ended, where the sink failed; the whole of that where the log is full, which has fewer places left than any event can need; and a front of that of some of them where memory was refused
abbrev pub IsReportedBeside : Status → Ports → List ℕ → List Round → List Ran → Ran → History → ChipState → Option (List ℕ) → Option (List ℕ) → Type 0
IsReportedBeside status.Done plan capacities rounds rans since log chip held held' =
    (since ≡ nothing_ran) × (length rans ≡ length rounds) × (is_suspect log.marks ≡ false) × TookReport plan capacities rans rounds held held'
IsReportedBeside status.ChipFault plan capacities rounds rans since log chip held held' =
    (since ≡ nothing_ran) × (length rans ≡ length rounds) × (is_suspect log.marks ≡ true) × (0 < chip.faults) × TookReport plan capacities rans rounds held held'
IsReportedBeside status.WriteFault plan capacities rounds rans since log chip held held' =
    (since ≡ nothing_ran) × TookPart plan capacities rans rounds held held'
IsReportedBeside status.LogFull plan capacities rounds rans since log chip held held' =
    (length rans < length rounds) × (log_limit < log_size log (length chip.effects) + 2 + length (keys_named log.taken)) × TookReport plan capacities rans rounds held held'
IsReportedBeside status.OutOfMemory plan capacities rounds rans since log chip held held' =
    (told : List Ran) × (untold : List Ran) × (rans ≡ told ++ untold) × TookFront plan capacities told rounds held held'
IsReportedBeside _ plan capacities rounds rans since log chip held held' = ⊥

-- a session over rounds, by any number of workers: all that IsSession says of one worker but for what says that nothing comes between its events, which are the order in which the writes of different producers come, the fences between calls and marks, the turns, the places of a call that failed, and the event that found the log full
pub record IsSessionBeside (workers : ℕ) (plan : Ports) (capacities : List ℕ) (rounds : List Round) (ended : Status) (log : History) (chip : ChipState) (held held' : Option (List ℕ)) : Type 0 where
  pub recorded : IsRunRecorded workers plan capacities log chip
  pub rans : List Ran
  pub since : Ran
  pub cut : IsCutBeside log chip.effects rans since
  pub writes : AreTakenBeside rans rounds since.sent
  pub restarts : AreRestarted false rans rounds since.marks
  pub reported : IsReportedBeside ended plan capacities rounds rans since log chip held held'

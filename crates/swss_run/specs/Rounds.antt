-- The rounds of a session that ended: what the log and the chip's calls say of each, and what it prints. Own.
use Rattle.std.specs.Prelude.{◌≡◌, ℕ, ◌+◌, ◌<◌, List, [], ◌∷◌, ◌++◌, length, flat_map, ◌≤◌}
use Rattle.table_schema.specs.Plan.{Ports}
use Rattle.table_schema.specs.Rows.{rows_of}
use Rattle.table_schema.specs.declared.write.Sent.{Sent}
use Rattle.sai_types.specs.After.{chip_after}
use Rattle.sai_types.specs.declared.ids.Rid.{Rid}
use Rattle.sai_types.specs.declared.body.Call.{Call}
use Rattle.switch_model.specs.History.{History}
use Rattle.switch_model.specs.Marks.{sent_writes}
use Rattle.switch_model.specs.declared.mark.Mark.{Mark}
use Rattle.switch_model.specs.declared.mark.MarkEvent.{MarkEvent}
use Rattle.switch_model.specs.declared.mark.MarkEvent.TheVariants as event
use Rattle.machine_laws.specs.Order.{MayEndRound}
use Rattle.orch_core.specs.ComingBack.{AreOnWay}
use Rattle.swss_script.specs.Sent.{sent_in_round}
use Rattle.swss_script.specs.declared.parts.Round.{Round}
use Rattle.swss_report.specs.Ended.{Ended}
use Rattle.swss_report.specs.Round.{IsRoundText}

-- a round that ended, or what came of one that did not: its marks, the writes taken in it, and the chip's calls in it that took effect
pub record Ran : Type 0 where
  pub marks : List Mark
  pub sent : List Sent
  pub calls : List (Call Rid)

abbrev pub nothing_ran : Ran
nothing_ran = record { marks = []; sent = []; calls = [] }

abbrev pub all_marks : List Ran → List Mark
all_marks rans = flat_map (λ r. r.marks) rans

abbrev pub all_sent : List Ran → List Sent
all_sent rans = flat_map (λ r. r.sent) rans

abbrev pub all_calls : List Ran → List (Call Rid)
all_calls rans = flat_map (λ r. r.calls) rans

-- how many marks stand at the end of each round, where so many stood before
abbrev pub ends_from : ℕ → List Ran → List ℕ
ends_from n [] = []
ends_from n (ran ∷ rans) = (n + length ran.marks) ∷ ends_from (n + length ran.marks) rans

-- a mark of a restart counts the calls that there were when its round began, and the writes from then on up to those of the round; the mark at which an apply begins counts all of these: with one worker no call takes effect between the mark at which the round before ended and the first mark of a round, nor up to the beginning of an apply
abbrev pub IsFenced : ℕ → ℕ → ℕ → Mark → MarkEvent → Type 0
IsFenced from to calls mark event.Restarted = (from ≤ mark.taken) × (mark.taken ≤ to) × (mark.effects ≡ calls)
IsFenced from to calls mark (event.ApplyBegan mode waits) = (mark.taken ≡ to) × (mark.effects ≡ calls)
IsFenced from to calls mark _ = Unit {0}

abbrev pub AreFenced : ℕ → ℕ → ℕ → List Mark → Type 0
AreFenced from to calls [] = Unit {0}
AreFenced from to calls (mark ∷ marks) = IsFenced from to calls mark mark.event × AreFenced from to calls marks

-- a round ends at its last mark, that of its settling, which counts the writes taken and the calls made so far; the marks before it are those of restarts and applies
pub record EndsAtMark (sent calls : ℕ) (ran : Ran) : Type 0 where
  pub before : List Mark
  pub mark : Mark
  pub marks : ran.marks ≡ before ++ mark ∷ []
  pub way : AreOnWay before
  pub fenced : AreFenced sent (sent + length ran.sent) calls before
  pub settling : MayEndRound mark.event
  pub taken : mark.taken ≡ sent + length ran.sent
  pub effects : mark.effects ≡ calls + length ran.calls

abbrev pub EndAtMarks : ℕ → ℕ → List Ran → Type 0
EndAtMarks sent calls [] = Unit {0}
EndAtMarks sent calls (ran ∷ rans) = EndsAtMark sent calls ran × EndAtMarks (sent + length ran.sent) (calls + length ran.calls) rans

-- the log and the chip's calls are those of the rounds that ended, and then what came since, whose marks are those of restarts and applies
pub record IsCutInRounds (log : History) (done : List (Call Rid)) (rans : List Ran) (since : Ran) : Type 0 where
  pub marks : log.marks ≡ all_marks rans ++ since.marks
  pub ends : log.ends ≡ ends_from 0 rans
  pub taken : log.taken ≡ all_sent rans ++ since.sent
  pub effects : done ≡ all_calls rans ++ since.calls
  pub at_marks : EndAtMarks 0 0 rans
  pub way : AreOnWay since.marks
  pub fenced : AreFenced (length (all_sent rans)) (length (all_sent rans) + length since.sent) (length (all_calls rans)) since.marks

-- the first number is greater than n, and each later one greater than the one before it
abbrev pub AreEndsRising : ℕ → List ℕ → Type 0
AreEndsRising n [] = Unit {0}
AreEndsRising n (end ∷ ends) = (n < end) × AreEndsRising end ends

-- of each round that ended exactly the writes of its sections were taken, in script order; what was taken since is a front of the next round's, and nothing where there is none
abbrev pub AreTaken : List Ran → List Round → List Sent → Type 0
AreTaken [] [] sent = sent ≡ []
AreTaken [] (round ∷ rounds) sent = (rest : List Sent) × (sent_in_round round ≡ sent ++ rest)
AreTaken (ran ∷ rans) [] sent = ⊥
AreTaken (ran ∷ rans) (round ∷ rounds) sent = (ran.sent ≡ sent_in_round round) × AreTaken rans rounds sent

-- what stands when a round has ended, on a chip with these capacities, where so many rounds, these writes and these calls came before
abbrev pub round_end : Ports → List ℕ → ℕ → List Sent → List (Call Rid) → Ran → Ended
round_end plan capacities number sent calls ran = record {
  plan = plan;
  number = number + 1;
  marks = ran.marks;
  taken = length (sent ++ ran.sent);
  rows = rows_of (sent_writes (sent ++ ran.sent));
  capacities = capacities;
  objects = chip_after (calls ++ ran.calls) (length (calls ++ ran.calls));
  effects = calls ++ ran.calls;
}

-- the report of rounds that ended: the lines of each, one round after the other
abbrev pub IsReportFrom : Ports → List ℕ → ℕ → List Sent → List (Call Rid) → List Ran → List Round → List ℕ → Type 0
IsReportFrom plan capacities number sent calls [] rounds text = text ≡ []
IsReportFrom plan capacities number sent calls (ran ∷ rans) [] text = ⊥
IsReportFrom plan capacities number sent calls (ran ∷ rans) (round ∷ rounds) text =
    (lines : List ℕ) × (rest : List ℕ) × IsRoundText (round_end plan capacities number sent calls ran) (length calls) round.shows lines × (text ≡ lines ++ rest)
    × IsReportFrom plan capacities (number + 1) (sent ++ ran.sent) (calls ++ ran.calls) rans rounds rest

abbrev pub IsReport : Ports → List ℕ → List Ran → List Round → List ℕ → Type 0
IsReport plan capacities rans rounds text = IsReportFrom plan capacities 0 [] [] rans rounds text

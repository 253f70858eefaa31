-- a log with one mark more
use Rattle.std.proofs.Common.{◌≡◌, ◌⊎◌, ◌+◌, ◌∷◌, ◌++◌, ◌∙◌, inl, inr, ℕ, List, [], length, refl, sym, ap, arith}
use Rattle.sai_types.specs.declared.body.Call.{Call}
use Rattle.sai_types.specs.declared.ids.Rid.{Rid}
use Rattle.switch_model.specs.History.{History, keys_listed, listed_by, with_end, with_mark}
use Rattle.table_schema.specs.declared.write.Write.{Write}
use Rattle.sai_types.specs.Alike.{IsIn}
use Rattle.switch_model.specs.Marks.{sent_writes, written_key}
use Rattle.machine_laws.specs.Reading.{IsOnSwitch}
use Rattle.switch_model.specs.declared.mark.Mark.{Mark}
use Rattle.switch_model.specs.declared.mark.MarkEvent.{MarkEvent}
use Rattle.restart_laws.specs.Logged.{LoggedService, mark_now}
use Rattle.switch_machine.proofs.Needing.{listed_more}
use Rattle.session_laws.specs.Core.{CoreState, mark_at}
use Rattle.session_laws.proofs.Faulting.{Ended, IsFaultLog, Marked}

-- and one that lists so many
pub listed-so : (marks : List Mark) (mark : Mark) (n m : ℕ) → keys_listed mark.event ≡ m → n ≡ listed_by marks → n + m ≡ listed_by (marks ++ mark ∷ [])
listed-so marks mark n m some h = let more = listed_more marks mark in omega (arith, some, h, more)

-- the session's mark of this moment is the core's
module _ (c : CoreState) (s : LoggedService) (log : s.log ≡ c.log) (e : MarkEvent) where
  pub mark-same : (effects : List (Call Rid)) (n : ℕ) → n ≡ length effects → with_mark c.log (mark_at c n e) ≡ with_mark s.log (mark_now s.log effects e)
  mark-same effects n same =
      ap (λ k. with_mark c.log (mark_at c k e)) same
      ∙ ap (λ h. with_mark h (mark_now h effects e)) (sym log)

pub fault-taken : (log : History) (mark : Mark) (log' : History) → IsFaultLog log mark log' → log'.taken ≡ log.taken
fault-taken log mark log' Marked = refl
fault-taken log mark log' Ended = refl

pub fault-marks : (log : History) (mark : Mark) (log' : History) → IsFaultLog log mark log' → log'.marks ≡ log.marks ++ mark ∷ []
fault-marks log mark log' Marked = refl
fault-marks log mark log' Ended = refl

pub fault-adds : (log : History) (mark : Mark) (log' with : History) → IsFaultLog log mark log' → with_mark log mark ≡ with → (log' ≡ with) ⊎ (log' ≡ with_end with)
fault-adds log mark log' with Marked h = inl h
fault-adds log mark log' with Ended h = inr (ap with_end h)

-- its writes are those of before
pub fault-read : (log : History) (mark : Mark) (log' : History) → IsFaultLog log mark log' → ((w : Write) → IsIn w (sent_writes log.taken) → IsOnSwitch (written_key w)) → (w : Write) → IsIn w (sent_writes log'.taken) → IsOnSwitch (written_key w)
fault-read log mark log' Marked h = h
fault-read log mark log' Ended h = h

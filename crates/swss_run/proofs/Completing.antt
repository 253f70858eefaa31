-- a run that nothing hinders comes to its end
use Rattle.std.proofs.Common.{◌≡◌, ◌⊎◌, inl, inr, ℕ, zero, suc, ◌+◌, ◌<◌, ◌≤◌, false, List, [], ◌∷◌, length, Option, Some, None, refl, sym, subst, arith}
use Rattle.sai_types.specs.ChipState.{ChipState}
use Rattle.switch_model.specs.History.{History, log_size, no_history}
use Rattle.switch_model.specs.Sound.{is_fault}
use Rattle.switch_model.specs.declared.mark.Mark.{Mark}
use Rattle.switch_model.specs.declared.mark.MarkEvent.{MarkEvent}
use Rattle.switch_model.specs.declared.mark.MarkEvent.TheVariants as event
use Rattle.round_laws.specs.Named.{keys_named}
use Rattle.swss_words.specs.Laws.{IsProper}
use Rattle.swss_words.specs.declared.command.Command.{Command}
use Rattle.swss_words.specs.declared.command.Command.TheVariants as command
use Rattle.swss_script.specs.Generated.{generated}
use Rattle.swss_script.specs.declared.refused.Refused.{Refused}
use Rattle.swss_script.specs.declared.script.Script.{Script}
use Rattle.swss_service.specs.Faults.{CountsOne, FaultsRise, faults_then}
use Rattle.swss_run.specs.Complete.{ComesToEnd, HaveNoFault, IsUnhinderedBy}
use Rattle.swss_run.specs.Read.{WasRefused}
use Rattle.swss_run.specs.Run.{SaysOfSource}
use Rattle.swss_run.specs.Script.{IsRunBy, IsScriptRun, TellsOfSession}
use Rattle.swss_run.specs.Session.{log_limit}
use Rattle.swss_run.specs.Tells.{TellsByCommand}
use Rattle.swss_run.specs.View.{TellsOfView}
use Rattle.swss_run.specs.declared.outcome.Outcome.{Outcome}
use Rattle.swss_run.specs.declared.status.Status.{Status}
use Rattle.swss_run.specs.declared.status.Status.TheVariants as status

-- ---- marks

up : (n : ℕ) (e : MarkEvent) → CountsOne n e → n ≤ faults_then n e
up n event.Restarted h = omega arith
up n (event.Settled waits turns) h = omega arith
up n (event.Faulted before after) h = let is = h.0 in let more = h.1 in omega (arith, is, more)
up n (event.ApplyBegan mode waits) h = omega arith
up n event.ApplyEnded h = omega arith

rises : (marks : List Mark) (n last : ℕ) → FaultsRise n marks last → n ≤ last
rises [] n last h = omega (arith, h)
rises (mark ∷ marks) n last h = let first = up n mark.event h.0 in let rest = rises marks (faults_then n mark.event) last h.1 in omega (arith, first, rest)

unfaulted : (marks : List Mark) (n : ℕ) (e : MarkEvent) → CountsOne n e → FaultsRise (faults_then n e) marks n → (is_fault e ≡ false) × FaultsRise n marks n
unfaulted marks n event.Restarted h rest = (refl, rest)
unfaulted marks n (event.Settled waits turns) h rest = (refl, rest)
unfaulted marks n (event.Faulted before after) h rest = let is = h.0 in let more = h.1 in let still = rises marks after n rest in absurd (omega (arith, is, more, still))
unfaulted marks n (event.ApplyBegan mode waits) h rest = (refl, rest)
unfaulted marks n event.ApplyEnded h rest = (refl, rest)

no-fault : (marks : List Mark) (n : ℕ) → FaultsRise n marks n → HaveNoFault marks
no-fault [] n h = tt
no-fault (mark ∷ marks) n h = let x = unfaulted marks n mark.event h.0 h.1 in (x.0, no-fault marks n x.1)

-- ---- sessions

some_workers : (workers : ℕ) → 0 < workers → (workers ≡ 1) ⊎ (1 < workers)
some_workers zero some = absurd (omega (arith, some))
some_workers (suc zero) some = inl refl
some_workers (suc (suc n)) some = inr (omega arith)

abbrev IsEnd : Status → Type 0
IsEnd ended = (ended ≡ status.Done) ⊎ (ended ≡ status.OutOfMemory)

-- a session of a script whose chip did not fail, and whose log had places
module _ (workers : ℕ) (some : 0 < workers) (script : Script) (log : History) (sim : ChipState) (held held' : Option (List ℕ)) (free : IsUnhinderedBy log (Some sim)) where
  faults_none : FaultsRise 0 log.marks sim.faults → HaveNoFault log.marks
  faults_none rise = no-fault log.marks 0 (subst (FaultsRise 0 log.marks) free.0 rise)

  marks-of_run : (ended : Status) → IsScriptRun workers script ended log sim held held' → HaveNoFault log.marks
  marks-of_run ended run = by (some_workers workers some)
    where
      by : (workers ≡ 1) ⊎ (1 < workers) → HaveNoFault log.marks
      by (inl one) = faults_none (run.alone one).recorded.faults
      by (inr more) = faults_none (run.beside more).session.recorded.faults

  unfailed_run : 0 < sim.faults → ⊥
  unfailed_run rose = let none = free.0 in omega (arith, rose, none)

  unfilled : log_limit < log_size log (length sim.effects) + 2 + length (keys_named log.taken) → ⊥
  unfilled full = let left = free.1 in omega (arith, full, left)

  ends-of_run : (ended : Status) → (ended ≡ status.WriteFault → ⊥) → IsScriptRun workers script ended log sim held held' → IsEnd ended
  ends-of_run status.Done whole run = inl refl
  ends-of_run status.OutOfMemory whole run = inr refl
  ends-of_run status.WriteFault whole run = absurd (whole refl)
  ends-of_run status.ChipFault whole run = absurd (by (some_workers workers some))
    where
      by : (workers ≡ 1) ⊎ (1 < workers) → ⊥
      by (inl one) = unfailed_run (run.alone one).reported.3
      by (inr more) = unfailed_run (run.beside more).session.reported.3
  ends-of_run status.LogFull whole run = absurd (by (some_workers workers some))
    where
      by : (workers ≡ 1) ⊎ (1 < workers) → ⊥
      by (inl one) = unfilled (run.alone one).reported.0.many
      by (inr more) = unfilled (run.beside more).session.reported.1
  ends-of_run status.Usage whole run = absurd (by (some_workers workers some))
    where
      by : (workers ≡ 1) ⊎ (1 < workers) → ⊥
      by (inl one) = (run.alone one).reported
      by (inr more) = (run.beside more).session.reported
  ends-of_run (status.ScriptRefused refusal) whole run = absurd (by (some_workers workers some))
    where
      by : (workers ≡ 1) ⊎ (1 < workers) → ⊥
      by (inl one) = (run.alone one).reported
      by (inr more) = (run.beside more).session.reported
  ends-of_run status.ReadFault whole run = absurd (by (some_workers workers some))
    where
      by : (workers ≡ 1) ⊎ (1 < workers) → ⊥
      by (inl one) = (run.alone one).reported
      by (inr more) = (run.beside more).session.reported

abbrev IsOfRun : Status → History → Type 0
IsOfRun ended log = IsEnd ended × HaveNoFault log.marks

none_marked : (log : History) → log ≡ no_history → HaveNoFault log.marks
none_marked log none = subst (λ (h : History). HaveNoFault h.marks) (sym none) tt

by_run : (workers : ℕ) → 0 < workers → (script : Script) (ended : Status) (log : History) (chip : Option ChipState) (held held' : Option (List ℕ)) → IsUnhinderedBy log chip → (ended ≡ status.WriteFault → ⊥) → IsRunBy workers script ended log chip held held' → IsOfRun ended log
by_run workers some script ended log None held held' free whole run = (inr run.0, none_marked log run.1)
by_run workers some script ended log (Some sim) held held' free whole run = (ends-of_run workers some script log sim held held' free ended whole run, marks-of_run workers some script log sim held held' free ended run)

-- ---- commands

module _ (o : Outcome) (left left' held held' : Option (List ℕ)) (free : IsUnhinderedBy o.log o.chip) (whole : o.status ≡ status.WriteFault → ⊥) where
  by_session : (workers : ℕ) → 0 < workers → (ended : Status) → o.status ≡ ended → (ended ≡ status.Usage → ⊥) → (ended ≡ status.ReadFault → ⊥) → ((r : Refused) → ended ≡ status.ScriptRefused r → ⊥) → TellsOfSession workers ended o left left' held held' → IsOfRun o.status o.log
  by_session workers some status.Usage is used read refused tells = absurd (used refl)
  by_session workers some status.ReadFault is used read refused tells = absurd (read refl)
  by_session workers some (status.ScriptRefused r) is used read refused tells = absurd (refused r refl)
  by_session workers some status.OutOfMemory is used read refused (inl none) = (inr is, none_marked o.log none.log)
  by_session workers some status.OutOfMemory is used read refused (inr ran) = by_run workers some ran.script o.status o.log o.chip held held' free whole ran.run
  by_session workers some status.Done is used read refused ran = by_run workers some ran.script o.status o.log o.chip held held' free whole ran.run
  by_session workers some status.WriteFault is used read refused ran = by_run workers some ran.script o.status o.log o.chip held held' free whole ran.run
  by_session workers some status.ChipFault is used read refused ran = by_run workers some ran.script o.status o.log o.chip held held' free whole ran.run
  by_session workers some status.LogFull is used read refused ran = by_run workers some ran.script o.status o.log o.chip held held' free whole ran.run

  by_view : (ended : Status) → o.status ≡ ended → (ended ≡ status.ReadFault → ⊥) → ((r : Refused) → ended ≡ status.ScriptRefused r → ⊥) → TellsOfView ended left left' held held' → IsEnd o.status
  by_view status.Done is read refused tells = inl is
  by_view status.OutOfMemory is read refused tells = inr is
  by_view status.ReadFault is read refused tells = absurd (read refl)
  by_view (status.ScriptRefused r) is read refused tells = absurd (refused r refl)
  by_view status.WriteFault is read refused tells = absurd (whole is)
  by_view status.Usage is read refused tells = absurd tells.viewed
  by_view status.ChipFault is read refused tells = absurd tells.viewed
  by_view status.LogFull is read refused tells = absurd tells.viewed

  -- nothing else hindered it: neither the words, nor the script, nor the source
  pub comes_to_end : (c : Command) → IsProper c → (o.status ≡ status.Usage → ⊥) → (o.status ≡ status.ReadFault → ⊥) → ((r : Refused) → o.status ≡ status.ScriptRefused r → ⊥) → TellsByCommand (Some c) o left left' held held' → ComesToEnd o
  comes_to_end (command.Run workers) proper used read refused tells = let low = proper.0 in let x = by_session workers (omega (arith, low)) o.status refl used read refused tells in record { status = x.0; marks = x.1 }
  comes_to_end command.View proper used read refused tells = record { status = by_view o.status refl read refused tells.2; marks = none_marked o.log tells.0 }
  comes_to_end (command.Load count seed) proper used read refused tells = let x = by_run 1 (omega arith) (generated count seed) o.status o.log o.chip held held' free whole tells.1 in record { status = x.0; marks = x.1 }

-- a script is refused only for what it is
pub unrefused : (ended : Status) (left left' : Option (List ℕ)) → SaysOfSource ended left left' → ((r : Refused) → WasRefused left r left' → ⊥) → (r : Refused) → ended ≡ status.ScriptRefused r → ⊥
unrefused ended left left' says accepted r is = accepted r (subst (λ s. SaysOfSource s left left') is says)

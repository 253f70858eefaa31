-- what a run tells, by how far it got
use Rattle.std.proofs.Common.{◌≡◌, inl, inr, ℕ, false, List, Option, None, Some, Ok, refl, sym, subst}
use Rattle.switch_model.specs.History.{no_history}
use Rattle.swss_words.specs.declared.command.Command.{Command}
use Rattle.swss_words.specs.declared.command.Command.TheVariants.{Run, View, Load}
use Rattle.swss_script.specs.Script.{script_of}
use Rattle.swss_script.specs.declared.script.Script.{Script}
use Rattle.swss_run.specs.Input.{GaveAll}
use Rattle.swss_run.specs.Read.{EndsReading, WasRead}
use Rattle.swss_run.specs.Run.{ends_early}
use Rattle.swss_run.specs.Script.{IsRun, RanScript, TellsOfSession}
use Rattle.swss_run.specs.Tells.{TellsByCommand}
use Rattle.swss_run.specs.View.{IsViewed, TellsOfView}
use Rattle.swss_run.specs.declared.outcome.Outcome.{Outcome}
use Rattle.swss_run.specs.declared.status.Status.{Status}
use Rattle.swss_run.specs.declared.status.Status.TheVariants as status

module _ (workers : ℕ) where
  tells-by : (ended : Status) (outcome : Outcome) (left left' held held' : Option (List ℕ)) → ends_early ended ≡ false → RanScript workers outcome left left' held held' → TellsOfSession workers ended outcome left left' held held'
  tells-by status.Done outcome left left' held held' late ran = ran
  tells-by status.Usage outcome left left' held held' late ran = cc
  tells-by (status.ScriptRefused refusal) outcome left left' held held' late ran = cc
  tells-by status.ReadFault outcome left left' held held' late ran = cc
  tells-by status.WriteFault outcome left left' held held' late ran = ran
  tells-by status.ChipFault outcome left left' held held' late ran = ran
  tells-by status.LogFull outcome left left' held held' late ran = ran
  tells-by status.OutOfMemory outcome left left' held held' late ran = inr ran

  pub tells_of_session : (bytes : List ℕ) (script : Script) (outcome : Outcome) (left left' held held' : Option (List ℕ)) → ends_early outcome.status ≡ false → GaveAll left bytes left' → script_of bytes ≡ Ok script → IsRun workers script outcome held held' → TellsOfSession workers outcome.status outcome left left' held held'
  tells_of_session bytes script outcome left left' held held' late gave is run =
      tells-by outcome.status outcome left left' held held' late (record { script = script; read = record { bytes = bytes; gave = gave; says = is }; run = run })

-- ---- the view

-- a view that got to its script
pub tells_of_view : (ended : Status) (script : Script) (left left' held held' : Option (List ℕ)) → WasRead left script left' → IsViewed ended script held held' → TellsOfView ended left left' held held'
tells_of_view status.Done script left left' held held' read viewed = record { script = script; read = read; viewed = viewed }
tells_of_view status.Usage script left left' held held' read viewed = absurd viewed
tells_of_view (status.ScriptRefused refusal) script left left' held held' read viewed = absurd viewed
tells_of_view status.ReadFault script left left' held held' read viewed = absurd viewed
tells_of_view status.WriteFault script left left' held held' read viewed = record { script = script; read = read; viewed = viewed }
tells_of_view status.ChipFault script left left' held held' read viewed = absurd viewed
tells_of_view status.LogFull script left left' held held' read viewed = absurd viewed
tells_of_view status.OutOfMemory script left left' held held' read viewed = inr (record { script = script; read = read; viewed = viewed })

-- and one that did not
pub tells_of_no_view : (ended : Status) (left left' held : Option (List ℕ)) (faults faults' : ℕ) → EndsReading left faults ended left' faults' → TellsOfView ended left left' held held
tells_of_no_view status.Done left left' held faults faults' ends = absurd ends
tells_of_no_view status.Usage left left' held faults faults' ends = absurd ends
tells_of_no_view (status.ScriptRefused refusal) left left' held faults faults' ends = refl
tells_of_no_view status.ReadFault left left' held faults faults' ends = refl
tells_of_no_view status.WriteFault left left' held faults faults' ends = absurd ends
tells_of_no_view status.ChipFault left left' held faults faults' ends = absurd ends
tells_of_no_view status.LogFull left left' held faults faults' ends = absurd ends
tells_of_no_view status.OutOfMemory left left' held faults faults' ends = inl refl

-- ---- the commands

abbrev pub without_session : Status → Outcome
without_session ended = record { status = ended; log = no_history; chip = None }

-- words that are a command, for which memory was refused
pub tells_of_no_words : (o : Option Command) (outcome : Outcome) (left held : Option (List ℕ)) → (o ≡ None → ⊥) → outcome ≡ without_session status.OutOfMemory → TellsByCommand o outcome left left held held
tells_of_no_words o outcome left held some is = subst (λ z. TellsByCommand o z left left held held) (sym is) (by o some)
  where
    by : (o : Option Command) → (o ≡ None → ⊥) → TellsByCommand o (without_session status.OutOfMemory) left left held held
    by None some = absurd (some refl)
    by (Some (Run workers)) some = inl (record { log = refl; chip = refl; sink = refl })
    by (Some View) some = (refl, refl, inl refl)
    by (Some (Load count seed)) some = (refl, (refl, refl, refl))

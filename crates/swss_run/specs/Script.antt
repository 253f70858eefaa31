-- What a run of a script comes to, and what it tells. Own.
use Rattle.std.specs.Prelude.{◌≡◌, ◌⊎◌, ℕ, ◌<◌, ◌≤◌, List, length, map, Option, Some, None}
use Rattle.sai_types.specs.ChipState.{ChipState}
use Rattle.switch_model.specs.History.{History, no_history}
use Rattle.swss_script.specs.Behind.{image_sent, rounds_behind}
use Rattle.swss_script.specs.declared.script.Script.{Script}
use Rattle.swss_run.specs.Beside.{BeginsWithRows, IsSessionBeside}
use Rattle.swss_run.specs.Read.{WasRead}
use Rattle.swss_run.specs.Run.{HasNoSession, chip_fail}
use Rattle.swss_run.specs.Session.{IsSession}
use Rattle.swss_run.specs.declared.outcome.Outcome.{Outcome}
use Rattle.swss_run.specs.declared.status.Status.{Status}
use Rattle.swss_run.specs.declared.status.Status.TheVariants as status

-- a session of a script by several workers, over its rounds behind its image, whose rows are the first writes of all, from the sender 0 and in key order
pub record IsScriptBeside (workers : ℕ) (script : Script) (ended : Status) (log : History) (chip : ChipState) (held held' : Option (List ℕ)) : Type 0 where
  pub session : IsSessionBeside workers script.plan script.caps.0 (rounds_behind script.image script.rounds) ended log chip held held'
  pub image : BeginsWithRows (image_sent script.image) log chip.effects

-- a session of a script by so many workers: its chip has the script's failing calls, and failed at no more calls than these are; with one worker it is over the script's rounds behind its image: the first writes of the first are the rows of the image, from the sender 0 and in key order; and with several as above
pub record IsScriptRun (workers : ℕ) (script : Script) (ended : Status) (log : History) (chip : ChipState) (held held' : Option (List ℕ)) : Type 0 where
  pub fails : chip.fails ≡ map chip_fail script.fails
  pub faults : chip.faults ≤ length chip.fails
  pub alone : workers ≡ 1 → IsSession script.plan script.caps.0 (rounds_behind script.image script.rounds) ended log chip held held'
  pub beside : 1 < workers → IsScriptBeside workers script ended log chip held held'

-- a run that got to its script: a session, or none where memory was refused before its chip stood
abbrev pub IsRunBy : ℕ → Script → Status → History → Option ChipState → Option (List ℕ) → Option (List ℕ) → Type 0
IsRunBy workers script ended log None held held' = (ended ≡ status.OutOfMemory) × (log ≡ no_history) × (held' ≡ held)
IsRunBy workers script ended log (Some sim) held held' = IsScriptRun workers script ended log sim held held'

abbrev pub IsRun : ℕ → Script → Outcome → Option (List ℕ) → Option (List ℕ) → Type 0
IsRun workers script outcome held held' = IsRunBy workers script outcome.status outcome.log outcome.chip held held'

-- a run of the script that the source gave
pub record RanScript (workers : ℕ) (outcome : Outcome) (left left' held held' : Option (List ℕ)) : Type 0 where
  pub script : Script
  pub read : WasRead left script left'
  pub run : IsRun workers script outcome held held'

-- what a run tells of its session: where the words, the script or the source ended it there was none; where memory was refused there was none, or one over the script that the source gave; else there was one
abbrev pub TellsOfSession : ℕ → Status → Outcome → Option (List ℕ) → Option (List ℕ) → Option (List ℕ) → Option (List ℕ) → Type 0
TellsOfSession workers status.Usage outcome left left' held held' = HasNoSession outcome held held'
TellsOfSession workers (status.ScriptRefused refusal) outcome left left' held held' = HasNoSession outcome held held'
TellsOfSession workers status.ReadFault outcome left left' held held' = HasNoSession outcome held held'
TellsOfSession workers status.OutOfMemory outcome left left' held held' = HasNoSession outcome held held' ⊎ RanScript workers outcome left left' held held'
TellsOfSession workers _ outcome left left' held held' = RanScript workers outcome left left' held held'

-- What a run tells, by the command that its words are. Own.
use Rattle.std.specs.Prelude.{◌≡◌, ℕ, List, Option, Some, None}
use Rattle.switch_model.specs.History.{no_history}
use Rattle.swss_words.specs.declared.command.Command.{Command}
use Rattle.swss_words.specs.declared.command.Command.TheVariants.{Run, View, Load}
use Rattle.swss_script.specs.Generated.{generated}
use Rattle.swss_run.specs.Run.{HasNoSession}
use Rattle.swss_run.specs.Script.{IsRun, TellsOfSession}
use Rattle.swss_run.specs.View.{TellsOfView}
use Rattle.swss_run.specs.declared.outcome.Outcome.{Outcome}

-- no command: no session began; `run`: the session of the script that the source gave, by so many workers; `view`: no session began and there is no chip, and the sink took the view of the script that the source gave; `load`: the session of the generated script, by one worker, and the source was not read
abbrev pub TellsByCommand : Option Command → Outcome → Option (List ℕ) → Option (List ℕ) → Option (List ℕ) → Option (List ℕ) → Type 0
TellsByCommand None outcome left left' held held' = HasNoSession outcome held held'
TellsByCommand (Some (Run workers)) outcome left left' held held' = TellsOfSession workers outcome.status outcome left left' held held'
TellsByCommand (Some View) outcome left left' held held' = (outcome.log ≡ no_history) × (outcome.chip ≡ None) × TellsOfView outcome.status left left' held held'
TellsByCommand (Some (Load count seed)) outcome left left' held held' = (left' ≡ left) × IsRun 1 (generated count seed) outcome held held'

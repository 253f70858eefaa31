-- What a run of the top call comes to. Own.
use Rattle.std.specs.Prelude.{◌≡◌, ℕ, Bool, true, false, List, Option, None}
use Rattle.sai_types.specs.declared.fail.Fail.{Fail}
use Rattle.switch_model.specs.History.{no_history}
use Rattle.swss_script.specs.declared.parts.Fail2.{Fail2}
use Rattle.swss_run.specs.Read.{WasRefused}
use Rattle.swss_run.specs.declared.outcome.Outcome.{Outcome}
use Rattle.swss_run.specs.declared.status.Status.{Status}
use Rattle.swss_run.specs.declared.status.Status.TheVariants as status

-- no session began: the log is empty, there is no chip, and the sink holds what it held
pub record HasNoSession (outcome : Outcome) (held held' : Option (List ℕ)) : Type 0 where
  pub log : outcome.log ≡ no_history
  pub chip : outcome.chip ≡ None
  pub sink : held' ≡ held

-- what the words and a refusal say of the source: on wrong words nothing was read; a script is refused for what its bytes are
abbrev pub SaysOfSource : Status → Option (List ℕ) → Option (List ℕ) → Type 0
SaysOfSource status.Usage left left' = left' ≡ left
SaysOfSource (status.ScriptRefused refusal) left left' = WasRefused left refusal left'
SaysOfSource _ left left' = Unit {0}

-- whether a status ends the run before a session
abbrev pub ends_early : Status → Bool
ends_early status.Usage = true
ends_early (status.ScriptRefused refusal) = true
ends_early status.ReadFault = true
ends_early _ = false

-- a failing call of a script, as the chip has it
abbrev pub chip_fail : Fail2 → Fail
chip_fail f = record { at = f.at; after = f.after }

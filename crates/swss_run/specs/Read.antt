-- What reading the script comes to. Own.
use Rattle.std.specs.Prelude.{◌≡◌, ℕ, ◌⊎◌, ◌≤◌, List, [], length, Option, IfSome, Result, Ok, Err}
use Rattle.swss_types.specs.Outside.{Gives, HasRisen}
use Rattle.swss_script.specs.Script.{script_of}
use Rattle.swss_script.specs.declared.refused.Refused.{Refused}
use Rattle.swss_script.specs.declared.script.Script.{Script}
use Rattle.swss_run.specs.Input.{GaveAll}
use Rattle.swss_run.specs.declared.status.Status.{Status}
use Rattle.swss_run.specs.declared.status.Status.TheVariants as status

-- the source gave the bytes of this script before it answered that nothing is left
pub record WasRead (old : Option (List ℕ)) (script : Script) (new : Option (List ℕ)) : Type 0 where
  pub bytes : List ℕ
  pub gave : GaveAll old bytes new
  pub says : script_of bytes ≡ Ok script

-- the source gave one byte more than a script may have and no more was taken, or all the bytes of a text that is no script: what they are is refused so
pub record WasRefused (old : Option (List ℕ)) (refusal : Refused) (new : Option (List ℕ)) : Type 0 where
  pub bytes : List ℕ
  pub gives : Gives old bytes new
  pub few : length bytes ≤ 67108865
  pub ends : (length bytes ≡ 67108865) ⊎ IfSome new (λ rest. rest ≡ [])
  pub says : script_of bytes ≡ Err refusal

-- the cause of a status that ends the run before a session
abbrev pub EndsReading : Option (List ℕ) → ℕ → Status → Option (List ℕ) → ℕ → Type 0
EndsReading old faults (status.ScriptRefused refusal) new faults' = WasRefused old refusal new
EndsReading old faults status.ReadFault new faults' = HasRisen faults faults'
EndsReading old faults status.OutOfMemory new faults' = Unit {0}
EndsReading old faults _ new faults' = ⊥

abbrev pub IsScriptRead : Option (List ℕ) → ℕ → Result Script Status → Option (List ℕ) → ℕ → Type 0
IsScriptRead old faults (Ok script) new faults' = WasRead old script new
IsScriptRead old faults (Err ended) new faults' = EndsReading old faults ended new faults'

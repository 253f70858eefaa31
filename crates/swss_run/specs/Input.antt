-- What reading a source to its end comes to. Own.
use Rattle.std.specs.Prelude.{◌≡◌, ℕ, ◌+◌, ◌≤◌, List, [], length, Option, IfSome}
use Rattle.swss_types.specs.Outside.{Gives, HasRisen}
use Rattle.swss_script.specs.declared.script.TheConstants.{MOST_BYTES}
use Rattle.swss_run.specs.declared.input.Input.{Input}
use Rattle.swss_run.specs.declared.input.Input.TheVariants as input

-- the source gave these bytes and then answered that nothing is left
pub record GaveAll (old : Option (List ℕ)) (bytes : List ℕ) (new : Option (List ℕ)) : Type 0 where
  pub gives : Gives old bytes new
  pub ends : IfSome new (λ rest. rest ≡ [])
  pub few : length bytes ≤ MOST_BYTES

-- the source gave one byte more than a script may have
pub record GaveTooMuch (old new : Option (List ℕ)) : Type 0 where
  pub bytes : List ℕ
  pub gives : Gives old bytes new
  pub many : length bytes ≡ MOST_BYTES + 1

-- however reading ended, the source gave at most one byte more than a script may have
pub record GaveFew (old new : Option (List ℕ)) : Type 0 where
  pub bytes : List ℕ
  pub gives : Gives old bytes new
  pub few : length bytes ≤ MOST_BYTES + 1

abbrev pub IsInput : Option (List ℕ) → ℕ → Input → Option (List ℕ) → ℕ → Type 0
IsInput old faults (input.Whole bytes) new faults' = GaveAll old bytes.items new
IsInput old faults input.TooLong new faults' = GaveTooMuch old new
IsInput old faults input.Failed new faults' = HasRisen faults faults'

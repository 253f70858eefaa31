-- What writing a text to a sink comes to. Own.
use Rattle.std.specs.Prelude.{ℕ, ◌<◌, ◌≤◌, List, length, take, Option}
use Rattle.swss_types.specs.Outside.{Takes, HasRisen}
use Rattle.swss_run.specs.declared.output.Output.{Output}
use Rattle.swss_run.specs.declared.output.Output.TheVariants as output

-- the sink took a front of the text
abbrev pub TakesFront : Option (List ℕ) → List ℕ → Option (List ℕ) → Type 0
TakesFront old text new = (n : ℕ) × (n ≤ length text) × Takes old (take n text) new

-- it took a front of the text, and not all of it
abbrev pub TakesPart : Option (List ℕ) → List ℕ → Option (List ℕ) → Type 0
TakesPart old text new = (n : ℕ) × (n < length text) × Takes old (take n text) new

abbrev pub IsOutput : Option (List ℕ) → ℕ → Output → List ℕ → Option (List ℕ) → ℕ → Type 0
IsOutput old faults output.Written text new faults' = Takes old text new
IsOutput old faults output.Failed text new faults' = TakesPart old text new × HasRisen faults faults'
IsOutput old faults output.NoMemory text new faults' = TakesFront old text new

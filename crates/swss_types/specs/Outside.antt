-- What a source gives and what a sink takes. Own rules.
use Rattle.std.specs.Prelude.{◌≡◌, ℕ, ◌<◌, ◌≤◌, ◌^◌, ◌-◌, ◌⊎◌, List, [], ◌++◌, length, take, Option, Some, None, IfSome}
use Rattle.swss_types.specs.declared.outside.Got.{Got}
use Rattle.swss_types.specs.declared.outside.Got.TheVariants as got
use Rattle.swss_types.specs.declared.outside.Took.{Took}
use Rattle.swss_types.specs.declared.outside.Took.TheVariants as took

-- a count of faults rose, or stands at its type's end
abbrev pub HasRisen : ℕ → ℕ → Type 0
HasRisen old new = (old < new) ⊎ (new ≡ 2 ^ 64 - 1)

-- what was left begins with the bytes, and the rest is left now; a source that does not tell goes on so
abbrev pub Gives : Option (List ℕ) → List ℕ → Option (List ℕ) → Type 0
Gives None bytes new = new ≡ None
Gives (Some all) bytes new = (rest : List ℕ) × (new ≡ Some rest) × (all ≡ bytes ++ rest)

-- what is held now is what was held and the bytes behind it; a sink that does not tell goes on so
abbrev pub Takes : Option (List ℕ) → List ℕ → Option (List ℕ) → Type 0
Takes None bytes new = new ≡ None
Takes (Some held) bytes new = new ≡ Some (held ++ bytes)

-- a read gives at least one byte, or finds nothing left, or fails and leaves all as it was; its faults stay but where it fails
abbrev pub Reads : Option (List ℕ) → ℕ → Got → List ℕ → Option (List ℕ) → ℕ → Type 0
Reads old old_faults (got.Bytes n) into new new_faults = (0 < n) × (n ≤ length into) × Gives old (take n into) new × (new_faults ≡ old_faults)
Reads old old_faults got.End into new new_faults = IfSome old (λ all. all ≡ []) × (new ≡ old) × (new_faults ≡ old_faults)
Reads old old_faults got.Failed into new new_faults = HasRisen old_faults new_faults × (new ≡ old)

-- a write takes at least one byte, or fails or finds no memory and takes nothing; its faults stay but where it fails
abbrev pub Writes : Option (List ℕ) → ℕ → Took → List ℕ → Option (List ℕ) → ℕ → Type 0
Writes old old_faults (took.Bytes n) piece new new_faults = (0 < n) × (n ≤ length piece) × Takes old (take n piece) new × (new_faults ≡ old_faults)
Writes old old_faults took.Failed piece new new_faults = HasRisen old_faults new_faults × (new ≡ old)
Writes old old_faults took.NoMemory piece new new_faults = (new ≡ old) × (new_faults ≡ old_faults)

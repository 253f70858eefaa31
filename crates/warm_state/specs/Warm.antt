-- The words of a warm restart (SONiC's WARM_RESTART_TABLE), and when a switch is ready for another one.
use Rattle.std.specs.Prelude.{◌≡◌, ℕ, List, codes}
use Rattle.warm_state.specs.declared.warm.Warm.{Warm}
use Rattle.warm_state.specs.declared.warm.Warm.TheVariants as warm

abbrev pub warm_text : Warm → List ℕ
warm_text warm.Initialized = codes "initialized"
warm_text warm.Restored = codes "restored"
warm_text warm.Applying = codes "restored"
warm_text warm.Reconciled = codes "reconciled"
warm_text warm.Suspect = codes "unknown"

-- the switch is reconciled, and no row is pending
abbrev pub IsReady : Warm → ℕ → Type 0
IsReady state pending = (state ≡ warm.Reconciled) × (pending ≡ 0)

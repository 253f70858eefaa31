-- a new core is in a session
use Rattle.std.proofs.Common.{◌≡◌, ℕ, List, refl, sym, subst}
use Rattle.table_schema.specs.Plan.{IsPlan, Ports}
use Rattle.sai_types.specs.ChipState.{ChipState, new_chip}
use Rattle.sai_types.specs.declared.fail.Fail.{Fail}
use Rattle.session_laws.specs.Core.{CoreState, new_core}
use Rattle.round_laws.specs.Sessions.{InSession}
use Rattle.round_laws.proofs.Sessions.{begins-session}

pub begun_core : (plan : Ports) (capacities : List ℕ) (limit : ℕ) (fails : List Fail) (c : CoreState) (chip : ChipState) → IsPlan plan → c ≡ new_core plan capacities limit → chip ≡ new_chip capacities fails → InSession 4 c chip
begun_core plan capacities limit fails c chip is core new =
    subst (λ z. InSession 4 z chip) (sym core)
    (subst (InSession 4 (new_core plan capacities limit)) (sym new) (begins-session 4 plan capacities limit (new_chip capacities fails) is refl refl refl refl))

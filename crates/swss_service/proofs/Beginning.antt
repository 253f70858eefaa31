-- a new core over a new chip is in a session
use Rattle.std.proofs.Common.{◌≡◌, ℕ, List, refl, sym, subst}
use Rattle.table_schema.specs.Plan.{IsPlan, Ports}
use Rattle.sai_types.specs.ChipState.{ChipState, new_chip}
use Rattle.sai_types.specs.declared.fail.Fail.{Fail}
use Rattle.session_laws.specs.Core.{CoreState, new_core}
use Rattle.round_laws.proofs.Sessions.{begins-session}
use Rattle.orch_core.specs.Restarting.{IsInService}

pub begun : (plan : Ports) (capacities : List ℕ) (limit : ℕ) (fails : List Fail) (c : CoreState) (chip : ChipState) → IsPlan plan → c ≡ new_core plan capacities limit → chip ≡ new_chip capacities fails → IsInService c chip
begun plan capacities limit fails c chip is core new =
    let x = begins-session 1 plan capacities limit (new_chip capacities fails) is refl refl refl refl in
    subst (λ z. IsInService z chip) (sym core) (subst (IsInService (new_core plan capacities limit)) (sym new) (x.session, x.stands))

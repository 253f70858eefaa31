-- Restarts whose applies are broken off, by a failing call or by another restart, one after the other. Own.
use Rattle.std.specs.Prelude.{◌≡◌, ℕ, List, [], ◌∷◌, Option}
use Rattle.swss_types.specs.declared.vrf.Packet.{Packet}
use Rattle.table_schema.specs.Plan.{Ports}
use Rattle.sai_types.specs.declared.ids.Rid.{Rid}
use Rattle.sai_types.specs.declared.body.Call.{Call}
use Rattle.sai_types.specs.declared.plan.Mode.TheVariants as mode
use Rattle.sai_types.specs.Forwarding.{Forwarding, forward}
use Rattle.warm_state.specs.declared.warm.Warm.TheVariants.{Reconciled}
use Rattle.restart_laws.specs.Restored.{only_things}
use Rattle.restart_laws.specs.Service.{AreServiceEvents, IsServiceEvent, OfRestore, Service}

-- an apply that begins is hitless, and its view forwards the address so
abbrev pub ViewForwards : {plan : Ports} {workers : ℕ} {capacities : List ℕ} {s t : Service} {c : Option (Call Rid)} → Packet → Forwarding → IsServiceEvent plan workers capacities s c t → Type 0
ViewForwards a f (OfRestore t x) = (x.mode ≡ mode.Hitless) × (forward (only_things x.view.machine.stands) a ≡ f)
ViewForwards a f _ = Unit {0}

-- no event begins reconciled, and each view forwards the address so
abbrev pub AreBroken : (plan : Ports) (workers : ℕ) (capacities : List ℕ) → Packet → Forwarding → (s : Service) (es : List (Option (Call Rid) × Service)) → AreServiceEvents plan workers capacities s es → Type 0
AreBroken plan workers capacities a f s [] run = Unit {0}
AreBroken plan workers capacities a f s (e ∷ es) run = (s.warm ≡ Reconciled → ⊥) × ViewForwards a f run.0 × AreBroken plan workers capacities a f e.1 es run.1

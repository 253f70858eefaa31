use Rattle.std.proofs.Common.{◌≡◌, ◌⊎◌, length}
use Rattle.restart_laws.specs.Logged.{LoggedService}
use Rattle.warm_state.specs.declared.warm.Warm.TheVariants as warm
use Rattle.session_laws.specs.Service.Standing.{IsServiceOf}
use Rattle.orch_core.specs.ComingBack.{ComesTo}
use Rattle.orch_core.proofs.Coming.{calls_to_apply}
use Rattle.orch_core.proofs.state.Core.apply_all.Given as goal

-- the core came this far
abbrev pub invariant-loop-self : goal.invariant-loop-self
invariant-loop-self g l =
    ((s : LoggedService) → IsServiceOf l.fn.self (g.C.Chip.state l.fn.chip) s → (t : LoggedService) × ComesTo s t l.fn.self (g.C.Chip.state l.fn.chip) l.self (g.C.Chip.state l.chip))
    × ((l.self.warm ≡ warm.Applying) ⊎ (l.self.warm ≡ warm.Reconciled))

abbrev pub decreases-loop-self : goal.decreases-loop-self
decreases-loop-self g l = calls_to_apply l.self.warm (length l.self.sync.left)

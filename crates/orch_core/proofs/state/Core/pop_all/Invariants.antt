use Rattle.std.proofs.Common.{◌≡◌, length}
use Rattle.warm_state.specs.declared.warm.Warm.TheVariants as warm
use Rattle.orch_core.specs.Restarting.{PopsForRestore}
use Rattle.orch_core.specs.Outcomes.{PopsAlone}
use Rattle.orch_core.proofs.Restores.{PopsSoFar}
use Rattle.orch_core.proofs.state.Core.pop_all.Given as goal

-- keys alone were popped
abbrev pub invariant-loop-self : goal.invariant-loop-self
invariant-loop-self l = (l.fn.self.warm ≡ warm.Reconciled → PopsAlone l.fn.self l.self) × (l.fn.self.warm ≡ warm.Restored → PopsForRestore l.fn.self l.self) × PopsSoFar l.fn.self l.self

abbrev pub decreases-loop-self : goal.decreases-loop-self
decreases-loop-self l = length l.self.tables.waiting

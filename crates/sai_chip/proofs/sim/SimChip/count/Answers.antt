use Rattle.std.proofs.Common.{rules}
use Rattle.sai_chip.proofs.Failed.{counted-order}
use Rattle.sai_chip.proofs.sim.SimChip.count.Goals as goal

pub invariant_of-self : goal.invariant_of-self
invariant_of-self c = counted-order c.self.inside.held c.self.inside.effects.items c.self.inside.fails c.self.inside.made c.self.inside.faults c.self.inside.calls c.saturating_add-self-inside.result c.from.result c.args.failed c.self.invariant (search rules) (search rules) (search rules) (search rules)

use Rattle.sai_chip.proofs.Kept.{counted-value, not_to}
use Rattle.sai_chip.proofs.held.Held.set.Goals as goal

pub invariant_of-self : goal.invariant_of-self
invariant_of-self c = rw c.set.ensures (counted-value c.self.inside.bodies c.args.entry.now c.args.attr.now c.self.inside.counts c.entries_rise.ensures c.self.invariant (not_to c.args.attr.now c.in_default.not-To))

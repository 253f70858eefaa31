use Rattle.ref_counts.specs.Registry.{state_of}
use Rattle.ref_counts.proofs.Noting.{noted-finished}
use Rattle.ref_counts.proofs.registry.Registry.finish.Goals as goal

pub invariant_of-self : goal.invariant_of-self
invariant_of-self c = rw c.finish.ensures (noted-finished c.self.inside.noted.entries c.args.name.now (state_of c.self.inside.names c.args.name.now) c.self.inside.names c.self.invariant)

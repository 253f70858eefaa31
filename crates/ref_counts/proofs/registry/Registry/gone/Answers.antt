use Rattle.ref_counts.proofs.Noting.{noted-gone}
use Rattle.ref_counts.proofs.registry.Registry.gone.Goals as goal

pub invariant_of-self : goal.invariant_of-self
invariant_of-self c = rw c.end_retirement.ensures (noted-gone c.self.inside.noted.entries c.args.name.now c.self.inside.names c.self.invariant)

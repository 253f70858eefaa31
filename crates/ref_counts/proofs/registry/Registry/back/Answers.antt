use Rattle.ref_counts.specs.Registered.{made_live}
use Rattle.ref_counts.proofs.Noting.{noted-changed}
use Rattle.ref_counts.proofs.registry.Registry.back.Goals as goal

pub invariant_of-self : goal.invariant_of-self
invariant_of-self c = rw c.bring_back.ensures (noted-changed c.self.inside.noted.entries c.args.name.now (made_live c.args.vids.now) (λ m r h. h) c.self.inside.names c.self.invariant)

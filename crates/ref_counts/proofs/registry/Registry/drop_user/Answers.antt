use Rattle.ref_counts.specs.Registered.{without_user}
use Rattle.ref_counts.proofs.Noting.{noted-changed}
use Rattle.ref_counts.proofs.registry.Registry.drop_user.Goals as goal

pub invariant_of-self : goal.invariant_of-self
invariant_of-self c = rw c.drop_user.ensures (noted-changed c.self.inside.noted.entries c.args.name.now (without_user c.args.user.now) (λ m r h. h) c.self.inside.names c.self.invariant)

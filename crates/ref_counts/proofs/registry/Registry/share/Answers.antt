use Rattle.ref_counts.specs.Registered.{with_user}
use Rattle.ref_counts.specs.Registry.{AreNoted, changed}
use Rattle.ref_counts.proofs.Noting.{either-way, noted-changed}
use Rattle.ref_counts.proofs.registry.Registry.share.Goals as goal

pub invariant_of-self : goal.invariant_of-self
invariant_of-self c = either-way (AreNoted c.self.inside.noted.entries) c.share.result c.self.inside.names c.share.new.names (changed c.self.inside.names c.args.name.now (with_user c.args.user)) c.share.ensures.ok c.share.ensures.err (noted-changed c.self.inside.noted.entries c.args.name.now (with_user c.args.user) (λ m r h. h) c.self.inside.names c.self.invariant) c.self.invariant

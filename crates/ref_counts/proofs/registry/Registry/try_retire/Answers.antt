use Rattle.ref_counts.specs.Registered.{begun_to_go}
use Rattle.ref_counts.specs.Registry.{AreNoted, changed}
use Rattle.ref_counts.proofs.Noting.{either-way, noted-changed}
use Rattle.ref_counts.proofs.registry.Registry.try_retire.Goals as goal

pub invariant_of-self : goal.invariant_of-self
invariant_of-self c = either-way (AreNoted c.self.inside.noted.entries) c.retire.result c.self.inside.names c.retire.new.names (changed c.self.inside.names c.args.name.now (begun_to_go c.args.worker)) c.retire.ensures.ok c.retire.ensures.err (noted-changed c.self.inside.noted.entries c.args.name.now (begun_to_go c.args.worker) (λ m r h. tt) c.self.inside.names c.self.invariant) c.self.invariant

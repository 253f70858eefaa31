use Rattle.ref_counts.proofs.Partings.{all_names-sorted}
use Rattle.ref_counts.proofs.registrations.Registrations.rise.Goals as goal

pub returns : goal.returns
returns c = rw (← c.self.view_is) (all_names-sorted c.self.inside c.self.invariant c.len-rows.ensures.ordered c.len-neighbors.ensures.ordered c.len-routes.ensures.ordered c.len-others.ensures.ordered c.len-groups.ensures.ordered)

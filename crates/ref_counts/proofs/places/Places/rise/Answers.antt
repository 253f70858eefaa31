use Rattle.ref_counts.proofs.KeptRoutes.{kept-rising}
use Rattle.ref_counts.proofs.places.Places.rise.Goals as goal

pub returns : goal.returns
returns c = rw (← c.self.view_is) (kept-rising c.self.inside c.self.invariant c.len-rows.ensures.ordered c.len-routes.ensures.ordered)

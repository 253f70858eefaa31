use Rattle.ref_counts.proofs.Pins.{places-kept}
use Rattle.ref_counts.proofs.claims.Claims.add_user.Goals as goal

pub invariant_of-self : goal.invariant_of-self
invariant_of-self c = places-kept c.self.inside.users c.put_user.new.places c.put_user.ensures.others c.self.inside.pins.items c.self.invariant

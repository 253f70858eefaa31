use Rattle.std.proofs.Common.{◌∙◌}
use Rattle.ref_counts.proofs.KeptRoutes.{route-stands, row-found}
use Rattle.ref_counts.proofs.places.Places.get.Goals as goal

pub returns-in-Route : goal.returns-in-Route
returns-in-Route c = rw (c.in-Route.is, ← c.self.view_is) (c.copied.ensures ∙ c.get.ensures ∙ (route-stands c.self.inside c.self.invariant (record { vrf = c.in-Route.vrf; prefix = c.in-Route.prefix })).found)

pub returns-in_default : goal.returns-in_default
returns-in_default c = rw (← c.self.view_is) (c.copied-in_default.ensures ∙ c.get-in_default.ensures ∙ row-found c.self.inside c.self.invariant c.args.key.now c.in_default.not-Route)

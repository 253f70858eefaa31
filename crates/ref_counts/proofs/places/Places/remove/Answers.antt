use Rattle.table_schema.specs.Key.{key_cmp}
use Rattle.ref_counts.specs.Kept.{ComesBeforeRoutes}
use Rattle.ref_counts.proofs.KeptRoutes.{route-stands, row-removed}
use Rattle.late_maps.proofs.Segments.{all-removed}
use Rattle.ref_counts.proofs.places.Places.remove.Goals as goal

pub invariant_of-self-in_default : goal.invariant_of-self-in_default
invariant_of-self-in_default c = rw c.remove-in_default.ensures.entries (all-removed key_cmp c.args.key.now ComesBeforeRoutes c.self.inside.rows c.self.invariant)

pub returns-in-Route : goal.returns-in-Route
returns-in-Route c = rw (c.in-Route.is, ← c.self.view_is) ((route-stands c.self.inside c.self.invariant (record { vrf = c.in-Route.vrf; prefix = c.in-Route.prefix })).removed c.remove.new.self c.remove.ensures.entries)

pub returns-in_default : goal.returns-in_default
returns-in_default c = rw (← c.self.view_is) (row-removed c.self.inside c.self.invariant c.args.key.now c.in_default.not-Route c.remove-in_default.new.self c.remove-in_default.ensures.entries)

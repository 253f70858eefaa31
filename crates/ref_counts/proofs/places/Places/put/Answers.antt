use Rattle.std.proofs.Common.{◌∙◌}
use Rattle.table_schema.specs.Key.{key_cmp}
use Rattle.ref_counts.specs.Kept.{ComesBeforeRoutes}
use Rattle.ref_counts.proofs.KeptRoutes.{readable_before, route-stands, row-found, row-put}
use Rattle.late_maps.proofs.Segments.{all-inserted}
use Rattle.ref_counts.proofs.places.Places.put.Goals as goal

pub invariant_of-self-in_default : goal.invariant_of-self-in_default
invariant_of-self-in_default c = rw c.in_ok-insert-in_default.ensures.entries (all-inserted key_cmp c.args.key ComesBeforeRoutes (readable_before c.args.key c.in_default.not-Route c.requires) c.self.inside.rows c.args.uses c.self.invariant)

pub returns-in_ok-insert-in-Route-clause-old : goal.returns-in_ok-insert-in-Route-clause-old
returns-in_ok-insert-in-Route-clause-old c = rw (c.in-Route.is, ← c.self.view_is) (c.in_ok-insert-in-Route.ensures.old ∙ (route-stands c.self.inside c.self.invariant (record { vrf = c.in-Route.vrf; prefix = c.in-Route.prefix })).found)

pub returns-in_ok-insert-in-Route-clause-ok : goal.returns-in_ok-insert-in-Route-clause-ok
returns-in_ok-insert-in-Route-clause-ok c = rw (c.in-Route.is, ← c.self.view_is) ((route-stands c.self.inside c.self.invariant (record { vrf = c.in-Route.vrf; prefix = c.in-Route.prefix })).put c.insert.new.self c.args.uses c.in_ok-insert-in-Route.ensures.entries)

pub returns-in_ok-insert-in_default : goal.returns-in_ok-insert-in_default
returns-in_ok-insert-in_default c =
    let found = c.in_ok-insert-in_default.ensures.old ∙ row-found c.self.inside c.self.invariant c.args.key c.in_default.not-Route in
    record { old = rw (← c.self.view_is) found; ok = rw (← c.self.view_is) (row-put c.self.inside c.self.invariant c.args.key c.in_default.not-Route c.insert-in_default.new.self c.args.uses c.requires c.in_ok-insert-in_default.ensures.entries); err = tt }

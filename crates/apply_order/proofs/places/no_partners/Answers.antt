use Rattle.apply_order.proofs.places.no_partners.Goals as goal

pub returns-clause-each : goal.returns-clause-each
returns-clause-each c = record { each = c.loop-place.invariant.1 }

use Rattle.std.proofs.Common.{◌∙◌}
use Rattle.sai_chip.proofs.Taken.{own-taken, neighbor-taken, route-taken}
use Rattle.sai_chip.proofs.bodies.Bodies.takes.Goals as goal

pub returns-in-OwnAddress : goal.returns-in-OwnAddress
returns-in-OwnAddress c = rw (c.in-OwnAddress.is, ← c.self.view_is) (c.contains.ensures ∙ own-taken c.self.inside.numbered c.self.inside.own.keys c.self.inside.neighbors.entries c.self.inside.routes c.self.invariant.with_ids c.in-OwnAddress.vr c.in-OwnAddress.ip)

pub returns-in-Neighbor : goal.returns-in-Neighbor
returns-in-Neighbor c = rw (c.in-Neighbor.is, ← c.self.view_is) (c.contains_key.ensures ∙ neighbor-taken c.self.inside.numbered c.self.inside.own.keys c.self.inside.neighbors.entries c.self.inside.routes c.self.invariant.with_ids c.in-Neighbor.rif c.in-Neighbor.ip c.in-Neighbor.mac)

pub returns-in-Route : goal.returns-in-Route
returns-in-Route c = rw (c.in-Route.is, ← c.self.view_is) (c.contains_key-in-Route.ensures ∙ route-taken c.self.inside.numbered c.self.inside.own.keys c.self.inside.neighbors.entries c.self.inside.routes c.self.invariant.with_ids c.in-Route.vr c.in-Route.prefix c.in-Route.to)

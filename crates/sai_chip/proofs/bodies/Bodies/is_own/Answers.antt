use Rattle.std.proofs.Common.{◌∙◌}
use Rattle.sai_chip.proofs.Looked.{own-default, own-named}
use Rattle.sai_chip.proofs.bodies.Bodies.is_own.Goals as goal

pub returns-in-Default : goal.returns-in-Default
returns-in-Default c = rw (← c.self.view_is) (c.contains.ensures ∙ own-default c.self.inside.numbered c.self.inside.own.keys c.self.inside.neighbors.entries c.self.inside.routes c.self.invariant.with_ids c.args.packet.now c.in-Default.is)

pub returns-in-Named : goal.returns-in-Named
returns-in-Named c = rw (← c.self.view_is) (c.has_own_key.ensures ∙ own-named c.self.inside.numbered c.self.inside.own.keys c.self.inside.neighbors.entries c.self.inside.routes c.self.invariant.with_ids c.args.packet.now)

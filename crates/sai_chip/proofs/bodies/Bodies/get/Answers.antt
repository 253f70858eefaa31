use Rattle.std.proofs.Common.{◌∙◌, sym}
use Rattle.sai_chip.proofs.Changed.{at-id}
use Rattle.sai_chip.proofs.bodies.Bodies.get.Goals as goal

pub returns : goal.returns
returns c = rw (← c.self.view_is) (c.get.ensures ∙ sym (at-id c.self.inside.numbered c.self.inside.own.keys c.self.inside.neighbors.entries c.self.inside.routes c.args.id))

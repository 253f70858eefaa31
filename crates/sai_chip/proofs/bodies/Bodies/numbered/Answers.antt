use Rattle.std.proofs.Common.{◌∙◌, sym}
use Rattle.chip_names.proofs.Ids.{at-numbered}
use Rattle.sai_chip.proofs.Changed.{at-id}
use Rattle.sai_chip.proofs.bodies.Bodies.numbered.Goals as goal

pub returns : goal.returns
returns c = rw (← c.self.view_is) (record { each = λ r. at-numbered c.self.inside.numbered r ∙ sym (at-id c.self.inside.numbered c.self.inside.own.keys c.self.inside.neighbors.entries c.self.inside.routes r) })

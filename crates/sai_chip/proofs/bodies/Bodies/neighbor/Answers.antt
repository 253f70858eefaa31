use Rattle.std.proofs.Common.{option_map, ◌∙◌, sym, ap}
use Rattle.sai_types.specs.declared.body.Body.TheVariants as body
use Rattle.sai_chip.proofs.Changed.{at-neighbor}
use Rattle.sai_chip.proofs.bodies.Bodies.neighbor.Goals as goal

pub returns : goal.returns
returns c = rw (← c.self.view_is) (c.neighbor_if.ensures ∙ ap (option_map (body.Neighbor c.args.rif c.args.ip.now)) (c.copied.ensures ∙ c.get.ensures.value) ∙ sym (at-neighbor c.self.inside.numbered c.self.inside.own.keys c.self.inside.neighbors.entries c.self.inside.routes c.args.rif c.args.ip.now))

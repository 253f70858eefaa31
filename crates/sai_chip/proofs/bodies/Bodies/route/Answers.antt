use Rattle.std.proofs.Common.{option_map, ◌∙◌, sym, ap}
use Rattle.sai_types.specs.declared.body.Body.TheVariants as body
use Rattle.sai_chip.proofs.Changed.{at-route}
use Rattle.sai_chip.proofs.bodies.Bodies.route.Goals as goal

pub returns : goal.returns
returns c = rw (← c.self.view_is) (c.route_if.ensures ∙ ap (option_map (body.Route c.args.vr c.args.prefix)) (c.copied.ensures ∙ c.get.ensures) ∙ sym (at-route c.self.inside.numbered c.self.inside.own.keys c.self.inside.neighbors.entries c.self.inside.routes c.args.vr c.args.prefix))

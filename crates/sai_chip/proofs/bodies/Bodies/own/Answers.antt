use Rattle.std.proofs.Common.{None, Some, cond, ◌∙◌, sym, ap}
use Rattle.sai_types.specs.declared.body.Body.TheVariants as body
use Rattle.sai_chip.proofs.Changed.{at-own}
use Rattle.sai_chip.proofs.bodies.Bodies.own.Goals as goal

pub returns : goal.returns
returns c = rw (← c.self.view_is) (c.own_if.ensures ∙ ap (λ b. cond b (Some (body.OwnAddress c.args.vr c.args.ip)) None) c.contains.ensures ∙ sym (at-own c.self.inside.numbered c.self.inside.own.keys c.self.inside.neighbors.entries c.self.inside.routes c.args.vr c.args.ip))

use Rattle.std.proofs.Common.{◌∙◌}
use Rattle.sai_chip.specs.declared.mark.TakenMark.TheVariants as mark
use Rattle.sai_chip.proofs.Standing.{standing-kind}
use Rattle.sai_chip.proofs.held.Held.used.Goals as goal

pub returns : goal.returns
returns c = rw (← c.self.view_is) (c.count.ensures ∙ c.self.invariant.each (mark.Of c.args.kind) ∙ standing-kind c.args.kind c.self.inside.bodies)

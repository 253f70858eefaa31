use Rattle.std.proofs.Common.{ap, ◌∙◌, nat_lt}
use Rattle.sai_chip.proofs.Standing.{positive-standing}
use Rattle.sai_chip.proofs.held.Held.has.Goals as goal

pub returns : goal.returns
returns c = rw (← c.self.view_is) (ap (nat_lt 0) (c.count.ensures ∙ c.self.invariant.each c.args.mark.now) ∙ positive-standing c.args.mark.now c.self.inside.bodies)

use Rattle.swss_service.proofs.Serving.{stepped-in}
use Rattle.swss_service.proofs.locked.Locked.step.Goals as goal

pub invariant_of-self : goal.invariant_of-self
invariant_of-self g c = stepped-in c.args.worker c.self.inside.core c.step.new.self (g.C.Chip.state c.self.inside.chip) (g.C.Chip.state c.step.new.chip) c.self.invariant c.step.ensures.goes_on

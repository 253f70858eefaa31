use Rattle.std.proofs.Common.{refl, sym, subst}
use Rattle.swss_service.specs.CoreAndChip.{beside}
use Rattle.swss_service.specs.Served.{IsServed}
use Rattle.swss_service.proofs.Serving.{served-new, served-restarted, within}
use Rattle.swss_service.proofs.locked.Locked.restart.Goals as goal

pub invariant_of-self : goal.invariant_of-self
invariant_of-self g c =
    let chip = g.C.Chip.state c.self.inside.chip in
    let o = beside c.self.inside.core chip in
    within 0 o c.restart.new.self chip
    (served-restarted 0 o c.self.inside.core chip (served-new 0 o c.self.inside.core chip refl c.self.invariant) c.effects.result c.effects.ensures
    c.restart.result c.restart.new.self c.restart.ensures.ok c.restart.ensures.err c.restart.ensures.steps)

pub returns-clause-goes_on : goal.returns-clause-goes_on
returns-clause-goes_on g c = λ most o x.
    let chip = g.C.Chip.state c.self.inside.chip in
    served-restarted most o c.self.inside.core chip (subst (IsServed most o) (sym c.self.view_is) x) c.effects.result c.effects.ensures
    c.restart.result c.restart.new.self c.restart.ensures.ok c.restart.ensures.err c.restart.ensures.steps

use Rattle.std.proofs.Common.{sym, subst}
use Rattle.swss_service.specs.CoreAndChip.{beside}
use Rattle.swss_service.specs.Rounds.{SettlesBoth, end_of_settling}
use Rattle.swss_service.proofs.Rounds.{settles-both}
use Rattle.swss_service.proofs.Serving.{stepped-in}
use Rattle.swss_service.proofs.locked.Locked.settle.Goals as goal

pub invariant_of-self : goal.invariant_of-self
invariant_of-self g c = stepped-in 0 c.self.inside.core c.settle.new.self (g.C.Chip.state c.self.inside.chip) (g.C.Chip.state c.settle.new.chip) c.self.invariant c.settle.ensures.goes_on

pub returns : goal.returns
returns g c =
    let last = beside c.settle.new.self (g.C.Chip.state c.settle.new.chip) in
    subst (λ e. SettlesBoth c.args.self.now e last) (sym c.end_of_settling.ensures)
    (subst (λ m. SettlesBoth m (end_of_settling c.settle.result) last) c.self.view_is
    (settles-both (beside c.self.inside.core (g.C.Chip.state c.self.inside.chip)) last c.settle.result c.settle.ensures.settles))

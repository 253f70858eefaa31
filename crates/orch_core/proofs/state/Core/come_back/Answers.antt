use Rattle.std.proofs.Common.{◌∙◌, sym}
use Rattle.orch_core.proofs.Coming.{comes_none}
use Rattle.orch_core.proofs.state.Core.come_back.Goals as goal

pub returns-in-Reconciled : goal.returns-in-Reconciled
returns-in-Reconciled g c = λ s is. record { later = s; comes = comes_none s c.args.self.now (g.C.Chip.state c.args.chip.now) is; warm = sym c.state.ensures ∙ c.in-Reconciled.is }

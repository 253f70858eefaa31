use Rattle.std.proofs.Common.{subst, sym}
use Rattle.asic_view.specs.View.{ViewState}
use Rattle.swss_bench.specs.Churn.{AreRoutesBelow}
use Rattle.swss_bench.proofs.RoutesBelow.{taken}
use Rattle.swss_bench.proofs.churn.take_all.Goals as goal

pub loop-vid-preserved : goal.loop-vid-preserved
loop-vid-preserved c = subst (λ (o : ViewState). AreRoutesBelow 20000 o.objects) (sym c.take_back.ensures) (taken 20000 c.loop-vid.view.objects c.in-Some.vid c.loop-vid.invariant)

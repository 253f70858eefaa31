use Rattle.swss_bench.specs.Churn.{AreRoutesBelow}
use Rattle.swss_bench.proofs.churn.come_and_go.Given as goal

abbrev pub invariant-loop : goal.invariant-loop
invariant-loop l = AreRoutesBelow 20000 l.view.objects

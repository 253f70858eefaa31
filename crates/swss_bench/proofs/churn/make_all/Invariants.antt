use Rattle.swss_bench.specs.Churn.{AreRoutesBelow}
use Rattle.swss_bench.proofs.churn.make_all.Given as goal

abbrev pub invariant-loop-route : goal.invariant-loop-route
invariant-loop-route l = AreRoutesBelow l.route l.view.objects

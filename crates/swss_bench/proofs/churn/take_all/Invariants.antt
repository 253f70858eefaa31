use Rattle.swss_bench.specs.Churn.{AreRoutesBelow}
use Rattle.swss_bench.proofs.churn.take_all.Given as goal

abbrev pub invariant-loop-vid : goal.invariant-loop-vid
invariant-loop-vid l = AreRoutesBelow 20000 l.view.objects

abbrev pub decreases-loop-vid : goal.decreases-loop-vid
decreases-loop-vid l = goal.left-loop-vid l

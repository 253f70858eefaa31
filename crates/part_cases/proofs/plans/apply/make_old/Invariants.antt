use Rattle.part_cases.specs.Tested.{AreTwins}
use Rattle.part_cases.proofs.plans.apply.make_old.Given as goal

-- both chips answer alike
abbrev pub invariant-loop-body : goal.invariant-loop-body
invariant-loop-body l = AreTwins l.chip l.twin

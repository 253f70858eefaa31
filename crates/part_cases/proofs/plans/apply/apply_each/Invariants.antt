use Rattle.part_cases.specs.Tested.{AreTwins}
use Rattle.part_cases.proofs.plans.apply.apply_each.Given as goal

-- both chips answer alike
abbrev pub invariant-loop-most : goal.invariant-loop-most
invariant-loop-most l = AreTwins l.chip l.twin

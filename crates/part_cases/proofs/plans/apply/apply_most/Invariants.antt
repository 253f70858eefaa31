use Rattle.part_cases.specs.Tested.{AreTwins}
use Rattle.part_cases.proofs.plans.apply.apply_most.Given as goal

-- both chips answer alike
abbrev pub invariant-loop : goal.invariant-loop
invariant-loop l = AreTwins l.chip l.twin

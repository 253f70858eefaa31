use Rattle.part_cases.specs.Tested.{AreLinked}
use Rattle.part_cases.proofs.plans.apply.build.Given as goal

-- the chip holds the temporary view, and the list its objects
abbrev pub invariant-loop-body : goal.invariant-loop-body
invariant-loop-body l = AreLinked l.syncd l.objects.items l.chip

use Rattle.std.proofs.Common.{◌≡◌, ◌++◌, drop}
use Rattle.view_match.specs.Listed.{objects_as}
use Rattle.view_match.proofs.listed.as_listed.Given as goal

-- the objects so far, with those that are left, are all
abbrev pub invariant-loop-object : goal.invariant-loop-object
invariant-loop-object l = l.listed.items ++ objects_as (drop l.object-index l.objects) ≡ objects_as l.objects

use Rattle.std.proofs.Common.{◌≡◌, ◌++◌, drop}
use Rattle.view_match.specs.Listed.{objects_as, without_routes}
use Rattle.view_match.proofs.listed.others_listed.Given as goal

-- the objects so far, with those that are left, are all but the routes
abbrev pub invariant-loop-object : goal.invariant-loop-object
invariant-loop-object l = l.listed.items ++ objects_as (without_routes (drop l.object-index l.objects)) ≡ objects_as (without_routes l.objects)

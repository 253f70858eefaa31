use Rattle.std.proofs.Common.{◌≡◌, ◌++◌, drop, map}
use Rattle.sai_types.specs.Named.{thing_by, those}
use Rattle.chip_names.specs.Naming.{entries_of, hops_of_group, numbered}
use Rattle.chip_names.proofs.things.list_things.Given as goal

-- the things so far, with those of the objects that are left, are the things of all
abbrev pub invariant-loop-object : goal.invariant-loop-object
invariant-loop-object l =
    l.things.items ++ those (map (thing_by (hops_of_group l.groups) (numbered l.bodies)) (entries_of (drop l.object-index l.objects)))
    ≡ those (map (thing_by (hops_of_group l.groups) (numbered l.bodies)) (entries_of l.objects))

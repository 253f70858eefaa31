use Rattle.std.proofs.Common.{◌≡◌, ◌++◌, drop}
use Rattle.sai_types.specs.Named.{named, things_among, those}
use Rattle.chip_names.specs.Naming.{entries_of}
use Rattle.packet_walk.proofs.fib.things_of.Given as goal

-- the things so far, with those of the objects that are left, are the things of all
abbrev pub invariant-loop-object : goal.invariant-loop-object
invariant-loop-object l =
    l.things.items ++ those (things_among (entries_of l.objects) (entries_of (drop l.object-index l.objects))) ≡ those (named (entries_of l.objects))

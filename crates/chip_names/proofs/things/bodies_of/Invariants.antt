use Rattle.std.proofs.Common.{◌≡◌, drop}
use Rattle.std.specs.Option.{option_or}
use Rattle.sai_types.specs.declared.ids.Rid.{Rid}
use Rattle.sai_types.specs.declared.body.Entry.TheVariants as entry
use Rattle.sai_types.specs.Objects.{body_at}
use Rattle.chip_names.specs.Naming.{entries_of, numbered}
use Rattle.chip_names.proofs.things.bodies_of.Given as goal

-- the bodies so far, and then those of the objects that are left, are found as those of all
abbrev pub invariant-loop-object : goal.invariant-loop-object
invariant-loop-object l =
    (r : Rid) → option_or (body_at (numbered l.bodies) (entry.Oid r)) (body_at (entries_of (drop l.object-index l.objects)) (entry.Oid r)) ≡ body_at (entries_of l.objects) (entry.Oid r)

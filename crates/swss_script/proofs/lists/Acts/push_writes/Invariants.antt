use Rattle.std.proofs.Common.{◌≡◌, ◌++◌, map}
use Rattle.std.specs.Vec.Iter.{into_iter_items}
use Rattle.swss_script.specs.declared.parts.Act.TheVariants as act
use Rattle.swss_script.proofs.lists.Acts.push_writes.Given as goal

-- the acts so far, with the writes that are left, are those before with all writes
abbrev pub invariant-loop-write : goal.invariant-loop-write
invariant-loop-write l = l.self-inside.acts.items ++ map act.Write (into_iter_items l.write-iterator) ≡ l.fn.self ++ map act.Write l.fn.writes

use Rattle.std.proofs.Common.{◌≡◌, []}
use Rattle.std.specs.Vec.Iter.{into_iter_items}
use Rattle.table_schema.specs.Fields.{merged}
use Rattle.table_schema.proofs.own_fields.OwnFields.from_pairs.Given as goal

-- the pairs so far, with those that are left laid over them, are all of them
abbrev pub invariant-loop-name : goal.invariant-loop-name
invariant-loop-name l = merged l.fields (into_iter_items l.name-iterator) ≡ merged [] l.fn.pairs.items

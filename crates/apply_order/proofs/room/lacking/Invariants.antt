use Rattle.std.proofs.Common.{◌≡◌, ◌+◌, ◌≤◌, drop, slice_index}
use Rattle.sai_types.specs.declared.kind.Kind.{Kind}
use Rattle.sai_types.specs.Objects.{level}
use Rattle.apply_order.specs.Places.{IsTable, Places}
use Rattle.apply_order.specs.Room.{lacking_from}
use Rattle.apply_order.proofs.room.lacking.Given as goal

-- the objects so far, with those that are left, are all
abbrev pub invariant-loop-object : goal.invariant-loop-object
invariant-loop-object l = record {
  counted : l.place ≡ l.object-index;
  below : (kind : Kind) → slice_index l.counts (level kind) ≤ l.object-index;
  sum : (known : Places) → IsTable known l.paired.items → (kind : Kind) → slice_index l.counts (level kind) + lacking_from kind known (drop l.object-index l.new) l.place ≡ lacking_from kind known l.new 0;
}

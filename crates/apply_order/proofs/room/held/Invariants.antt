use Rattle.std.proofs.Common.{◌≡◌, ◌+◌, ◌≤◌, drop, slice_index}
use Rattle.sai_types.specs.declared.kind.Kind.{Kind}
use Rattle.sai_types.specs.Objects.{level}
use Rattle.apply_order.specs.Room.{old_count}
use Rattle.apply_order.proofs.room.held.Given as goal

-- the objects so far, with those that are left, are all
abbrev pub invariant-loop-object : goal.invariant-loop-object
invariant-loop-object l = record {
  below : (kind : Kind) → slice_index l.counts (level kind) ≤ l.object-index;
  sum : (kind : Kind) → slice_index l.counts (level kind) + old_count kind (drop l.object-index l.old) ≡ old_count kind l.old;
}

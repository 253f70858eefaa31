use Rattle.std.proofs.Common.{◌≡◌, ◌++◌, take, length}
use Rattle.sai_types.specs.ChipState.{objects_of}
use Rattle.sai_chip.specs.Bodies.{owned}
use Rattle.sai_chip.proofs.bodies.push_own.Given as goal

-- what was there stays in front, and the objects so far, with those that are left, are all
abbrev pub invariant-loop-vr : goal.invariant-loop-vr
invariant-loop-vr l = record {
  front : take (length l.fn.out.items) l.out.items ≡ l.fn.out.items;
  all : l.out.items ++ objects_of (owned l.vr-iterator) ≡ l.fn.out.items ++ objects_of (owned l.own.keys);
}

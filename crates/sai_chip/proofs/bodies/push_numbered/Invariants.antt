use Rattle.std.proofs.Common.{◌≡◌, ◌++◌, take, length}
use Rattle.sai_types.specs.ChipState.{objects_of}
use Rattle.chip_names.specs.Naming.{numbered}
use Rattle.sai_chip.proofs.bodies.push_numbered.Given as goal

-- what was there stays in front, and the objects so far, with those that are left, are all
abbrev pub invariant-loop-id : goal.invariant-loop-id
invariant-loop-id l = record {
  front : take (length l.fn.out.items) l.out.items ≡ l.fn.out.items;
  all : l.out.items ++ objects_of (numbered l.id-iterator) ≡ l.fn.out.items ++ objects_of (numbered l.bodies);
}

use Rattle.std.proofs.Common.{◌≡◌, ◌≤◌, length, take, drop, vec_capacity}
use Rattle.producer_table.specs.Pending.{ops_of}
use Rattle.producer_table.proofs.waiting.Waiting.pop.Given as goal

-- the first keys were taken, the others are left, and there is room for those that are to be taken
abbrev pub invariant-loop : goal.invariant-loop
invariant-loop l = record {
  taken : l.ops.items ≡ ops_of (take l.counter l.fn.self);
  left : l.self-inside.keys ≡ drop l.counter l.fn.self;
  within : l.count ≤ length l.fn.self;
  held : length l.ops.items ≡ l.counter;
  room : l.count ≤ vec_capacity l.ops;
}

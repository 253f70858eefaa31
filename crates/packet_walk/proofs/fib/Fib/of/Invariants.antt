use Rattle.std.proofs.Common.{◌≡◌, ◌≤◌, drop, length}
use Rattle.std.specs.List.{AllByRecursion}
use Rattle.packet_walk.specs.Sends.{send_by}
use Rattle.packet_walk.specs.Tables.{IsProperThing, tables_of}
use Rattle.packet_walk.proofs.fib.Fib.of.Given as goal

-- the tables are those of the things from this place on
abbrev pub invariant-loop-left : goal.invariant-loop-left
invariant-loop-left l = record {
  within : l.left ≤ length l.things;
  made : l.fib ≡ tables_of (send_by l.macs.entries) (drop l.left l.things);
  proper : AllByRecursion IsProperThing (drop l.left l.things);
}

abbrev pub decreases-loop-left : goal.decreases-loop-left
decreases-loop-left l = l.left

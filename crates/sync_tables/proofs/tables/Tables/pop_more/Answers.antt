use Rattle.std.proofs.Common.{◌≡◌, ◌≤◌, ◌+◌, [], rules, arith}
use Rattle.sync_tables.specs.Tables.{PopsInPart}
use Rattle.sync_tables.proofs.Batches.{batch-all, batch-then, part-none, part-then}
use Rattle.sync_tables.proofs.Popped.{PopsKeys-then}
use Rattle.sync_tables.proofs.tables.Tables.pop_more.Goals as goal

pub returns-in_err-pop_first-clause-part : goal.returns-in_err-pop_first-clause-part
returns-in_err-pop_first-clause-part c =
    let within : c.loop.counter + 1 ≤ c.args.count = omega (arith, c.loop-test.true) in
    let part : PopsInPart c.args.count c.args.self.now c.pop_first.new.self =
    part-then c.args.self.now c.loop.self c.pop_first.new.self c.loop.counter 1 c.args.count within c.loop.invariant.batch (part-none c.loop.self c.pop_first.new.self 1 (omega arith) c.in_err-pop_first.ensures.none) in
    search rules

pub returns-in_err-pop_first-clause-keys : goal.returns-in_err-pop_first-clause-keys
returns-in_err-pop_first-clause-keys c = PopsKeys-then c.args.self.now c.loop.self c.pop_first.new.self c.loop.invariant.keys c.pop_first.ensures.keys

pub loop-preserved : goal.loop-preserved
loop-preserved c = record {
  batch = batch-then c.args.self.now c.loop.self c.pop_first.new.self c.loop.counter 1 c.loop.invariant.batch c.in_ok-pop_first.ensures.batch;
  keys = PopsKeys-then c.args.self.now c.loop.self c.pop_first.new.self c.loop.invariant.keys c.pop_first.ensures.keys;
}

pub returns-then-not-branch-clause-batch : goal.returns-then-not-branch-clause-batch
returns-then-not-branch-clause-batch c =
    let none : c.loop.self.waiting ≡ [] = search rules in
    let within : c.loop.counter ≤ c.args.count = omega (arith, c.loop-test.true) in
    batch-all c.args.self.now c.loop.self c.pop_first.new.self c.loop.counter 1 c.args.count within c.loop.invariant.batch none c.in_ok-pop_first.ensures.batch

pub returns-then-not-branch-clause-keys : goal.returns-then-not-branch-clause-keys
returns-then-not-branch-clause-keys c = PopsKeys-then c.args.self.now c.loop.self c.pop_first.new.self c.loop.invariant.keys c.pop_first.ensures.keys

use Rattle.std.proofs.Common.{◌-◌, inr, rules, arith}
use Rattle.sync_tables.specs.Tables.{PopsBatch, PopsInPart, PopsSome}
use Rattle.sync_tables.specs.declared.tables.TheConstants.{BATCH}
use Rattle.sync_tables.proofs.Batches.{batch-then, part-none, part-then}
use Rattle.sync_tables.proofs.LeftWaiting.{fewer-wait}
use Rattle.sync_tables.proofs.Popped.{PopsKeys-then, PopsSome-then}
use Rattle.sync_tables.proofs.tables.Tables.pop.Goals as goal

pub returns-in_err-pop_first-clause-part : goal.returns-in_err-pop_first-clause-part
returns-in_err-pop_first-clause-part c =
    let part : PopsInPart BATCH c.args.self.now c.pop_first.new.self = part-none c.args.self.now c.pop_first.new.self BATCH (omega arith) c.in_err-pop_first.ensures.none in
    search rules

pub returns-in_err-pop_more-clause-part : goal.returns-in_err-pop_more-clause-part
returns-in_err-pop_more-clause-part c =
    let part : PopsInPart BATCH c.args.self.now c.pop_more.new.self =
    part-then c.args.self.now c.pop_first.new.self c.pop_more.new.self 1 (BATCH - 1) BATCH (omega arith) c.in_ok-pop_first.ensures.batch c.in_err-pop_more.ensures.part in
    search rules

pub returns-in_err-pop_more-clause-keys : goal.returns-in_err-pop_more-clause-keys
returns-in_err-pop_more-clause-keys c = PopsKeys-then c.args.self.now c.pop_first.new.self c.pop_more.new.self c.pop_first.ensures.keys c.pop_more.ensures.keys

pub returns-in_ok-pop_more-clause-batch : goal.returns-in_ok-pop_more-clause-batch
returns-in_ok-pop_more-clause-batch c = batch-then c.args.self.now c.pop_first.new.self c.pop_more.new.self 1 (BATCH - 1) c.in_ok-pop_first.ensures.batch c.in_ok-pop_more.ensures.batch

pub returns-in_ok-pop_more-clause-keys : goal.returns-in_ok-pop_more-clause-keys
returns-in_ok-pop_more-clause-keys c = PopsKeys-then c.args.self.now c.pop_first.new.self c.pop_more.new.self c.pop_first.ensures.keys c.pop_more.ensures.keys

pub returns-in_ok-pop_more-clause-some : goal.returns-in_ok-pop_more-clause-some
returns-in_ok-pop_more-clause-some c =
    let some : PopsSome c.args.self.now c.pop_first.new.self = search rules in
    inr (PopsSome-then c.args.self.now c.pop_first.new.self c.pop_more.new.self some c.pop_more.ensures.keys)

pub returns-in_ok-pop_more-clause-fewer : goal.returns-in_ok-pop_more-clause-fewer
returns-in_ok-pop_more-clause-fewer c =
    let some : PopsSome c.args.self.now c.pop_first.new.self = search rules in
    let whole : PopsBatch BATCH c.args.self.now c.pop_more.new.self = batch-then c.args.self.now c.pop_first.new.self c.pop_more.new.self 1 (BATCH - 1) c.in_ok-pop_first.ensures.batch c.in_ok-pop_more.ensures.batch in
    inr (fewer-wait c.args.self.now c.pop_more.new.self BATCH (omega arith) (PopsSome-then c.args.self.now c.pop_first.new.self c.pop_more.new.self some c.pop_more.ensures.keys) whole.waiting)

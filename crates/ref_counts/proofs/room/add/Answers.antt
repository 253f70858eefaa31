use Rattle.std.proofs.Common.{◌+◌, ◌^◌, ◌<◌, inr, arith, rules, slice_index}
use Rattle.ref_counts.proofs.room.add.Goals as goal

pub overflow_add-sum-in-loop-at : goal.overflow_add-sum-in-loop-at
overflow_add-sum-in-loop-at c =
    let same = c.loop-at.invariant.1 (c.args.first + c.loop-at.at) (inr (omega arith)) in
    let most = c.requires.bounds c.loop-at.at (omega arith) in
    let fits : slice_index c.args.bounds.now c.loop-at.at < 2 ^ 64 = search rules in
    omega arith

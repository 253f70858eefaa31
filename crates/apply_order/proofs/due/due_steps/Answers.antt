use Rattle.std.proofs.Common.{rules}
use Rattle.apply_order.specs.Places.{by_new, by_old}
use Rattle.apply_order.proofs.Left.{needed-due}
use Rattle.apply_order.proofs.Lengths.{length-old}
use Rattle.apply_order.proofs.due.due_steps.Goals as goal

pub push_old-requires-clause-keyed : goal.push_old-requires-clause-keyed
push_old-requires-clause-keyed c = length-old c.args.keys.of_old.items c.args.old.now c.requires.keyed.of_old

pub returns : goal.returns
returns c =
    let due = needed-due c.args.names.now c.args.old.now c.args.new.now c.args.mode c.args.pairs.now in
    let made = c.in_ok-push_new.ensures (by_new c.paired_in-pairs.result.now) c.in_ok-new_places.ensures.each in
    let gone = c.in_ok-push_old.ensures (by_old c.paired_in-pairs.result.now) c.in_ok-old_places.ensures.each in
    grind (rules, due, made, gone)

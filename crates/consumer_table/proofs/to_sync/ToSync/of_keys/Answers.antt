use Rattle.std.proofs.Common.{◌≡◌, [], sym, ap, subst, ◌∙◌}
use Rattle.std.proofs.lemmas.List.{nil_from_length}
use Rattle.consumer_table.specs.Ops.{AreOpsInOrder}
use Rattle.consumer_table.proofs.KeySets.{AreOpsInOrder-sets, op_at-sets, with_sets}
use Rattle.consumer_table.proofs.to_sync.ToSync.of_keys.Goals as goal
use Rattle.consumer_table.proofs.to_sync.ToSync.of_keys.Goals.{In-None}

-- no key is left
made : (c : In-None) → c.loop-key.ops ≡ with_sets [] c.args.keys.items
made c =
    let left = c.loop-key.key-iterator.rest in
    ap (with_sets c.loop-key.ops) (sym (nil_from_length left.items (sym left.ok.0 ∙ c.in-None.ensures.steps.0))) ∙ c.loop-key.invariant

in_order : (c : In-None) → AreOpsInOrder c.loop-key.ops
in_order c = subst AreOpsInOrder (sym (made c)) (AreOpsInOrder-sets [] c.args.keys.items (record { keys = tt; names = tt }))

pub returns-clause-ops : goal.returns-clause-ops
returns-clause-ops c = rw (made (goal.at.returns-clause-ops c).In-None) (op_at-sets [] c.args.keys.items)

pub returns-clause-order : goal.returns-clause-order
returns-clause-order c = in_order (goal.at.returns-clause-order c).In-None

pub invariant_of-result : goal.invariant_of-result
invariant_of-result c = (in_order (goal.at.invariant_of-result c).In-None).names

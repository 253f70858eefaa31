use Rattle.std.proofs.Common.{◌≡◌, Some, rules}
use Rattle.std.specs.BTreeMap.{is_at}
use Rattle.std.proofs.lemmas.Map.Steps.{set_value_same}
use Rattle.table_schema.specs.Key.{key_cmp}
use Rattle.table_schema.proofs.Keys.{key_total}
use Rattle.producer_table.proofs.Placed.{set-found}
use Rattle.consumer_table.specs.Ops.{op_at, op_with_set}
use Rattle.consumer_table.proofs.to_sync.lay.Goals as goal

pub returns-in_err-lay-in-Some-clause-err : goal.returns-in_err-lay-in-Some-clause-err
returns-in_err-lay-in-Some-clause-err c =
    let there : op_at c.args.ops.now c.args.key ≡ Some c.in-Some.op.now = search rules in
    let same = set_value_same (is_at (key_cmp c.args.key)) c.args.ops.now c.in-Some.op.now there in
    let held = c.get_mut.follows.holds c.lay.new.self in
    search (same, held, rules)

pub returns-in_ok-lay-in-Some-clause-ok : goal.returns-in_ok-lay-in-Some-clause-ok
returns-in_ok-lay-in-Some-clause-ok c =
    let there : op_at c.args.ops.now c.args.key ≡ Some c.in-Some.op.now = search rules in
    let put = set-found key_cmp key_total c.args.ops.now c.args.key (op_with_set (Some c.in-Some.op.now) c.args.fields) c.in-Some.op.now c.get_mut.ensures.ordered there in
    let held = c.get_mut.follows.holds c.lay.new.self in
    search (put, held, rules)

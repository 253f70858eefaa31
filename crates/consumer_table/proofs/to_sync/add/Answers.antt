use Rattle.std.proofs.Common.{ap, ◌∙◌}
use Rattle.std.specs.BTreeMap.{insert_entry}
use Rattle.table_schema.specs.Key.{key_cmp}
use Rattle.consumer_table.specs.declared.op.Op.TheVariants.{Replace}
use Rattle.consumer_table.proofs.OpWrites.{ops_with-both}
use Rattle.consumer_table.proofs.to_sync.add.Goals as goal

pub returns-in_ok-was-in-true-Some-clause-ok : goal.returns-in_ok-was-in-true-Some-clause-ok
returns-in_ok-was-in-true-Some-clause-ok c =
    let ops = c.args.ops.now in
    c.in_ok-was-in-true-Some.ensures.entries
    ∙ ap (λ f. insert_entry key_cmp ops c.args.op.key (Replace f)) c.laid_over_none.ensures
    ∙ ops_with-both ops c.args.op c.in-true-Some.fields c.in-true-Some.is-0 c.in-true-Some.is-1

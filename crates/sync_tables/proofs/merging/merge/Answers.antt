use Rattle.std.proofs.Common.{rules, ap, ◌∙◌}
use Rattle.std.specs.BTreeMap.{insert_entry}
use Rattle.table_schema.specs.Key.{key_cmp}
use Rattle.table_schema.specs.Rows.{fields_at, with_fields}
use Rattle.sync_tables.proofs.Merged.{merged-removed, merged-replaced, merged-set, on_ok}
use Rattle.sync_tables.proofs.merging.merge.Goals as goal

pub returns-in-true-Some-clause-ok : goal.returns-in-true-Some-clause-ok
returns-in-true-Some-clause-ok c =
    let rows = c.args.rows.now in
    let key = c.args.key.now in
    let pending = c.args.pending.now in
    let fields = c.in-true-Some.fields in
    on_ok rows key pending c.replace.result c.replace.new.self (insert_entry key_cmp rows key fields) c.replace.ensures.ok (merged-replaced rows key pending fields c.in-true-Some.is-0 (search rules) c.items-names.ensures.names)

pub returns-in-true-None-clause-ok : goal.returns-in-true-None-clause-ok
returns-in-true-None-clause-ok c = λ q.
    ap (λ r. fields_at r q) c.remove.ensures ∙ merged-removed c.args.rows.now c.args.key.now c.args.pending.now c.in-true-None.is-0 (search rules) c.len-rising.ensures.rising q

pub returns-in-false-Some-clause-ok : goal.returns-in-false-Some-clause-ok
returns-in-false-Some-clause-ok c =
    let rows = c.args.rows.now in
    let key = c.args.key.now in
    let pending = c.args.pending.now in
    let fields = c.in-false-Some.fields in
    on_ok rows key pending c.set.result c.set.new.self (with_fields rows key fields) c.set.ensures.ok (merged-set rows key pending fields c.in-false-Some.is-0 (search rules) c.len-rising.ensures.rising)

use Rattle.std.proofs.Common.{◌≡◌, Some, rules}
use Rattle.std.specs.BTreeMap.{is_at}
use Rattle.std.proofs.lemmas.Map.Steps.{set_value_same}
use Rattle.table_schema.specs.Key.{key_cmp}
use Rattle.table_schema.specs.Rows.{fields_at}
use Rattle.row_store.proofs.Sets.{laid_row, new_row}
use Rattle.row_store.proofs.rows.Rows.set.Goals as goal

pub returns-in-Some-clause-ok : goal.returns-in-Some-clause-ok
returns-in-Some-clause-ok c =
    let rows = c.self.inside.rows in
    let there : fields_at rows c.args.key.now ≡ Some c.in-Some.row.now = search rules in
    let laid = laid_row rows c.args.key.now c.in-Some.row.now c.args.fields.now c.get_mut.ensures.ordered there in
    let held = c.get_mut.follows.holds c.merge.new.self in
    search (laid, held, rules)

pub returns-in-Some-clause-err : goal.returns-in-Some-clause-err
returns-in-Some-clause-err c =
    let rows = c.self.inside.rows in
    let there : fields_at rows c.args.key.now ≡ Some c.in-Some.row.now = search rules in
    let same = set_value_same (is_at (key_cmp c.args.key.now)) rows c.in-Some.row.now there in
    let held = c.get_mut.follows.holds c.merge.new.self in
    search (same, held, rules)

pub returns-in_ok-insert-in-None-clause-ok : goal.returns-in_ok-insert-in-None-clause-ok
returns-in_ok-insert-in-None-clause-ok c =
    let new = new_row c.self.inside.rows c.args.key.now c.args.fields.now (search rules) in
    search (new, rules)

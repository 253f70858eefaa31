use Rattle.std.proofs.Common.{◌≡◌, Some, rules}
use Rattle.std.specs.BTreeMap.{is_at}
use Rattle.std.specs.Map.{lookup}
use Rattle.std.proofs.lemmas.Map.Steps.{set_value_same}
use Rattle.table_schema.specs.Key.{key_cmp}
use Rattle.table_schema.proofs.Keys.{key_total}
use Rattle.producer_table.proofs.Placed.{set-found}
use Rattle.app_restart.specs.Entry.{entry_after}
use Rattle.app_restart.specs.TableName.{key_of_write}
use Rattle.app_restart.proofs.cache.apply.Goals as goal

pub returns-in-Some-clause-ok : goal.returns-in-Some-clause-ok
returns-in-Some-clause-ok c =
    let key = key_of_write c.args.write.now in
    let there : lookup (is_at (key_cmp key)) c.args.entries.now ≡ Some c.in-Some.entry.now = search rules in
    let put = set-found key_cmp key_total c.args.entries.now key (entry_after c.in-Some.entry.now c.args.write.now) c.in-Some.entry.now c.get_mut.ensures.ordered there in
    let held = c.get_mut.follows.holds c.apply.new.self in
    search (put, held, rules)

pub returns-in-Some-clause-err : goal.returns-in-Some-clause-err
returns-in-Some-clause-err c =
    let key = key_of_write c.args.write.now in
    let there : lookup (is_at (key_cmp key)) c.args.entries.now ≡ Some c.in-Some.entry.now = search rules in
    let same = set_value_same (is_at (key_cmp key)) c.args.entries.now c.in-Some.entry.now there in
    let held = c.get_mut.follows.holds c.apply.new.self in
    search (same, held, rules)

use Rattle.std.proofs.Common.{◌≡◌, Some, rules}
use Rattle.std.specs.BTreeMap.{is_at}
use Rattle.std.specs.Map.{lookup}
use Rattle.std.proofs.lemmas.Map.Steps.{set_value_same}
use Rattle.table_schema.specs.Key.{key_cmp}
use Rattle.table_schema.proofs.Keys.{key_total}
use Rattle.producer_table.specs.Pending.{laid_over}
use Rattle.producer_table.proofs.Placed.{set-found}
use Rattle.producer_table.proofs.waiting.lay.Goals as goal

pub returns-in-Some-clause-ok : goal.returns-in-Some-clause-ok
returns-in-Some-clause-ok c =
    let there : lookup (is_at (key_cmp c.args.key)) c.args.keys.now ≡ Some c.in-Some.pending.now = search rules in
    let put = set-found key_cmp key_total c.args.keys.now c.args.key (laid_over c.in-Some.pending.now c.args.fields) c.in-Some.pending.now c.get_mut.ensures.ordered there in
    let held = c.get_mut.follows.holds c.lay.new.self in
    search (put, held, rules)

pub returns-in-Some-clause-err : goal.returns-in-Some-clause-err
returns-in-Some-clause-err c =
    let there : lookup (is_at (key_cmp c.args.key)) c.args.keys.now ≡ Some c.in-Some.pending.now = search rules in
    let same = set_value_same (is_at (key_cmp c.args.key)) c.args.keys.now c.in-Some.pending.now there in
    let held = c.get_mut.follows.holds c.lay.new.self in
    search (same, held, rules)

use Rattle.std.proofs.Common.{◌≡◌, None, sym, ap, ◌∙◌, rules}
use Rattle.std.specs.BTreeMap.{is_at}
use Rattle.table_schema.specs.Fields.{by_bytes, restored, value_of}
use Rattle.table_schema.proofs.Restored.{set-none}
use Rattle.table_schema.proofs.many.restore_many.Goals as goal

pub returns-in_default-get_mut : goal.returns-in_default-get_mut
returns-in_default-get_mut c =
    let none : value_of c.args.name.now c.args.pairs.now.entries ≡ None = search rules in
    let same : c.get_mut.follows.lender-at-none.entries ≡ c.args.pairs.now.entries = search rules in
    same ∙ sym (set-none (is_at (by_bytes c.args.name.now)) c.args.pairs.now.entries c.in-Some.value none) ∙ ap (restored c.args.pairs.now.entries c.args.name.now) (sym c.in-Some.is)

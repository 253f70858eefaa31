use Rattle.std.proofs.Common.{◌≡◌, ◌==◌, ◌&&◌, not, false, rules, sym, ◌∙◌}
use Rattle.std.specs.BTreeMap.{is_at}
use Rattle.std.specs.List.{list_any}
use Rattle.table_schema.specs.Key.{key_cmp}
use Rattle.ref_counts.proofs.Settling.{none-beside}
use Rattle.ref_counts.proofs.placing.is_pinned_beside.Goals as goal

pub returns-else-is_pinned_by_others : goal.returns-else-is_pinned_by_others
returns-else-is_pinned_by_others c =
    let none : list_any (λ p. not (p.worker == c.args.worker) && is_at (key_cmp c.args.user.now) p.user) c.args.all.now ≡ false = search rules in
    λ free. none-beside c.args.user.now c.args.worker c.args.others.now c.args.all.now none (sym c.is_pinned_for.ensures ∙ free)

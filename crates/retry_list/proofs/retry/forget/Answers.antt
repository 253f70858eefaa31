use Rattle.std.proofs.Common.{false, sym, ap, subst, ◌≡◌, None, rules, ◌∙◌}
use Rattle.sai_types.proofs.Maps.{lookup-removed}
use Rattle.table_schema.specs.Key.{key_cmp}
use Rattle.table_schema.proofs.Keys.{key_total}
use Rattle.table_schema.proofs.Restored.{remove-none}
use Rattle.retry_list.specs.Index.{AreReasonsFiled, IsFiledAs}
use Rattle.retry_list.specs.Reasons.{reason_at}
use Rattle.std.specs.BTreeMap.{is_at}
use Rattle.retry_list.proofs.Indexed.{IsIndexed-forgotten}
use Rattle.retry_list.proofs.retry.forget.Goals as goal

pub returns-in-Some-clause-indexed : goal.returns-in-Some-clause-indexed
returns-in-Some-clause-indexed c =
    let reasons = c.args.reasons.now in
    let old = c.args.index.now in
    let new = c.unfile.new.self in
    let unfiled = subst (λ e. IsFiledAs false old new e c.args.key.now) c.of.ensures c.unfile.ensures in
    IsIndexed-forgotten reasons c.remove.new.self old new c.args.key.now c.in-Some.wait c.requires.indexed unfiled (sym c.remove.ensures.value ∙ c.in-Some.is) (λ q. ap (λ r. reason_at r q) c.remove.ensures.entries ∙ lookup-removed key_cmp key_total reasons c.args.key.now q c.len-rising.ensures.ordered)

pub returns-in-None-clause-indexed : goal.returns-in-None-clause-indexed
returns-in-None-clause-indexed c =
    let reasons = c.args.reasons.now in
    let none : reason_at reasons c.args.key.now ≡ None = search rules in
    subst (λ r. AreReasonsFiled r c.args.index.now) (sym (c.remove.ensures.entries ∙ remove-none (is_at (key_cmp c.args.key.now)) reasons none)) c.requires.indexed

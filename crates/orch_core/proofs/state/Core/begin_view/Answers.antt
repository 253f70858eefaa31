use Rattle.std.proofs.Common.{◌∙◌, ap, subst}
use Rattle.std.specs.Map.{keys_of}
use Rattle.std.specs.Option.{IsSome}
use Rattle.table_schema.specs.Rows.{fields_at}
use Rattle.sai_types.specs.Alike.{IsIn}
use Rattle.sync_tables.specs.Tables.{TablesState}
use Rattle.session_laws.specs.Core.{CoreState}
use Rattle.session_laws.specs.Service.Built.{building}
use Rattle.orch_core.specs.contracts.state.Core.{the_view}
use Rattle.orch_core.proofs.state.Core.begin_view.Goals as goal

pub returns-clause-ok : goal.returns-clause-ok
returns-clause-ok c =
    let ops = c.sync_rows.new.self.ops in
    let is =
    ap (λ t. record (the_view c.self.inside) { tables = t; sync = c.init_view.new.self; waiting = c.forget_all.new.self }) c.sync_rows.ensures.kept
    ∙ ap (λ y. record (the_view c.self.inside) { tables = record c.self.inside.tables { ops = ops }; sync = y; waiting = c.forget_all.new.self }) c.init_view.ensures
    ∙ ap (λ w. record (building (the_view c.self.inside) ops) { waiting = w }) c.forget_all.ensures
    ∙ ap (λ (z : CoreState). building z ops) c.self.view_is in
    let rows = ap (λ (t : TablesState). t.rows) c.sync_rows.ensures.kept ∙ ap (λ (z : CoreState). z.tables.rows) c.self.view_is in
    (ops, is, c.in_ok-sync_rows.ensures.order, λ k. subst (λ l. (IsIn k (keys_of ops) → IsSome (fields_at l k)) × (IsSome (fields_at l k) → IsIn k (keys_of ops))) rows (c.in_ok-sync_rows.ensures.keys k))

use Rattle.std.proofs.Common.{ap, ◌∙◌}
use Rattle.table_schema.specs.Key.{key_cmp}
use Rattle.table_schema.proofs.Keys.{key_total}
use Rattle.table_schema.proofs.Places.{HasRisingKeys-from_sorted}
use Rattle.producer_table.proofs.Found.{lookup-removed}
use Rattle.sync_tables.specs.ReadRows.{read_at}
use Rattle.sync_tables.proofs.read_rows.forget.Goals as goal

pub returns : goal.returns
returns c = λ other.
    let read = c.args.read.now in
    ap (λ r. read_at r other) c.remove.ensures.entries ∙ lookup-removed key_cmp key_total read c.args.key.now other (HasRisingKeys-from_sorted key_cmp read c.len-order.ensures.ordered)

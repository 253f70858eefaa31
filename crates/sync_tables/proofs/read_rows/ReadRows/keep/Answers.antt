use Rattle.std.proofs.Common.{◌≡◌, Some}
use Rattle.std.specs.BTreeMap.{insert_entry}
use Rattle.table_schema.specs.Key.{key_cmp}
use Rattle.table_schema.specs.Plan.{Ports}
use Rattle.table_schema.specs.Rows.{fields_at}
use Rattle.switch_model.specs.Good.{good_row}
use Rattle.producer_table.proofs.Placed.{kept}
use Rattle.sync_tables.specs.ReadRows.{AreRead}
use Rattle.sync_tables.proofs.ReadRows.{AreRead-kept}
use Rattle.sync_tables.proofs.read_rows.ReadRows.keep.Goals as goal

pub invariant_of-self-2 : goal.invariant_of-self-2
invariant_of-self-2 c =
    let rows = c.self.inside.rows in
    let read = c.self.inside.read in
    let good : (plan : Ports) → good_row plan c.args.key.now (fields_at rows c.args.key.now) ≡ Some c.args.row.now = rw c.self.view_is c.requires in
    let stays : AreRead rows (insert_entry key_cmp read c.in_ok-copy.field-0 c.in_ok-copy-2.field-0) = rw (c.in_ok-copy.ensures, c.in_ok-copy-2.ensures) (AreRead-kept rows read c.args.key.now c.args.row.now good c.self.invariant) in
    kept (AreRead rows) c.insert.result read _ c.insert.new.self c.insert.ensures.entries c.insert.ensures.err c.self.invariant stays

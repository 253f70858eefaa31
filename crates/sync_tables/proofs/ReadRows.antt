-- rows that were read, after a key is forgotten, and after one more is kept
use Rattle.std.proofs.Common.{◌≡◌, Bool, true, false, cond, List, Some, None, Result, Ok, Err, OnOk, OnErr, refl, sym, ap, ◌∙◌}
use Rattle.std.specs.BTreeMap.{insert_entry, is_at}
use Rattle.std.proofs.lemmas.Option.{none-some}
use Rattle.swss_types.proofs.Maps.{lookup-insert_entry}
use Rattle.table_schema.specs.Key.{key_cmp}
use Rattle.table_schema.specs.Plan.{Ports}
use Rattle.table_schema.specs.Rows.{Rows, fields_at}
use Rattle.table_schema.specs.declared.key.Key.{Key}
use Rattle.table_schema.specs.declared.row.Row.{Row}
use Rattle.table_schema.proofs.Keys.{key_total, tied_keys_same}
use Rattle.switch_model.specs.Good.{good_row}
use Rattle.producer_table.specs.Pending.{row_with_pending}
use Rattle.producer_table.specs.declared.waiting.Pending.{Pending}
use Rattle.sync_tables.specs.ReadRows.{AreRead, IsKeyForgotten, read_at}
use Rattle.sync_tables.specs.Tables.{IsMerged}

-- where the rows of all other keys stay
AreRead-changed : (rows later : Rows) (old new : List (Key × Row)) (k : Key) → ((q : Key) → is_at (key_cmp q) k ≡ false → fields_at later q ≡ fields_at rows q) → IsKeyForgotten old k new → AreRead rows old → AreRead later new
AreRead-changed rows later old new k same gone h q row is plan =
    let by : (b : Bool) → is_at (key_cmp q) k ≡ b → good_row plan q (fields_at later q) ≡ Some row =
    λ b. elim b as (λ b. is_at (key_cmp q) k ≡ b → good_row plan q (fields_at later q) ≡ Some row) [
      | true ↦ λ at. absurd (none-some row (sym (gone q ∙ ap (λ b. cond b None (read_at old q)) at) ∙ is))
      | false ↦ λ at. ap (good_row plan q) (same q at) ∙ h q row (sym (gone q ∙ ap (λ b. cond b None (read_at old q)) at) ∙ is) plan
    ] in
    by (is_at (key_cmp q) k) refl

pub AreRead-merged : {T E : Type 0} (r : Result T E) (rows later : Rows) (old new : List (Key × Row)) (k : Key) (p : Pending) → OnOk r (IsMerged rows k p later) → OnErr r (later ≡ rows) → IsKeyForgotten old k new → AreRead rows old → AreRead later new
AreRead-merged (Ok x) rows later old new k p merged same gone h = AreRead-changed rows later old new k (λ q at. merged q ∙ ap (λ b. cond b (row_with_pending (fields_at rows q) p) (fields_at rows q)) at) gone h
AreRead-merged (Err x) rows later old new k p merged same gone h = AreRead-changed rows later old new k (λ q at. ap (λ r. fields_at r q) same) gone h

pub AreRead-kept : (rows : Rows) (read : List (Key × Row)) (k : Key) (row : Row) → ((plan : Ports) → good_row plan k (fields_at rows k) ≡ Some row) → AreRead rows read → AreRead rows (insert_entry key_cmp read k row)
AreRead-kept rows read k row good h q x is plan =
    let found = lookup-insert_entry key_cmp key_total read k row q in
    let by : (b : Bool) → is_at (key_cmp q) k ≡ b → good_row plan q (fields_at rows q) ≡ Some x =
    λ b. elim b as (λ b. is_at (key_cmp q) k ≡ b → good_row plan q (fields_at rows q) ≡ Some x) [
      | true ↦ λ at. ap (λ y. good_row plan y (fields_at rows y)) (tied_keys_same q k at) ∙ good plan ∙ sym (found ∙ ap (λ b. cond b (Some row) (read_at read q)) at) ∙ is
      | false ↦ λ at. h q x (sym (found ∙ ap (λ b. cond b (Some row) (read_at read q)) at) ∙ is) plan
    ] in
    by (is_at (key_cmp q) k) refl

-- what waited of a key is merged into the rows
use Rattle.std.proofs.Common.{◌≡◌, Bool, true, false, cond, Option, Some, None, Result, Ok, Err, OnOk, sym, ap, ap₂, ◌∙◌}
use Rattle.std.specs.BTreeMap.{insert_entry, is_at}
use Rattle.std.specs.Map.{remove_entry}
use Rattle.swss_types.proofs.Maps.{lookup-insert_entry}
use Rattle.table_schema.specs.Fields.{Pairs, HasRisingNames}
use Rattle.table_schema.specs.Key.{key_cmp}
use Rattle.table_schema.specs.Rows.{Rows, HasRisingRows, fields_at, with_fields}
use Rattle.table_schema.specs.declared.key.Key.{Key}
use Rattle.table_schema.specs.declared.write.Write.TheVariants.{Set}
use Rattle.table_schema.proofs.Keys.{key_total}
use Rattle.table_schema.proofs.Merges.{merged-nil}
use Rattle.producer_table.specs.Pending.{row_with_fields, row_with_pending}
use Rattle.producer_table.specs.declared.waiting.Pending.{Pending}
use Rattle.producer_table.proofs.Found.{lookup-removed}
use Rattle.producer_table.proofs.RowWrites.{fields_at-after_write}
use Rattle.sync_tables.specs.Tables.{IsMerged}

laid : (p : Pending) (d : Bool) (o : Option Pairs) (row : Option Pairs) → p.dropped ≡ d → p.fields ≡ o → row_with_fields (cond d None row) o ≡ row_with_pending row p
laid p d o row dropped fields = ap₂ (λ (b : Bool) (f : Option Pairs). row_with_fields (cond b None row) f) (sym dropped) (sym fields)

module _ (rows : Rows) (key : Key) (p : Pending) where
  -- the fields behind a deletion are the row
  pub merged-replaced : (fields : Pairs) → p.dropped ≡ true → p.fields ≡ Some fields → HasRisingNames fields → IsMerged rows key p (insert_entry key_cmp rows key fields)
  merged-replaced fields dropped is names = λ q.
      lookup-insert_entry key_cmp key_total rows key fields q
      ∙ ap (λ r. cond (is_at (key_cmp q) key) r (fields_at rows q)) (ap Some (sym (merged-nil fields names)) ∙ laid p true (Some fields) (fields_at rows q) dropped is)

  -- a deletion takes the row away
  pub merged-removed : p.dropped ≡ true → p.fields ≡ None → HasRisingRows rows → IsMerged rows key p (remove_entry (is_at (key_cmp key)) rows)
  merged-removed dropped is rising = λ q.
      lookup-removed key_cmp key_total rows key q rising
      ∙ ap (λ r. cond (is_at (key_cmp q) key) r (fields_at rows q)) (laid p true None (fields_at rows q) dropped is)

  -- fields alone are laid over the row
  pub merged-set : (fields : Pairs) → p.dropped ≡ false → p.fields ≡ Some fields → HasRisingRows rows → IsMerged rows key p (with_fields rows key fields)
  merged-set fields dropped is rising = λ q.
      fields_at-after_write rows (Set key fields) q rising
      ∙ ap (λ r. cond (is_at (key_cmp q) key) r (fields_at rows q)) (laid p false (Some fields) (fields_at rows q) dropped is)

  pub on_ok : {T E : Type 0} (r : Result T E) (new made : Rows) → OnOk r (new ≡ made) → IsMerged rows key p made → OnOk r (IsMerged rows key p new)
  on_ok (Ok x) new made is h = λ q. ap (λ r. fields_at r q) is ∙ h q
  on_ok (Err x) new made is h = tt

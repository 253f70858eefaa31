-- fields that are laid over a row, or are a new one
use Rattle.std.proofs.Common.{◌≡◌, [], None, Some, unwrap_or, sym, ap, ◌∙◌}
use Rattle.std.specs.BTreeMap.{insert_entry, is_at}
use Rattle.std.specs.List.Sorted.{IsStrictlySortedBy}
use Rattle.std.specs.Map.{keys_of, set_value}
use Rattle.table_schema.specs.Fields.{Pairs, HasRisingNames, merged}
use Rattle.table_schema.specs.Key.{key_cmp}
use Rattle.table_schema.specs.Rows.{Rows, fields_at, with_fields}
use Rattle.table_schema.specs.declared.key.Key.{Key}
use Rattle.table_schema.proofs.Keys.{key_total}
use Rattle.table_schema.proofs.Merges.{merged-nil}
use Rattle.table_schema.proofs.Places.{HasRisingKeys-from_sorted}
use Rattle.table_schema.proofs.Restored.{set-put}

-- the row of a key that has none
pub new_row : (rows : Rows) (key : Key) (fields : Pairs) → HasRisingNames fields → fields_at rows key ≡ None → insert_entry key_cmp rows key fields ≡ with_fields rows key fields
new_row rows key fields h none = ap (insert_entry key_cmp rows key) (sym (merged-nil fields h) ∙ ap (λ row. merged (unwrap_or row []) fields) (sym none))

-- fields laid over the row that a key has
pub laid_row : (rows : Rows) (key : Key) (row fields : Pairs) → IsStrictlySortedBy key_cmp (keys_of rows) → fields_at rows key ≡ Some row → set_value (is_at (key_cmp key)) rows (merged row fields) ≡ with_fields rows key fields
laid_row rows key row fields h there =
    set-put key_cmp key_total rows key (merged row fields) row (HasRisingKeys-from_sorted key_cmp rows h) there
    ∙ ap (λ r. insert_entry key_cmp rows key (merged (unwrap_or r []) fields)) (sym there)

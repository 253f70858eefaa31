-- The rows of the tables, as the report lists them. Own.
use Rattle.std.specs.Prelude.{ℕ, List, [], ◌∷◌, ◌++◌, length, flat_map, codes}
use Rattle.table_schema.specs.Fields.{Pairs}
use Rattle.table_schema.specs.KeyText.{key_text}
use Rattle.table_schema.specs.Rows.{Rows}
use Rattle.table_schema.specs.declared.key.Key.{Key}
use Rattle.swss_report.specs.Counted.{count_line}
use Rattle.swss_report.specs.Escaped.{escaped}

-- a field behind a blank
abbrev pub field_text : (List ℕ × List ℕ) → List ℕ
field_text field = 32 ∷ escaped field.0 ++ 61 ∷ escaped field.1

-- a key and its fields
abbrev pub row_line : (Key × Pairs) → List ℕ
row_line row = escaped (key_text row.0) ++ flat_map field_text row.1 ++ 10 ∷ []

-- how many rows there are, and their lines in key order
abbrev pub tables_text : Rows → List ℕ
tables_text rows = count_line (codes "tables ") (length rows) ++ flat_map row_line rows

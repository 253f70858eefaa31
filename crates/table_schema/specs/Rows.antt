-- What the writes to the application tables come to (SWSS schema: producers set fields of a key or delete the key).
use Rattle.std.specs.Prelude.{List, [], ◌∷◌, Option, unwrap_or}
use Rattle.std.specs.BTreeMap.{insert_entry, is_at}
use Rattle.std.specs.Map.{lookup, remove_entry}
use Rattle.table_schema.specs.Fields.{Pairs, HasRisingKeys, merged}
use Rattle.table_schema.specs.Key.{key_cmp}
use Rattle.table_schema.specs.declared.key.Key.{Key}
use Rattle.table_schema.specs.declared.write.Write.{Write}
use Rattle.table_schema.specs.declared.write.Write.TheVariants as write

-- the rows of the tables: keys with their fields, in key order, each key once
abbrev pub Rows : Type 0
Rows = List (Key × Pairs)

-- the fields of a key's row
abbrev pub fields_at : Rows → Key → Option Pairs
fields_at rows key = lookup (is_at (key_cmp key)) rows

-- a key's row with fields laid over it, later values winning
abbrev pub with_fields : Rows → Key → Pairs → Rows
with_fields rows key fields = insert_entry key_cmp rows key (merged (unwrap_or (fields_at rows key) []) fields)

-- a Set merges its fields into the key's row; a Del takes the row away
abbrev pub after_write : Rows → Write → Rows
after_write rows (write.Set key fields) = with_fields rows key fields
after_write rows (write.Del key) = remove_entry (is_at (key_cmp key)) rows

abbrev pub after_writes : Rows → List Write → Rows
after_writes rows [] = rows
after_writes rows (w ∷ ws) = after_writes (after_write rows w) ws

-- the fold of the writes, from empty tables
abbrev pub rows_of : List Write → Rows
rows_of writes = after_writes [] writes

-- the keys of rows rise, so each stands once
abbrev pub HasRisingRows : Rows → Type 0
HasRisingRows rows = HasRisingKeys key_cmp rows

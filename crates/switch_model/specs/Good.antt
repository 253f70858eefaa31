-- The rows that read, by key.
use Rattle.std.specs.Prelude.{Option, Some, None, Result, Ok, Err}
use Rattle.table_schema.specs.Fields.{Pairs}
use Rattle.table_schema.specs.Plan.{Ports}
use Rattle.table_schema.specs.Rows.{Rows, fields_at}
use Rattle.table_schema.specs.Rules.{row_of}
use Rattle.table_schema.specs.declared.key.Key.{Key}
use Rattle.table_schema.specs.declared.row.BadRow.{BadRow}
use Rattle.table_schema.specs.declared.row.Row.{Row}

-- typed rows, by key
abbrev pub TypedRows : Type 0
TypedRows = Key → Option Row

abbrev pub row_read : Result Row BadRow → Option Row
row_read (Ok row) = Some row
row_read (Err bad) = None

abbrev pub good_row : Ports → Key → Option Pairs → Option Row
good_row plan key None = None
good_row plan key (Some fields) = row_read (row_of plan key fields)

-- the good rows: each key's row where it reads by the rules of its table under the port plan
abbrev pub good_rows : Ports → Rows → TypedRows
good_rows plan rows key = good_row plan key (fields_at rows key)

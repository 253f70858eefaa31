-- Writes that were read. Own.
use Rattle.std.specs.Prelude.{List}
use Rattle.std.specs.List.{AllByRecursion}
use Rattle.table_schema.specs.Writes.{HasField, HasReadKey}
use Rattle.table_schema.specs.declared.write.Write.{Write}

-- a write that was read: its key was, and a Set has a field
abbrev pub IsReadWrite : Write → Type 0
IsReadWrite w = HasReadKey w × HasField w

abbrev pub AreReadWrites : List Write → Type 0
AreReadWrites writes = AllByRecursion IsReadWrite writes

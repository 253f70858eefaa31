-- What a write that was read has. Own.
use Rattle.std.specs.Prelude.{◌<◌, length}
use Rattle.table_schema.specs.ProperKey.{IsReadKey}
use Rattle.table_schema.specs.declared.write.Write.{Write}
use Rattle.table_schema.specs.declared.write.Write.TheVariants as write

-- a Set has a field
abbrev pub HasField : Write → Type 0
HasField (write.Set key fields) = 0 < length fields
HasField (write.Del key) = Unit {0}

-- the key of a write is one that was read: its parts are in their ranges, and it is written so that it reads again
abbrev pub HasReadKey : Write → Type 0
HasReadKey (write.Set key fields) = IsReadKey key
HasReadKey (write.Del key) = IsReadKey key

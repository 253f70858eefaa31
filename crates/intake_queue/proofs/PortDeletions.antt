-- The deletion of a port is a write that was read.
use Rattle.std.proofs.Common.{ℕ, ◌≤◌}
use Rattle.swss_types.specs.declared.interface.TheConstants.{MOST_PORT}
use Rattle.table_schema.specs.ProperKey.{IsReadKey}
use Rattle.table_schema.specs.declared.key.Key.{Key}
use Rattle.table_schema.specs.declared.key.Key.TheVariants as key
use Rattle.table_schema.specs.declared.write.Write.TheVariants as write
use Rattle.table_schema.proofs.KeyTexts.{IsTyped, IsProperKey-typed}
use Rattle.intake_queue.specs.ReadWrites.{IsReadWrite}

IsReadKey-typed : (k : Key) → IsTyped k → IsReadKey k
IsReadKey-typed k h = let proper = IsProperKey-typed k h in record { parts = proper.parts; reads = proper.reads }

pub port_deletion-read : (port : ℕ) → port ≤ MOST_PORT → IsReadWrite (write.Del (key.Port port))
port_deletion-read port few = (IsReadKey-typed (key.Port port) few, tt)

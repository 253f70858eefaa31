-- The passes of a new intake may send, and what they send was read.
use Rattle.std.proofs.Common.{ℕ, ◌%◌, ◌<◌, List, length, get_or, ap, arith}
use Rattle.intake_queue.specs.ReadWrites.{IsReadWrite}
use Rattle.table_schema.specs.declared.key.Key.TheVariants as key
use Rattle.table_schema.specs.declared.write.Write.TheVariants as write
use Rattle.intake_queue.proofs.PortDeletions.{port_deletion-read}
use Rattle.intake_queue.specs.Values.{IntakeId, Sender, AreNew}
use Rattle.swss_bench.specs.Ready.{IsQueueReady}

pub new_ready : (intake : IntakeId) (passes : List Sender) → AreNew intake passes → (i : ℕ) (d : Sender) → i < length passes → IsQueueReady intake 0 (get_or passes i d)
new_ready intake passes new i d within = record {
  here = (new.all.each i d within).0;
  few = (let none = ap length (new.unsent i d within) in omega arith);
}

pub port_deletion_read : (number : ℕ) → IsReadWrite (write.Del (key.Port (number % 1000000)))
port_deletion_read number = port_deletion-read (number % 1000000) (omega arith)

-- No intake. Own.
use Rattle.std.specs.Prelude.{[]}
use Rattle.intake_queue.specs.Values.{IntakeId}

abbrev pub no_intake : IntakeId
no_intake = record { queue = record { words = 0; slots = 0; views_name = 0; atom = 0; block = 0; offset = 0; slot_names = [] }; producers = 0 }

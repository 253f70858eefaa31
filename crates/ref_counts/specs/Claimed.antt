-- The users and the pins of one name. Own.
use Rattle.std.specs.Prelude.{List, [], Option, Some, None, Box}
use Rattle.std.specs.declared.alloc.Global.{Global}
use Rattle.table_schema.specs.declared.key.Key.{Key}
use Rattle.ref_counts.specs.declared.pin.Pin.{Pin}

-- the keys that use a name, in order, each once; its pins, in the order in which they were made
pub record Claimed : Type 0 where
  pub users : List Key
  pub pins : List Pin

-- nobody uses or pins it
abbrev pub unclaimed : Claimed
unclaimed = record { users = []; pins = [] }

-- nobody uses or pins it where there is no box
abbrev pub claimed_in : Option (Box Claimed Global) → Claimed
claimed_in None = unclaimed
claimed_in (Some b) = b.value

-- What one thread makes of a core in a round, before it is settled: writes are taken, and restarts are made. Own.
use Rattle.std.specs.Prelude.{ℕ, ◌+◌, List, [], ◌∷◌, Option, Some, None}
use Rattle.table_schema.specs.declared.write.Sent.{Sent}
use Rattle.session_laws.specs.Core.{CoreState, with_taken}
use Rattle.session_laws.specs.Service.Events.{restarted}

-- the writes among them, and how many restarts
abbrev pub writes_among : List (Option Sent) → List Sent
writes_among [] = []
writes_among (Some sent ∷ more) = sent ∷ writes_among more
writes_among (None ∷ more) = writes_among more

abbrev pub restarts_made : List (Option Sent) → ℕ
restarts_made [] = 0
restarts_made (Some sent ∷ more) = restarts_made more
restarts_made (None ∷ more) = 1 + restarts_made more

-- a core that took these writes and restarted where none is, one after the other, beside a chip with so many effects
abbrev pub with_made : ℕ → CoreState → List (Option Sent) → CoreState
with_made effects c [] = c
with_made effects c (Some sent ∷ more) = with_made effects (with_taken c sent) more
with_made effects c (None ∷ more) = with_made effects (restarted c effects) more

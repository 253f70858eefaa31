-- When a round leaves no key. Own.
use Rattle.std.specs.Prelude.{◌≡◌, ◌≤◌, ℕ, List, [], length}
use Rattle.table_schema.specs.Plan.{Ports}
use Rattle.switch_model.specs.Desired.{IsClosed}
use Rattle.switch_model.specs.Marks.{Waiting}
use Rattle.switch_model.specs.Room.{HasRoomForView, IsRoundStill, IsRoundThing}
use Rattle.switch_model.specs.declared.mark.MarkEvent.TheVariants as event
use Rattle.round_laws.specs.Ended.{EndedRound, rows_before, rows_wanted, taken_then}

-- where the good rows of all writes then taken are closed, no interface that one of them names is in another router there than in the rows applied before the round, or in the good rows after a number of its writes from this one on, and there is room for the things of all these rows, the mark of its settling lists no key and counts at most four turns
abbrev pub Drains : Ports → List ℕ → ℕ → EndedRound → Type 0
Drains plan capacities from r = (waits : Waiting) (turns : ℕ) → r.mark.event ≡ event.Settled waits turns → IsClosed (rows_wanted plan r) → IsRoundStill plan (rows_before plan r) (taken_then r) from (length (taken_then r)) → HasRoomForView capacities (IsRoundThing plan (rows_before plan r) (taken_then r) from (length (taken_then r))) → (waits ≡ []) × (turns ≤ 4)

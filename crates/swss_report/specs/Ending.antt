-- How a round ended: by the last of its marks. Own.
use Rattle.std.specs.Prelude.{ℕ, ◌-◌, List, length, slice_get, Option, Some, None, option_and_then}
use Rattle.switch_model.specs.Marks.{Waiting}
use Rattle.switch_model.specs.declared.mark.Mark.{Mark}
use Rattle.switch_model.specs.declared.mark.MarkEvent.{MarkEvent}
use Rattle.switch_model.specs.declared.mark.MarkEvent.TheVariants as event

abbrev pub mark_at_end : List Mark → Option Mark
mark_at_end marks = slice_get marks (length marks - 1)

-- the keys that wait at the end of a settling
abbrev pub waits_of : MarkEvent → Option Waiting
waits_of (event.Settled waits turns) = Some waits
waits_of _ = None

-- the number of its turns
abbrev pub turns_of : MarkEvent → Option ℕ
turns_of (event.Settled waits turns) = Some turns
turns_of _ = None

-- the keys that wait where the mark of a settling ended the round; None where that of a fault did
abbrev pub waits_at_end : List Mark → Option Waiting
waits_at_end marks = option_and_then (λ m. waits_of m.event) (mark_at_end marks)

-- and how many turns the settling made
abbrev pub turns_at_end : List Mark → Option ℕ
turns_at_end marks = option_and_then (λ m. turns_of m.event) (mark_at_end marks)

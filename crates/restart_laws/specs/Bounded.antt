-- How many effects a session has outside applies, and how many keys are listed where applies begin. Own.
use Rattle.std.specs.Prelude.{ℕ, ◌+◌, ◌-◌, List, [], ◌∷◌, length, Option, Some, None}
use Rattle.switch_model.specs.declared.mark.Mark.{Mark}
use Rattle.switch_model.specs.declared.mark.MarkEvent.{MarkEvent}
use Rattle.switch_model.specs.declared.mark.MarkEvent.TheVariants as event

-- the keys that a mark lists where an apply begins, and marks together
abbrev pub keys_begun : MarkEvent → ℕ
keys_begun (event.ApplyBegan mode waits) = length waits
keys_begun _ = 0

abbrev pub listed_at_applies : List Mark → ℕ
listed_at_applies [] = 0
listed_at_applies (mark ∷ marks) = keys_begun mark.event + listed_at_applies marks

-- of so many effects behind a mark those that are no apply's: none where an apply begins at it
abbrev pub unless_begun : MarkEvent → ℕ → ℕ
unless_begun (event.ApplyBegan mode waits) n = 0
unless_begun _ n = n

-- and of those from a mark, or from the beginning, up to this number of effects
abbrev pub outside_from : Option Mark → ℕ → ℕ
outside_from None to = to
outside_from (Some mark) to = unless_begun mark.event (to - mark.effects)

-- the effects outside applies, mark by mark: an apply's are those from the mark of its beginning up to the next mark, or to the end
abbrev pub effects_outside : Option Mark → List Mark → ℕ → ℕ
effects_outside before [] to = outside_from before to
effects_outside before (mark ∷ marks) to = outside_from before mark.effects + effects_outside (Some mark) marks to

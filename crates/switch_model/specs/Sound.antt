-- What the marks of a log tell of the last fault, and what they count. Own.
use Rattle.std.specs.Prelude.{ℕ, ◌≤◌, Bool, true, false, List, [], ◌∷◌}
use Rattle.switch_model.specs.declared.mark.Mark.{Mark}
use Rattle.switch_model.specs.declared.mark.MarkEvent.{MarkEvent}
use Rattle.switch_model.specs.declared.mark.MarkEvent.TheVariants as event

-- whether the chip failed at the last mark, so that what stands on it is not known
abbrev pub is_fault : MarkEvent → Bool
is_fault (event.Faulted before after) = true
is_fault _ = false

abbrev pub is_suspect : List Mark → Bool
is_suspect [] = false
is_suspect (mark ∷ []) = is_fault mark.event
is_suspect (mark ∷ next ∷ marks) = is_suspect (next ∷ marks)

-- the next mark, if there is one, counts no fewer writes and effects
abbrev pub IsBefore : Mark → List Mark → Type 0
IsBefore mark [] = Unit {0}
IsBefore mark (next ∷ marks) = (mark.taken ≤ next.taken) × (mark.effects ≤ next.effects)

-- no mark counts more writes or effects than there are, nor fewer than the mark before it
abbrev pub AreWithin : ℕ → ℕ → List Mark → Type 0
AreWithin taken effects [] = Unit {0}
AreWithin taken effects (mark ∷ marks) = (mark.taken ≤ taken) × (mark.effects ≤ effects) × IsBefore mark marks × AreWithin taken effects marks

-- The counts of faults that marks carry. Own.
use Rattle.std.specs.Prelude.{◌≡◌, ℕ, ◌+◌, List, [], ◌∷◌}
use Rattle.switch_model.specs.declared.mark.Mark.{Mark}
use Rattle.switch_model.specs.declared.mark.MarkEvent.{MarkEvent}
use Rattle.switch_model.specs.declared.mark.MarkEvent.TheVariants as event

-- the mark of a fault carries the chip's count before the call, which is this count, and after it, which is one more
abbrev pub CountsOne : ℕ → MarkEvent → Type 0
CountsOne faults (event.Faulted before after) = (before ≡ faults) × (after ≡ before + 1)
CountsOne faults _ = Unit {0}

-- the count that is known behind a mark
abbrev pub faults_then : ℕ → MarkEvent → ℕ
faults_then faults (event.Faulted before after) = after
faults_then faults _ = faults

-- from this count on, mark by mark, to the last: so each fault of the chip has its mark, with its counts
abbrev pub FaultsRise : ℕ → List Mark → ℕ → Type 0
FaultsRise faults [] last = last ≡ faults
FaultsRise faults (mark ∷ marks) last = CountsOne faults mark.event × FaultsRise (faults_then faults mark.event) marks last

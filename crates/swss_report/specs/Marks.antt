-- The lines of the marks of a round. Own.
use Rattle.std.specs.Prelude.{ℕ, List, [], ◌∷◌, ◌++◌, length, flat_map, codes}
use Rattle.std.specs.Fmt.{decimal}
use Rattle.sai_types.specs.declared.plan.Mode.{Mode}
use Rattle.sai_types.specs.declared.plan.Mode.TheVariants as mode
use Rattle.switch_model.specs.declared.mark.Mark.{Mark}
use Rattle.switch_model.specs.declared.mark.MarkEvent.{MarkEvent}
use Rattle.switch_model.specs.declared.mark.MarkEvent.TheVariants as event
use Rattle.swss_report.specs.Counted.{count_line}

-- the word for how a view is applied
abbrev pub mode_name : Mode → List ℕ
mode_name mode.Hitless = codes "hitless"
mode_name mode.Cold = codes "cold"

-- the line of a mark in the round with this number
abbrev pub event_line : ℕ → MarkEvent → List ℕ
event_line number (event.Settled waits turns) = count_line (codes "settled " ++ decimal number ++ codes " waiting ") (length waits)
event_line number (event.Faulted before after) = count_line (codes "warm unknown faults ") after
event_line number event.Restarted = codes "warm initialized" ++ 10 ∷ []
event_line number (event.ApplyBegan mode waits) = codes "warm restored " ++ mode_name mode ++ 10 ∷ []
event_line number event.ApplyEnded = codes "warm reconciled" ++ 10 ∷ []

-- the lines of marks, in their order
abbrev pub marks_text : ℕ → List Mark → List ℕ
marks_text number marks = flat_map (λ m. event_line number m.event) marks

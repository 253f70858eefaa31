use Rattle.std.proofs.Common.{◌≡◌, ◌≤◌, length, Ok}
use Rattle.swss_script.specs.Lines.{lines_in}
use Rattle.swss_script.specs.Script.{script_from}
use Rattle.swss_script.proofs.script.add_lines.Given as goal

-- the draft so far, with the lines that are left, comes to what all lines come to
abbrev pub invariant-loop-line : goal.invariant-loop-line
invariant-loop-line l = (l.number ≤ 1000000) × (length l.draft.script.producers ≤ 4) × (script_from (Ok l.draft) l.number (lines_in l.left) ≡ script_from (Ok l.fn.draft) 0 (lines_in l.fn.bytes))

abbrev pub decreases-loop-line : goal.decreases-loop-line
decreases-loop-line l = length l.left

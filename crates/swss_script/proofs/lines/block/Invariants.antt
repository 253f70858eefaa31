use Rattle.std.proofs.Common.{◌≡◌, ◌≤◌, drop, length}
use Rattle.swss_script.specs.Lines.{block_of, lines_in}
use Rattle.swss_script.proofs.LinesIn.{block_behind}
use Rattle.swss_script.proofs.lines.block.Given as goal

-- the lines so far, with the block of the lines that are left, are the block of all lines
abbrev pub invariant-loop-line : goal.invariant-loop-line
invariant-loop-line l = (l.at ≤ length l.text) × (l.left ≡ drop l.at l.text) × (block_behind l.text l.at l.left ≡ block_of (lines_in l.text))

abbrev pub decreases-loop-line : goal.decreases-loop-line
decreases-loop-line l = length l.left

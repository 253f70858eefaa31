use Rattle.std.proofs.Common.{length}
use Rattle.sai_record.proofs.Linewise.{AreLines}
use Rattle.sai_record.proofs.reading.read_calls.Given as goal

-- the lines so far are those of the calls so far
abbrev pub invariant-loop-left : goal.invariant-loop-left
invariant-loop-left l = AreLines l.text l.calls l.left l.line

abbrev pub decreases-loop-left : goal.decreases-loop-left
decreases-loop-left l = length l.left

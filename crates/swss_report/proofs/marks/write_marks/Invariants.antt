use Rattle.std.proofs.Common.{◌≡◌, ◌++◌, take}
use Rattle.swss_report.specs.Marks.{marks_text}
use Rattle.swss_report.proofs.marks.write_marks.Given as goal

-- the lines so far are appended
abbrev pub invariant-loop-mark : goal.invariant-loop-mark
invariant-loop-mark l = l.out.items ≡ l.fn.out.items ++ marks_text l.number (take l.mark-index l.marks)

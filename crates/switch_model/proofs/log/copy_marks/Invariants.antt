use Rattle.std.proofs.Common.{◌≡◌, take}
use Rattle.switch_model.proofs.log.copy_marks.Given as goal

-- the first ones are copied
abbrev pub invariant-loop-mark : goal.invariant-loop-mark
invariant-loop-mark l = l.copies.items ≡ take l.mark-index l.marks.items

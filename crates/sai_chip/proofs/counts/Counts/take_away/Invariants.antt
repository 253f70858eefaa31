use Rattle.std.proofs.Common.{◌≡◌, ◌-◌, drop}
use Rattle.sai_chip.specs.declared.mark.TakenMark.{TakenMark}
use Rattle.sai_chip.specs.Tally.{count_at, claims}
use Rattle.sai_chip.proofs.counts.Counts.take_away.Given as goal

-- the counts so far, less the marks that are left, are those without all marks
abbrev pub invariant-loop-mark : goal.invariant-loop-mark
invariant-loop-mark l = (m : TakenMark) → count_at l.self m - claims m (drop l.mark-index l.marks) ≡ count_at l.fn.self m - claims m l.marks

use Rattle.std.proofs.Common.{◌≡◌, ◌-◌, length, take}
use Rattle.sai_record.specs.Lines.{longs_at}
use Rattle.sai_record.proofs.Longs.{behind_numbers}
use Rattle.sai_record.proofs.reading.read_longs.Given as goal

-- the numbers so far, and those that are left behind them, are all of them
abbrev pub invariant-loop-at : goal.invariant-loop-at
invariant-loop-at l = (behind_numbers (take l.at l.longs) (longs_at (length l.fn.longs - l.at) l.text) ≡ longs_at (length l.fn.longs) l.fn.text) × (length l.longs ≡ length l.fn.longs)

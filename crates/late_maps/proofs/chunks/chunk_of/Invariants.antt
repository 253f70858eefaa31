use Rattle.std.proofs.Common.{suc, ◌-◌, ◌<◌, ◌≤◌, length, take, drop}
use Rattle.late_maps.specs.Chunks.{entries_of_chunks}
use Rattle.late_maps.proofs.Segments.{AllAbove, AllBelow}
use Rattle.late_maps.proofs.chunks.chunk_of.Given as goal

abbrev pub invariant-loop-low : goal.invariant-loop-low
invariant-loop-low g l = (l.low ≤ l.high) × (l.high < length l.chunks) × AllBelow g.K.Ord.cmp l.key (entries_of_chunks (take l.low l.chunks)) × AllAbove g.K.Ord.cmp l.key (entries_of_chunks (drop (suc l.high) l.chunks))

abbrev pub decreases-loop-low : goal.decreases-loop-low
decreases-loop-low g l = l.high - l.low

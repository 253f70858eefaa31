use Rattle.std.proofs.Common.{◌-◌, ◌≤◌, length, take, drop}
use Rattle.late_maps.proofs.Segments.{AllAbove, AllBelow}
use Rattle.late_maps.proofs.chunks.place_in.Given as goal

abbrev pub invariant-loop-low : goal.invariant-loop-low
invariant-loop-low g l = (l.low ≤ l.high) × (l.high ≤ length l.chunk) × AllBelow g.K.Ord.cmp l.key (take l.low l.chunk) × AllAbove g.K.Ord.cmp l.key (drop l.high l.chunk)

abbrev pub decreases-loop-low : goal.decreases-loop-low
decreases-loop-low g l = l.high - l.low

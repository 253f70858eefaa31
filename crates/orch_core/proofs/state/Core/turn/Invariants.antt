use Rattle.std.proofs.Common.{length, reverse}
use Rattle.orch_core.proofs.Turns.{IsTurnAt}
use Rattle.orch_core.proofs.state.Core.turn.Given as goal

-- the keys that are no longer on the list were tried
abbrev pub invariant-loop-key : goal.invariant-loop-key
invariant-loop-key g l = IsTurnAt l.fn.self (g.C.Chip.state l.fn.chip) (reverse l.keys.items) l.self (g.C.Chip.state l.chip)

abbrev pub decreases-loop-key : goal.decreases-loop-key
decreases-loop-key g l = length l.keys.items

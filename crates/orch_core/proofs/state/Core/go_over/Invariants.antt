use Rattle.orch_core.proofs.GoingOver.{IsOverAt}
use Rattle.orch_core.proofs.state.Core.go_over.Given as goal

-- the keys up to this one were gone over
abbrev pub invariant-loop-key : goal.invariant-loop-key
invariant-loop-key g l = IsOverAt l.fn.self (g.C.Chip.state l.fn.chip) l.key-iterator.rest.items l.self (g.C.Chip.state l.chip)

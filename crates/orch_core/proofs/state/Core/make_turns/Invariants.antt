use Rattle.std.proofs.Common.{◌≡◌, ◌+◌, ◌<◌, ◌≤◌, ◌^◌, length}
use Rattle.std.specs.Map.{keys_of}
use Rattle.restart_laws.specs.Logged.{LoggedService}
use Rattle.session_laws.specs.Standing.{IsSessionOf}
use Rattle.session_laws.specs.Turning.{IsTurned}
use Rattle.orch_core.specs.Outcomes.{KeepsChip}
use Rattle.orch_core.proofs.state.Core.make_turns.Given as goal

-- turns so far, each of which took a key away, and how many keys are left
abbrev pub invariant-loop-left : goal.invariant-loop-left
invariant-loop-left g l =
    ((s : LoggedService) → IsSessionOf l.fn.self (g.C.Chip.state l.fn.chip) s → IsTurned l.turns l.fn.self s l.self (g.C.Chip.state l.chip))
    × (l.left ≡ length (keys_of l.self.tables.ops)) × (l.turns + l.left ≤ length (keys_of l.fn.self.tables.ops)) × (length (keys_of l.fn.self.tables.ops) < 2 ^ 63)
    × KeepsChip l.fn.self (g.C.Chip.state l.fn.chip) l.self (g.C.Chip.state l.chip)

abbrev pub decreases-loop-left : goal.decreases-loop-left
decreases-loop-left g l = l.left

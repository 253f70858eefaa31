use Rattle.std.proofs.Common.{◌≡◌, ◌<◌, ◌≤◌, ℕ, None}
use Rattle.restart_laws.specs.Logged.{LoggedService}
use Rattle.flight_board.specs.Board.{flown_at}
use Rattle.session_laws.specs.Standing.{IsSessionOf}
use Rattle.orch_core.specs.Outcomes.{IsSameBeside, KeepsChip}
use Rattle.orch_core.specs.Settled.{RunsInOrder}
use Rattle.orch_core.proofs.state.Core.run_all.Given as goal

-- answers alone were given, worker by worker; the workers up to this one have nothing under way, and the others what they had
abbrev pub invariant-loop-worker : goal.invariant-loop-worker
invariant-loop-worker g l =
    ((s : LoggedService) → IsSessionOf l.fn.self (g.C.Chip.state l.fn.chip) s → RunsInOrder l.worker s l.fn.self l.self (g.C.Chip.state l.chip)) × IsSameBeside l.fn.self l.self × ((v : ℕ) → v < l.worker → flown_at l.self.board v ≡ None)
    × KeepsChip l.fn.self (g.C.Chip.state l.fn.chip) l.self (g.C.Chip.state l.chip) × ((v : ℕ) → l.worker ≤ v → flown_at l.self.board v ≡ flown_at l.fn.self.board v)

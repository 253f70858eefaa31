use Rattle.std.proofs.Common.{◌≡◌, ◌⊎◌, ◌-◌, length}
use Rattle.restart_laws.specs.Logged.{LoggedService}
use Rattle.std.specs.Option.{IsSome}
use Rattle.flight_board.specs.Board.{flown_at}
use Rattle.session_laws.specs.Core.{size_beside}
use Rattle.session_laws.specs.Standing.{IsSessionOf}
use Rattle.orch_core.specs.Settled.{RunsWhole}
use Rattle.orch_core.proofs.state.Core.run.Given as goal

-- answers alone were given, and none where the worker had nothing under way
abbrev pub invariant-loop-self : goal.invariant-loop-self
invariant-loop-self g l =
    ((s : LoggedService) → IsSessionOf l.fn.self (g.C.Chip.state l.fn.chip) s → RunsWhole s l.fn.worker l.fn.self (g.C.Chip.state l.fn.chip) l.self (g.C.Chip.state l.chip))
    × ((l.self ≡ l.fn.self) ⊎ IsSome (flown_at l.fn.self.board l.fn.worker))

-- each takes a place of the log
abbrev pub decreases-loop-self : goal.decreases-loop-self
decreases-loop-self g l = l.self.limit - size_beside l.self (length (g.C.Chip.state l.chip).effects)

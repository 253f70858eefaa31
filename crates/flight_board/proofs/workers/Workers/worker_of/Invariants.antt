use Rattle.std.proofs.Common.{ℕ, ◌<◌}
use Rattle.flight_board.specs.Board.{HasKeyAt}
use Rattle.flight_board.proofs.workers.Workers.worker_of.Given as goal

abbrev pub invariant-loop-worker : goal.invariant-loop-worker
invariant-loop-worker l = (v : ℕ) → v < l.worker → HasKeyAt l.self l.key v → ⊥

use Rattle.std.proofs.Common.{subst}
use Rattle.std.specs.Prelude.{IfNone}
use Rattle.flight_board.specs.Board.{IsUnflown}
use Rattle.flight_board.proofs.board.Board.worker_of.Goals as goal

pub returns-clause-none : goal.returns-clause-none
returns-clause-none c = subst (λ z. IfNone c.worker_of.result (IsUnflown z c.args.key.now)) c.self.view_is c.worker_of.ensures.none

use Rattle.std.proofs.Common.{sym, subst}
use Rattle.flight_board.specs.Board.{AreKept}
use Rattle.flight_board.proofs.Kept.{kept-new}
use Rattle.flight_board.proofs.board.Board.new.Goals as goal

pub invariant_of-result : goal.invariant_of-result
invariant_of-result c = subst (AreKept c.args.plan c.new-3.result) (sym c.new-4.ensures) (kept-new c.args.plan c.new-3.result)

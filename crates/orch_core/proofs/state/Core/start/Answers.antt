use Rattle.std.proofs.Common.{sym, subst}
use Rattle.orch_flight.specs.Sharing.{MayStart}
use Rattle.flight_board.specs.Applied.{placed_at, placed_for}
use Rattle.flight_board.specs.Board.{IsUnflown, MayEndAtOnce}
use Rattle.session_laws.specs.Core.{CoreState}
use Rattle.orch_core.proofs.state.Core.start.Goals as goal

pub begin-requires-clause-may : goal.begin-requires-clause-may
begin-requires-clause-may c =
    let k = c.args.key.now in
    subst (λ (z : CoreState). IsUnflown z.board k → MayStart z.board.plan z.board.names c.args.worker k (placed_at z.board.applied k) (placed_for z.board.applied k c.args.new)) (sym c.self.view_is) c.requires.may

pub begin-requires-clause-ends : goal.begin-requires-clause-ends
begin-requires-clause-ends c = subst (λ (z : CoreState). IsUnflown z.board c.args.key.now → MayEndAtOnce z.board c.args.used.now c.args.worker c.args.key.now c.args.new) (sym c.self.view_is) c.requires.ends

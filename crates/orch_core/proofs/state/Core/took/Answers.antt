use Rattle.std.proofs.Common.{◌≡◌, refl, subst, sym}
use Rattle.flight_board.specs.Board.{BoardState, IsTakenFor, MayEndThen}
use Rattle.session_laws.specs.Core.{CoreState}
use Rattle.orch_core.specs.contracts.state.Core.{the_view}
use Rattle.orch_core.proofs.state.Core.took.Goals as goal

pub took-requires-clause-ends : goal.took-requires-clause-ends
took-requires-clause-ends c = subst (λ (z : CoreState). MayEndThen z.board c.args.worker c.args.made) (sym c.self.view_is) c.requires.ends

pub returns : goal.returns
returns c = subst (λ (z : CoreState). (b : BoardState) × IsTakenFor z.board c.args.worker c.args.made b × (record (the_view c.self.inside) { board = c.took.new.self } ≡ record z { board = b })) c.self.view_is (c.took.new.self, c.took.ensures, refl)

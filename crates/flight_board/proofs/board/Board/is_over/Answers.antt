use Rattle.std.proofs.Common.{◌≡◌, ◌↔◌, [], Some, IsTrue, sym, subst}
use Rattle.registry_laws.specs.Flown.{due_for}
use Rattle.flight_board.specs.Board.{BoardState, FlightState, flight_at}
use Rattle.flight_board.proofs.Places.{is-held}
use Rattle.flight_board.proofs.board.Board.is_over.Goals as goal

pub returns-in-Some : goal.returns-in-Some
returns-in-Some c =
    let i = c.self.inside in
    let f = c.in-Some.flight.now in
    let w = c.args.worker in
    let over = c.is_over.ensures i.plan (c.self.invariant.each w f (sym c.in-Some.ensures)).shared in
    subst (λ (b : BoardState). (g : FlightState) → flight_at b w ≡ Some g → IsTrue c.is_over.result ↔ (due_for b.plan b.names g.flown ≡ [])) c.self.view_is (is-held i.workers w f (λ g. IsTrue c.is_over.result ↔ (due_for i.plan i.registry g.flown ≡ [])) (sym c.in-Some.ensures) over)

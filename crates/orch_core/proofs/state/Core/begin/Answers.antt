use Rattle.std.proofs.Common.{◌∙◌, ap, subst}
use Rattle.flight_board.specs.Board.{IsBegunFor}
use Rattle.orch_core.specs.Outcomes.{key_left}
use Rattle.orch_core.proofs.state.Core.begin.Goals as goal

pub start-requires-clause-ends : goal.start-requires-clause-ends
start-requires-clause-ends c = c.requires.ends c.used-used.result c.used-used.ensures.kinds

pub returns-in-Ok : goal.returns-in-Ok
returns-in-Ok c =
    let b = c.in_ok-start.ensures.begun in (
      c.used-used.result,
      c.used-used.ensures.kinds,
      b.0,
      subst (λ a. IsBegunFor c.args.self.now.board c.used-used.result c.args.worker c.args.key.now c.args.new a b.0) c.in-Ok.is b.1,
      c.leave.ensures ∙ ap (λ x. key_left x c.args.key.now) b.2,
    )

use Rattle.std.proofs.Common.{◌∙◌, ap, subst, sym}
use Rattle.flight_board.specs.Applied.{row_at}
use Rattle.flight_board.specs.Board.{IsFlownAt, IsUnflown}
use Rattle.session_laws.specs.Core.{CoreState}
use Rattle.orch_core.proofs.Answers.{none_then, some_then}
use Rattle.orch_core.proofs.state.Core.is_there.Goals as goal

pub returns-then-is_none-clause-there : goal.returns-then-is_none-clause-there
returns-then-is_none-clause-there c = λ h. (
  subst (λ (z : CoreState). IsUnflown z.board c.args.key.now) c.self.view_is (none_then c.worker_of.result c.if-is_none.ensures c.worker_of.ensures.none),
  ap (λ (z : CoreState). row_at z.board.applied c.args.key.now) (sym c.self.view_is) ∙ c.has_row.ensures.0 h,
)

pub returns-else-is_none-clause-other : goal.returns-else-is_none-clause-other
returns-else-is_none-clause-other c = λ un same.
    let there = some_then c.worker_of.result c.if-is_none.ensures c.worker_of.ensures.some in
    absurd (un there.0 (subst (λ (z : CoreState). IsFlownAt z.board c.args.key.now there.0) c.self.view_is there.1))

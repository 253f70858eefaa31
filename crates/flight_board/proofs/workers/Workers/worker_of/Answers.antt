use Rattle.std.proofs.Common.{◌∙◌, sym, arith}
use Rattle.std.proofs.lemmas.Bool.{false≢true}
use borrow.Author.Count.{below_more}
use Rattle.flight_board.specs.Board.{HasKeyAt}
use Rattle.flight_board.proofs.Places.{beyond}
use Rattle.flight_board.proofs.workers.Workers.worker_of.Goals as goal

pub loop-worker-preserved : goal.loop-worker-preserved
loop-worker-preserved c =
    below_more (λ v. HasKeyAt c.args.self.now c.args.key.now v → ⊥) c.loop-worker.worker c.loop-worker.invariant (λ h. false≢true (sym c.if-has_key_at.false ∙ c.has_key_at.ensures.1 h))

pub returns-clause-none : goal.returns-clause-none
returns-clause-none c = beyond c.args.self.now c.args.key.now c.loop-worker.worker (omega (arith, c.requires.four, c.loop-worker-test.false)) c.loop-worker.invariant

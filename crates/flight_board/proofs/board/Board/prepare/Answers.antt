use Rattle.std.proofs.Common.{subst}
use Rattle.std.proofs.lemmas.Result.{on_ok_weaker}
use Rattle.flight_board.specs.Board.{BoardState, IsPrepared}
use Rattle.flight_board.proofs.Events.{prepared}
use Rattle.flight_board.proofs.Kept.{kept-prepared, within}
use Rattle.flight_board.proofs.board.Board.prepare.Goals as goal

pub prepare-requires-clause-shared : goal.prepare-requires-clause-shared
prepare-requires-clause-shared c = λ f at. (c.self.invariant.each c.args.worker f at).shared

pub invariant_of-self : goal.invariant_of-self
invariant_of-self c =
    let i = c.self.inside in
    kept-prepared i.plan i.registry i.applied i.workers c.prepare.new.self c.args.worker c.prepare.result c.requires c.prepare.ensures.ok c.prepare.ensures.err c.self.invariant

pub returns-clause-ok : goal.returns-clause-ok
returns-clause-ok c =
    let i = c.self.inside in
    let old : BoardState = record { plan = i.plan; names = i.registry; room = i.room; applied = i.applied; flights = i.workers } in
    let new : BoardState = record { plan = i.plan; names = i.registry; room = i.room; applied = i.applied; flights = c.prepare.new.self } in
    on_ok_weaker c.prepare.result (λ is. subst (λ z. IsPrepared z c.args.worker new) c.self.view_is (prepared old c.args.worker c.prepare.new.self (within i.plan i.applied i.workers c.args.worker c.requires c.self.invariant) is)) c.prepare.ensures.ok

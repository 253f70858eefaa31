use Rattle.std.proofs.Common.{sym, subst}
use Rattle.swss_service.specs.CoreAndChip.{CoreAndChip}
use Rattle.swss_run.specs.Session.{IsSession}
use Rattle.swss_run.proofs.session.run_rounds.Goals as goal

pub returns-clause-session : goal.returns-clause-session
returns-clause-session g c =
    subst (λ (z : CoreAndChip). IsSession c.args.locked.core.board.plan c.args.locked.core.sync.capacities c.args.rounds c.run_each-status.result z.core.log z.chip (g.K.Sink.holds c.args.sink.now) (g.K.Sink.holds c.run_each-status.new.sink))
    (sym c.parts-core.ensures.parts) c.run_each-status.ensures.session

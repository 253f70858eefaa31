use Rattle.std.proofs.Common.{subst, sym}
use Rattle.swss_run.specs.View.{TellsOfView}
use Rattle.swss_run.specs.declared.outcome.Outcome.{Outcome}
use Rattle.swss_run.proofs.Telling.{tells_of_no_view, tells_of_view}
use Rattle.swss_run.proofs.view.view_source.Goals as goal

pub returns-in-Ok-clause-view : goal.returns-in-Ok-clause-view
returns-in-Ok-clause-view g c =
    subst (λ (o : Outcome). TellsOfView o.status (g.S.Source.left c.args.source.now) (g.S.Source.left c.read_input.new.source) (g.K.Sink.holds c.args.sink.now) (g.K.Sink.holds c.view_script.new.sink)) (sym c.without_session.ensures)
    (tells_of_view c.view_script.result c.in-Ok.script (g.S.Source.left c.args.source.now) (g.S.Source.left c.read_input.new.source) (g.K.Sink.holds c.args.sink.now) (g.K.Sink.holds c.view_script.new.sink) c.in-Ok.ensures.read c.view_script.ensures.viewed)

pub returns-in-Err-clause-view : goal.returns-in-Err-clause-view
returns-in-Err-clause-view g c =
    subst (λ (o : Outcome). TellsOfView o.status (g.S.Source.left c.args.source.now) (g.S.Source.left c.read_input.new.source) (g.K.Sink.holds c.args.sink.now) (g.K.Sink.holds c.args.sink.now)) (sym c.without_session-in-Err.ensures)
    (tells_of_no_view c.in-Err.status (g.S.Source.left c.args.source.now) (g.S.Source.left c.read_input.new.source) (g.K.Sink.holds c.args.sink.now) (g.S.Source.faults c.args.source.now) (g.S.Source.faults c.read_input.new.source) c.in-Err.ensures.read)

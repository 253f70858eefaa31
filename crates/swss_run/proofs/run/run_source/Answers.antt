use Rattle.swss_run.proofs.Telling.{tells_of_session}
use Rattle.swss_run.proofs.run.run_source.Goals as goal

pub run_read-requires : goal.run_read-requires
run_read-requires g c = (c.type_bounds.sync-R, (record { shared = c.type_bounds.sync-G.shared }, (c.requires.workers, (c.in-Ok.ensures.read.bytes, c.in-Ok.ensures.read.says))))

pub returns-in-Ok-clause-session : goal.returns-in-Ok-clause-session
returns-in-Ok-clause-session g c =
    tells_of_session c.args.workers c.in-Ok.ensures.read.bytes c.in-Ok.script c.run_read.result (g.S.Source.left c.args.source.now) (g.S.Source.left c.read_input.new.source) (g.K.Sink.holds c.args.sink.now) (g.K.Sink.holds c.run_read.new.sink)
    c.run_read.ensures.ran c.in-Ok.ensures.read.gave c.in-Ok.ensures.read.says c.run_read.ensures.session

use Rattle.std.proofs.Common.{rules, ◌≡◌, ◌∙◌, length, sym, ap, subst, arith}
use Rattle.swss_run.specs.Running.{IsWritten, ended_now}
use Rattle.swss_run.proofs.RoundRuns.{round-fails, round-follows, round-halted, round-longer, round-over, round-told, run-written}
use Rattle.swss_run.proofs.session.run_round.Goals as goal

pub report-requires-clause-follows : goal.report-requires-clause-follows
report-requires-clause-follows g c = round-follows c.args.round c.args.locked.now.core c.args.locked.now.chip c.args.replay.now c.requires.ready c.requires.read c.round_alone-end.result c.round_alone-end.new.locked.core c.round_alone-end.new.locked.chip c.round_alone-end.ensures.alone

pub report-requires-clause-told : goal.report-requires-clause-told
report-requires-clause-told g c = round-told c.args.round c.args.locked.now.core c.args.locked.now.chip c.args.replay.now c.requires.ready c.requires.read c.round_alone-end.result c.round_alone-end.new.locked.core c.round_alone-end.new.locked.chip c.round_alone-end.ensures.alone c.args.told.now c.requires.told

pub report-requires-clause-marks : goal.report-requires-clause-marks
report-requires-clause-marks g c =
    let longer = round-longer c.args.round c.args.locked.now.core c.args.locked.now.chip c.args.replay.now c.requires.ready c.requires.read c.round_alone-end.result c.round_alone-end.new.locked.core c.round_alone-end.new.locked.chip c.round_alone-end.ensures.alone in
    let before : c.marks-before.result.now ≡ c.args.locked.now.core.log.marks = search rules in
    omega (arith, longer, ap length before)

pub returns-in-Ok-clause-fails : goal.returns-in-Ok-clause-fails
returns-in-Ok-clause-fails g c = round-fails c.args.round c.args.locked.now.core c.args.locked.now.chip c.args.replay.now c.requires.ready c.requires.read c.round_alone-end.result c.round_alone-end.new.locked.core c.round_alone-end.new.locked.chip c.round_alone-end.ensures.alone

pub returns-in-Ok-clause-run : goal.returns-in-Ok-clause-run
returns-in-Ok-clause-run g c =
    let before : c.marks-before.result.now ≡ c.args.locked.now.core.log.marks = search rules in
    let now = c.round_alone-end.new.locked in
    let written =
    subst (λ n. IsWritten (ended_now now.core now.chip c.args.number n) c.args.replay.now.at c.items-shows.result.now c.in-Ok.ended (g.K.Sink.holds c.args.sink.now) (g.K.Sink.faults c.args.sink.now) c.report.result c.report.new.replay (g.K.Sink.holds c.report.new.sink) (g.K.Sink.faults c.report.new.sink)) (ap length before) c.report.ensures.written in
    let shown =
    subst (λ shows. IsWritten (ended_now now.core now.chip c.args.number (length c.args.locked.now.core.log.marks)) c.args.replay.now.at shows c.in-Ok.ended (g.K.Sink.holds c.args.sink.now) (g.K.Sink.faults c.args.sink.now) c.report.result c.report.new.replay (g.K.Sink.holds c.report.new.sink) (g.K.Sink.faults c.report.new.sink)) c.items-shows.ensures written in
    run-written c.args.round c.args.locked.now.core c.args.locked.now.chip c.args.replay.now c.requires.ready c.in-Ok.ended c.round_alone-end.new.locked.core c.round_alone-end.new.locked.chip
    (round-over c.args.round c.args.locked.now.core c.args.locked.now.chip c.args.replay.now c.requires.ready c.requires.read c.round_alone-end.result c.in-Ok.ended c.round_alone-end.new.locked.core c.round_alone-end.new.locked.chip (sym c.round_ended.ensures ∙ c.in-Ok.is) c.round_alone-end.ensures.alone c.report.ensures.order)
    c.args.number c.requires.counted (g.K.Sink.holds c.args.sink.now) (g.K.Sink.holds c.report.new.sink) (g.K.Sink.faults c.args.sink.now) (g.K.Sink.faults c.report.new.sink) c.report.result c.report.new.replay shown

pub returns-clause-told : goal.returns-clause-told
returns-clause-told g c = round-told c.args.round c.args.locked.now.core c.args.locked.now.chip c.args.replay.now c.requires.ready c.requires.read c.round_alone-end.result c.round_alone-end.new.locked.core c.round_alone-end.new.locked.chip c.round_alone-end.ensures.alone c.args.told.now c.requires.told

pub returns-clause-fails : goal.returns-clause-fails
returns-clause-fails g c = round-fails c.args.round c.args.locked.now.core c.args.locked.now.chip c.args.replay.now c.requires.ready c.requires.read c.round_alone-end.result c.round_alone-end.new.locked.core c.round_alone-end.new.locked.chip c.round_alone-end.ensures.alone

pub returns-clause-run : goal.returns-clause-run
returns-clause-run g c = round-halted c.args.round c.args.locked.now.core c.args.locked.now.chip c.args.replay.now c.requires.ready c.requires.read c.args.number (g.K.Sink.holds c.args.sink.now) (g.K.Sink.faults c.args.sink.now) c.args.replay.now c.round_alone-end.result c.in-Err.status c.round_alone-end.new.locked.core c.round_alone-end.new.locked.chip (sym c.round_ended.ensures ∙ c.in-Err.is) c.round_alone-end.ensures.alone

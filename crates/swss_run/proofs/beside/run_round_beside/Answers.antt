use denote.Param.Send.{sendable}
use Rattle.std.proofs.Common.{rules, ◌≡◌, ◌-◌, ◌∙◌, length, sym, ap, subst, arith}
use Rattle.swss_run.specs.Running.{IsWritten, ended_now}
use Rattle.swss_run.proofs.Crossing.{chip_crosses}
use Rattle.swss_run.proofs.OpenedRounds.{some-round}
use Rattle.swss_run.proofs.RoundBeside.{beside-follows, beside-grown, beside-halted, beside-longer, beside-over, beside-told, beside-written}
use Rattle.swss_run.proofs.beside.run_round_beside.Goals as goal

pub report-status-requires-clause-follows : goal.report-status-requires-clause-follows
report-status-requires-clause-follows g c =
    let r = some-round c.args.rounds.now (c.args.number - 1) (omega (arith, c.requires.number.0, c.requires.number.1)) in
    let o = c.args.locked in
    let last = c.run-locked.result.locked in
    beside-follows o.core o.chip last.core last.chip (beside-grown (omega (arith, c.requires.workers.0)) r.0 o c.requires.ready.here c.run-locked.result.end last (c.run-locked.ensures.any r.0 r.1)) c.args.replay.now c.requires.ready.follows

pub report-status-requires-clause-told : goal.report-status-requires-clause-told
report-status-requires-clause-told g c =
    let r = some-round c.args.rounds.now (c.args.number - 1) (omega (arith, c.requires.number.0, c.requires.number.1)) in
    let o = c.args.locked in
    let last = c.run-locked.result.locked in
    beside-told o.core o.chip last.core last.chip (beside-grown (omega (arith, c.requires.workers.0)) r.0 o c.requires.ready.here c.run-locked.result.end last (c.run-locked.ensures.any r.0 r.1)) c.args.told.now c.requires.told

pub report-status-requires-clause-marks : goal.report-status-requires-clause-marks
report-status-requires-clause-marks g c =
    let r = some-round c.args.rounds.now (c.args.number - 1) (omega (arith, c.requires.number.0, c.requires.number.1)) in
    let o = c.args.locked in
    let last = c.run-locked.result.locked in
    let longer = beside-longer o.core o.chip last.core last.chip (beside-grown (omega (arith, c.requires.workers.0)) r.0 o c.requires.ready.here c.run-locked.result.end last (c.run-locked.ensures.any r.0 r.1)) in
    let before : c.marks-before.result.now ≡ o.core.log.marks = search rules in
    omega (arith, longer, ap length before)

pub returns-in-Ok-clause-fails : goal.returns-in-Ok-clause-fails
returns-in-Ok-clause-fails g c =
    let r = some-round c.args.rounds.now (c.args.number - 1) (omega (arith, c.requires.number.0, c.requires.number.1)) in
    (beside-grown (omega (arith, c.requires.workers.0)) r.0 c.args.locked c.requires.ready.here c.run-locked.result.end c.run-locked.result.locked (c.run-locked.ensures.any r.0 r.1)).fails

pub returns-in-Ok-clause-run : goal.returns-in-Ok-clause-run
returns-in-Ok-clause-run g c = λ round some.
    let o = c.args.locked in
    let last = c.run-locked.result.locked in
    let x = c.run-locked.ensures.any round some in
    let before : c.marks-before.result.now ≡ o.core.log.marks = search rules in
    let written = subst (λ n. IsWritten (ended_now last.core last.chip c.args.number n) c.args.replay.now.at c.shows-shows.result.now c.in-Ok.ended (g.K.Sink.holds c.args.sink.now) (g.K.Sink.faults c.args.sink.now) c.report-status.result c.report-status.new.replay (g.K.Sink.holds c.report-status.new.sink) (g.K.Sink.faults c.report-status.new.sink)) (ap length before) c.report-status.ensures.written in
    let shown = subst (λ shows. IsWritten (ended_now last.core last.chip c.args.number (length o.core.log.marks)) c.args.replay.now.at shows c.in-Ok.ended (g.K.Sink.holds c.args.sink.now) (g.K.Sink.faults c.args.sink.now) c.report-status.result c.report-status.new.replay (g.K.Sink.holds c.report-status.new.sink) (g.K.Sink.faults c.report-status.new.sink)) (c.shows-shows.ensures round some) written in
    beside-written round o.core o.chip c.args.replay.now c.requires.ready.at_end c.in-Ok.ended last.core last.chip
    (beside-over (omega (arith, c.requires.workers.0)) round o c.requires.ready.here c.run-locked.result.end c.in-Ok.ended last (sym c.round_ended.ensures ∙ c.in-Ok.is) x)
    c.args.number c.requires.number.0 (g.K.Sink.holds c.args.sink.now) (g.K.Sink.holds c.report-status.new.sink) (g.K.Sink.faults c.args.sink.now) (g.K.Sink.faults c.report-status.new.sink) c.report-status.result c.report-status.new.replay shown

pub returns-in-Err-clause-told : goal.returns-in-Err-clause-told
returns-in-Err-clause-told g c =
    let r = some-round c.args.rounds.now (c.args.number - 1) (omega (arith, c.requires.number.0, c.requires.number.1)) in
    let o = c.args.locked in
    let last = c.run-locked.result.locked in
    beside-told o.core o.chip last.core last.chip (beside-grown (omega (arith, c.requires.workers.0)) r.0 o c.requires.ready.here c.run-locked.result.end last (c.run-locked.ensures.any r.0 r.1)) c.args.told.now c.requires.told

pub returns-in-Err-clause-fails : goal.returns-in-Err-clause-fails
returns-in-Err-clause-fails g c =
    let r = some-round c.args.rounds.now (c.args.number - 1) (omega (arith, c.requires.number.0, c.requires.number.1)) in
    (beside-grown (omega (arith, c.requires.workers.0)) r.0 c.args.locked c.requires.ready.here c.run-locked.result.end c.run-locked.result.locked (c.run-locked.ensures.any r.0 r.1)).fails

pub returns-in-Err-clause-run : goal.returns-in-Err-clause-run
returns-in-Err-clause-run g c = λ round some.
    beside-halted (omega (arith, c.requires.workers.0)) round c.args.locked c.requires.ready.here c.args.number (g.K.Sink.holds c.args.sink.now) (g.K.Sink.faults c.args.sink.now) c.args.replay.now c.run-locked.result.locked c.run-locked.result.end c.in-Err.status (sym c.round_ended.ensures ∙ c.in-Err.is) (c.run-locked.ensures.any round some)

pub run-locked-requires-send-C : goal.run-locked-requires-send-C
run-locked-requires-send-C g c κs within = let chip = chip_crosses in search sendable depth 60

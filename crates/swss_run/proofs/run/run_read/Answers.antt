use Rattle.std.proofs.Common.{sym, subst}
use Rattle.swss_script.proofs.Staged.{stage-of_script}
use Rattle.swss_run.specs.Script.{IsRun}
use Rattle.swss_run.proofs.Given.{rounds-were_read}
use Rattle.swss_run.proofs.run.run_read.Goals as goal

pub run_script-requires : goal.run_script-requires
run_script-requires g c =
    let stage = stage-of_script c.requires.read.0 c.args.script c.requires.read.1 in
    record { plan = stage.plan; image = stage.image; read = rounds-were_read c.requires.read.0 c.args.script c.requires.read.1 }

pub returns-then-workers-eq1-clause-session : goal.returns-then-workers-eq1-clause-session
returns-then-workers-eq1-clause-session g c = subst (λ n. IsRun n c.args.script c.run_script.result (g.K.Sink.holds c.args.sink.now) (g.K.Sink.holds c.run_script.new.sink)) (sym c.if-workers-eq1.true) c.run_script.ensures.session

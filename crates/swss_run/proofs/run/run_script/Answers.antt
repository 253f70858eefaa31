use Rattle.std.proofs.Common.{rules, ◌≡◌, List, sym, ap, subst, arith}
use Rattle.session_laws.specs.Core.{CoreState}
use Rattle.switch_model.specs.History.{History}
use Rattle.swss_script.specs.Behind.{rounds_behind}
use Rattle.swss_script.specs.declared.parts.Round.{Round}
use Rattle.swss_service.specs.CoreAndChip.{CoreAndChip}
use Rattle.swss_run.specs.Session.{IsSession}
use Rattle.swss_run.proofs.Given.{HaveReadRounds, read-behind}
use Rattle.swss_run.proofs.run.run_script.Goals as goal

pub run_rounds-core-requires-clause-read : goal.run_rounds-core-requires-clause-read
run_rounds-core-requires-clause-read g c =
    subst HaveReadRounds (search rules) (read-behind c.args.script.image c.args.script.rounds c.requires.image c.requires.read)

pub returns-clause-session : goal.returns-clause-session
returns-clause-session g c =
    let ran = c.run_rounds-core.result in
    let here = subst (λ (z : CoreState). IsSession z.board.plan z.sync.capacities c.in-Ok-rounds_behind.rounds ran.status ran.core.log ran.chip (g.K.Sink.holds c.args.sink.now) (g.K.Sink.holds c.run_rounds-core.new.sink)) (ap (λ (z : CoreAndChip). z.core) c.begin-locked.ensures) c.run_rounds-core.ensures.session in
    let behind : c.in-Ok-rounds_behind.rounds ≡ rounds_behind c.args.script.image c.args.script.rounds = search rules in
    let whole = subst (λ (rounds : List Round). IsSession c.args.script.plan c.args.script.caps.0 rounds ran.status ran.core.log ran.chip (g.K.Sink.holds c.args.sink.now) (g.K.Sink.holds c.run_rounds-core.new.sink)) behind here in
    record {
      fails = search rules;
      faults = search rules;
      alone = λ one. subst (λ (l : History). IsSession c.args.script.plan c.args.script.caps.0 (rounds_behind c.args.script.image c.args.script.rounds) ran.status l ran.chip (g.K.Sink.holds c.args.sink.now) (g.K.Sink.holds c.run_rounds-core.new.sink)) (sym c.into_log.ensures) whole;
      beside = λ many. absurd (omega (arith, many));
    }

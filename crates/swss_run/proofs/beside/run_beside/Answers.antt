use Rattle.std.proofs.Common.{rules, ◌<◌, List, length, sym, ap, subst, arith}
use Rattle.std.specs.List.{AllByRecursion}
use Rattle.session_laws.specs.Core.{CoreState}
use Rattle.switch_model.specs.History.{History}
use Rattle.swss_script.specs.Behind.{image_sent, rounds_behind}
use Rattle.swss_script.specs.Stage.{AreOfProducers}
use Rattle.swss_script.specs.declared.parts.Round.{Round}
use Rattle.swss_script.proofs.Staged.{stage-of_script}
use Rattle.swss_service.specs.CoreAndChip.{CoreAndChip}
use Rattle.swss_run.specs.Beside.{BeginsWithRows, IsSessionBeside}
use Rattle.swss_run.proofs.beside.run_beside.Goals as goal

pub of-rounds-requires : goal.of-rounds-requires
of-rounds-requires g c = record { read = (c.requires.read.0, c.args.script, c.requires.read.1, search rules, search rules) }

pub run_rounds_beside-core-requires-clause-rows : goal.run_rounds_beside-core-requires-clause-rows
run_rounds_beside-core-requires-clause-rows g c = λ _ _. (stage-of_script c.requires.read.0 c.args.script c.requires.read.1).image

pub run_rounds_beside-core-requires-clause-several : goal.run_rounds_beside-core-requires-clause-several
run_rounds_beside-core-requires-clause-several g c = λ _ _. subst (λ (rounds : List Round). 0 < length rounds) (sym c.of-rounds.ensures) (stage-of_script c.requires.read.0 c.args.script c.requires.read.1).several

pub run_rounds_beside-core-requires-clause-producers : goal.run_rounds_beside-core-requires-clause-producers
run_rounds_beside-core-requires-clause-producers g c = λ _ _. (length c.args.script.producers, subst (λ (rounds : List Round). AllByRecursion (λ (r : Round). AreOfProducers (length c.args.script.producers) r.sections) rounds) (sym c.of-rounds.ensures) (stage-of_script c.requires.read.0 c.args.script c.requires.read.1).numbers)

pub returns-clause-session : goal.returns-clause-session
returns-clause-session g c =
    let ran = c.run_rounds_beside-core.result in
    let script = c.args.script in
    let here = subst (λ (z : CoreState). IsSessionBeside c.args.workers z.board.plan z.sync.capacities (rounds_behind script.image c.of-rounds.result) ran.status ran.core.log ran.chip (g.K.Sink.holds c.args.sink.now) (g.K.Sink.holds c.run_rounds_beside-core.new.sink)) (ap (λ (z : CoreAndChip). z.core) c.begin-locked.ensures) c.run_rounds_beside-core.ensures.session in
    let whole = subst (λ (rounds : List Round). IsSessionBeside c.args.workers script.plan script.caps.0 (rounds_behind script.image rounds) ran.status ran.core.log ran.chip (g.K.Sink.holds c.args.sink.now) (g.K.Sink.holds c.run_rounds_beside-core.new.sink)) c.of-rounds.ensures here in
    record {
      fails = search rules;
      faults = search rules;
      alone = λ one. absurd (omega (arith, one, c.requires.workers.0));
      beside = λ many. record {
        session = subst (λ (l : History). IsSessionBeside c.args.workers script.plan script.caps.0 (rounds_behind script.image script.rounds) ran.status l ran.chip (g.K.Sink.holds c.args.sink.now) (g.K.Sink.holds c.run_rounds_beside-core.new.sink)) (sym c.into_log.ensures) whole;
        image = subst (λ (l : History). BeginsWithRows (image_sent script.image) l ran.chip.effects) (sym c.into_log.ensures) c.run_rounds_beside-core.ensures.image;
      };
    }

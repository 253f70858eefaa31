use Rattle.swss_service.proofs.Rounds.{rest-taken}
use Rattle.swss_service.proofs.rounding.take_all.Goals as goal

pub returns-clause-rest : goal.returns-clause-rest
returns-clause-rest g c =
    let t = c.take_rest-kept in
    rest-taken g.J.Named.most c.args.acted.intake c.args._sections.now g.J.Named.opening c.args.acted.passes.items t.new.passes.items c.args.acted.served t.new.served c.args.acted.taker t.new.taker c.args.acted.kept t.result
    c.requires.calm t.ensures.passes c.requires.acted t.ensures.intake t.ensures.met t.ensures.follows t.ensures.restarts t.ensures.all t.ensures.cause

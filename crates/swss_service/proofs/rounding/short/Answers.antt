use Rattle.swss_service.proofs.Rounds.{ends-refused}
use Rattle.swss_service.proofs.rounding.short.Goals as goal

pub returns : goal.returns
returns g c =
    ends-refused g.J.Named.most c.args.acted.intake c.args._sections.now g.J.Named.opening c.args.acted.passes.items c.args.acted.served c.args.acted.taker c.args.acted.kept c.give_up.ensures.served c.requires.rest
    c.give_up.result.end c.give_up.result.locked c.requires.short c.give_up.ensures.parts c.give_up.ensures.end

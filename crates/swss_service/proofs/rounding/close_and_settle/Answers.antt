use Rattle.swss_service.proofs.Rounds.{ends-settled, ends-short}
use Rattle.swss_service.proofs.rounding.close_and_settle.Goals as goal

pub returns-then-is_err : goal.returns-then-is_err
returns-then-is_err g c =
    ends-short g.J.Named.most c.args.acted.intake c.args._sections.now g.J.Named.opening c.args.acted.passes.items c.args.acted.served c.args.acted.taker c.args.acted.kept c.hand_back.ensures.served c.requires.rest
    c.hand_back.result.end c.hand_back.result.locked c.requires.calm c.hand_back.ensures.parts c.hand_back.ensures.end

pub returns : goal.returns
returns g c =
    ends-settled g.J.Named.most c.args.acted.intake c.args._sections.now g.J.Named.opening c.args.acted.passes.items c.args.acted.served c.args.acted.taker c.args.acted.kept c.settle.ensures.served c.requires.rest
    c.settle.result.end c.settle.result.locked c.requires.calm c.settle.ensures.settles

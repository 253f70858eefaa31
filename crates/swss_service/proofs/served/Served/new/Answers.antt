use Rattle.swss_service.proofs.Serving.{served-new}
use Rattle.swss_service.proofs.served.Served.new.Goals as goal

pub invariant_of-result : goal.invariant_of-result
invariant_of-result g c = (c.requires.few, served-new g.J.Named.most g.J.Named.opening c.args.locked.core c.args.locked.chip c.requires.opening c.stand_for_one_session.ensures)

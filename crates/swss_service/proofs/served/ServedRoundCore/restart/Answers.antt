use Rattle.swss_service.proofs.Serving.{refused-cause}
use Rattle.swss_service.proofs.served.ServedRoundCore.restart.Goals as goal

pub invariant_of-self : goal.invariant_of-self
invariant_of-self g c = (c.self.invariant.0, c.restart.ensures.goes_on g.J.Named.most g.J.Named.opening c.self.invariant.1)

pub returns-clause-cause : goal.returns-clause-cause
returns-clause-cause g c = refused-cause c.restart.result c.self.inside.locked c.restart.new.self c.restart.ensures.err c.restart.ensures.full

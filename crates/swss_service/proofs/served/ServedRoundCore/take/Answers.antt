use Rattle.swss_service.proofs.Serving.{refused-cause}
use Rattle.swss_service.proofs.served.ServedRoundCore.take.Goals as goal

pub take-requires : goal.take-requires
take-requires g c = record { read = c.requires.read.0 }

pub invariant_of-self : goal.invariant_of-self
invariant_of-self g c = (c.self.invariant.0, c.take.ensures.goes_on g.J.Named.most g.J.Named.opening c.self.invariant.1)

pub returns-clause-cause : goal.returns-clause-cause
returns-clause-cause g c = refused-cause c.take.result c.self.inside.locked c.take.new.self c.take.ensures.err c.take.ensures.full

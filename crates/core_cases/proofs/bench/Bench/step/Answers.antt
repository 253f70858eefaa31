use Rattle.core_cases.proofs.bench.Bench.step.Goals as goal

pub step-requires-clause-service : goal.step-requires-clause-service
step-requires-clause-service c = (c.self.invariant.session, c.self.invariant.stands)

pub invariant_of-self : goal.invariant_of-self
invariant_of-self c = (c.step.ensures.sessions 4 c.requires c.self.invariant).within

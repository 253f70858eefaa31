use Rattle.core_cases.proofs.bench.Bench.take.Goals as goal

pub invariant_of-self : goal.invariant_of-self
invariant_of-self c = (c.take.ensures.sessions 4 c.self.inside.chip c.self.invariant c.requires).within

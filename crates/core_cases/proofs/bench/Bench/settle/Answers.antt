use Rattle.std.proofs.Common.{arith}
use Rattle.core_cases.proofs.bench.Bench.settle.Goals as goal

pub settle-requires : goal.settle-requires
settle-requires c = record { service = (c.self.invariant.session, c.self.invariant.stands) }

pub invariant_of-self : goal.invariant_of-self
invariant_of-self c = (c.settle.ensures.sessions 4 (omega arith) c.self.invariant).within

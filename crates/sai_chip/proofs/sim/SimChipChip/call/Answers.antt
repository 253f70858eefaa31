use Rattle.std.proofs.Common.{rules}
use Rattle.sai_chip.specs.Sim.{fault_of}
use Rattle.sai_chip.proofs.Answered.{answered}
use Rattle.sai_chip.proofs.sim.SimChipChip.call.Goals as goal

pub returns-clause-answered : goal.returns-clause-answered
returns-clause-answered c = answered (fault_of c.args.self.now) c.args.self.now c.answer-answer.new.self c.count.new.self c.args.call.now c.answer-answer.result (rw c.refusal-refusal.ensures at c.answer-answer.ensures) (search rules)

use Rattle.std.proofs.Common.{sym}
use Rattle.sai_chip.proofs.Remades.{next-within, told-further, told-end, told-err}
use Rattle.sai_chip.proofs.remade.Remade.advance.Goals as goal

pub returns-in-Some-clause-further : goal.returns-in-Some-clause-further
returns-in-Some-clause-further c = told-further c.args.self.now c.tell.new.self c.args.chip.now.effects c.in-Some.call.now (sym c.in-Some.ensures.next) c.tell.result c.tell.ensures.ok

pub returns-in-Some-clause-end : goal.returns-in-Some-clause-end
returns-in-Some-clause-end c = told-end c.args.self.now c.tell.new.self c.args.chip.now.effects c.in-Some.call.now (sym c.in-Some.ensures.next) c.tell.result

pub returns-in-Some-clause-err : goal.returns-in-Some-clause-err
returns-in-Some-clause-err c = told-err c.args.self.now c.tell.new.self c.args.chip.now.effects c.in-Some.call.now (sym c.in-Some.ensures.next) c.tell.result c.tell.ensures.err

pub returns-in-None-clause-further : goal.returns-in-None-clause-further
returns-in-None-clause-further c = λ is within. next-within c.args.chip.now.effects c.args.self.now.at (sym c.in-None.ensures.next) within

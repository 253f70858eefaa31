use Rattle.std.proofs.Common.{refl, ap, sym, subst}
use Rattle.sai_chip.specs.Replay.{IsRemadeOf}
use Rattle.sai_chip.proofs.Remades.{IsRemadeOf-with_call, none-past}
use Rattle.sai_chip.proofs.remade.Remade.follow.Goals as goal

pub returns-clause-further : goal.returns-clause-further
returns-clause-further c = λ is within. (
  refl,
  ap (λ r. r.at) c.in_ok-make.ensures.ok,
  subst (λ r. IsRemadeOf r c.args.chip.now.effects) (sym c.in_ok-make.ensures.ok) (IsRemadeOf-with_call c.args.self.now c.args.chip.now.effects c.in-Some.call.now is (sym c.in-Some.ensures.next)),
)

pub returns-clause-end : goal.returns-clause-end
returns-clause-end c = λ past. none-past c.args.chip.now.effects c.args.self.now.at c.in-Some.call.now (sym c.in-Some.ensures.next) past

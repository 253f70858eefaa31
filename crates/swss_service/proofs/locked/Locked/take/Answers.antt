use Rattle.std.proofs.Common.{refl, sym, subst}
use Rattle.swss_service.specs.CoreAndChip.{beside}
use Rattle.swss_service.specs.Served.{IsServed}
use Rattle.swss_service.proofs.Serving.{on-write, served-new, served-taken, within}
use Rattle.swss_service.proofs.locked.Locked.take.Goals as goal

pub invariant_of-self : goal.invariant_of-self
invariant_of-self g c =
    let chip = g.C.Chip.state c.self.inside.chip in
    let o = beside c.self.inside.core chip in
    within 0 o c.take.new.self chip
    (served-taken 0 o c.self.inside.core chip (served-new 0 o c.self.inside.core chip refl c.self.invariant) c.args.sent c.effects.result c.effects.ensures
    c.take.result c.take.new.self (on-write c.args.sent.write c.requires.read) c.take.ensures.ok c.take.ensures.err c.take.ensures.serves)

pub returns-clause-goes_on : goal.returns-clause-goes_on
returns-clause-goes_on g c = λ most o x.
    let chip = g.C.Chip.state c.self.inside.chip in
    served-taken most o c.self.inside.core chip (subst (IsServed most o) (sym c.self.view_is) x) c.args.sent c.effects.result c.effects.ensures
    c.take.result c.take.new.self (on-write c.args.sent.write c.requires.read) c.take.ensures.ok c.take.ensures.err c.take.ensures.serves

pub invariant_of-self-in-Ok-Err-LogFull : goal.invariant_of-self-in-Ok-Err-LogFull
invariant_of-self-in-Ok-Err-LogFull g c =
    let chip = g.C.Chip.state c.self.inside.chip in
    let o = beside c.self.inside.core chip in
    within 0 o c.take.new.self chip
    (served-taken 0 o c.self.inside.core chip (served-new 0 o c.self.inside.core chip refl c.self.invariant) c.args.sent c.effects.result c.effects.ensures
    c.take.result c.take.new.self (on-write c.args.sent.write c.requires.read) c.take.ensures.ok c.take.ensures.err c.take.ensures.serves)

pub returns-in-Ok-Ok-clause-goes_on : goal.returns-in-Ok-Ok-clause-goes_on
returns-in-Ok-Ok-clause-goes_on g c = λ most o x.
    let chip = g.C.Chip.state c.self.inside.chip in
    served-taken most o c.self.inside.core chip (subst (IsServed most o) (sym c.self.view_is) x) c.args.sent c.effects.result c.effects.ensures
    c.take.result c.take.new.self (on-write c.args.sent.write c.requires.read) c.take.ensures.ok c.take.ensures.err c.take.ensures.serves

pub returns-in-Ok-Err-LogFull-clause-goes_on : goal.returns-in-Ok-Err-LogFull-clause-goes_on
returns-in-Ok-Err-LogFull-clause-goes_on g c = λ most o x.
    let chip = g.C.Chip.state c.self.inside.chip in
    served-taken most o c.self.inside.core chip (subst (IsServed most o) (sym c.self.view_is) x) c.args.sent c.effects.result c.effects.ensures
    c.take.result c.take.new.self (on-write c.args.sent.write c.requires.read) c.take.ensures.ok c.take.ensures.err c.take.ensures.serves

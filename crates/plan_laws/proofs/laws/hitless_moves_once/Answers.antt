use Rattle.std.proofs.Common.{refl}
use Rattle.plan_laws.proofs.Macs.{either, hitless, kept}
use Rattle.plan_laws.proofs.laws.hitless_moves_once.Goals as goal

pub returns-clause-decided : goal.returns-clause-decided
returns-clause-decided c = λ old new now done due a b plan stands. either a b plan done due refl now stands

pub returns-clause-stays : goal.returns-clause-stays
returns-clause-stays c = λ old new now later done more due a b plan stands after. kept a b plan done more due refl now later stands after

pub returns-clause-forwarded : goal.returns-clause-forwarded
returns-clause-forwarded c = λ old new now done due a b plan stands. hitless a b plan done due refl now stands

use Rattle.std.proofs.Common.{sym, ◌∙◌}
use Rattle.apply_laws.proofs.Order.Ends.{steady-decided, steady-forwarded, steady-stays}
use Rattle.apply_laws.proofs.Sync.Numbered.{apply-by_ties, tied-are}
use Rattle.apply_laws.proofs.syncs.hitless_calls_are_steady.Goals as goal

pub returns-clause-decided : goal.returns-clause-decided
returns-clause-decided c = λ capacities made old view things plan front rest x e cut. steady-decided (apply-by_ties view x.planned x.free) front rest e (sym (tied-are view x.planned x.free) ∙ cut)

pub returns-clause-stays : goal.returns-clause-stays
returns-clause-stays c = λ capacities made old view things plan front more rest x e cut. steady-stays (apply-by_ties view x.planned x.free) front more rest e (sym (tied-are view x.planned x.free) ∙ cut)

pub returns-clause-forwarded : goal.returns-clause-forwarded
returns-clause-forwarded c = λ capacities made old view things plan front rest x e cut. steady-forwarded (apply-by_ties view x.planned x.free) front rest e (sym (tied-are view x.planned x.free) ∙ cut)

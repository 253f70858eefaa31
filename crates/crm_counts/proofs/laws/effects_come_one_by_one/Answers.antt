use Rattle.std.proofs.Common.{[], refl}
use Rattle.crm_counts.proofs.Chips.{legal-at}
use Rattle.crm_counts.proofs.laws.effects_come_one_by_one.Goals as goal

pub returns : goal.returns
returns c = λ capacities effects n call legal at. record { legal = legal-at capacities 0 [] effects n call legal at; made = refl }

use Rattle.row_layout.proofs.Owners.{held-own, owners-apart}
use Rattle.row_layout.proofs.laws.owners_are_apart.Goals as goal

pub returns-clause-owned : goal.returns-clause-owned
returns-clause-owned c = λ plan o t is h. held-own plan is o t h

pub returns-clause-apart : goal.returns-clause-apart
returns-clause-apart c = λ plan o p t u is x y same. owners-apart plan is o p t u x y same

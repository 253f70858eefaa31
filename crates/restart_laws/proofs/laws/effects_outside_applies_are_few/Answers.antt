use Rattle.restart_laws.proofs.Bounded.{outside-few}
use Rattle.restart_laws.proofs.laws.effects_outside_applies_are_few.Goals as goal

pub returns : goal.returns
returns c = λ plan workers capacities ts is run. outside-few plan is workers capacities ts run

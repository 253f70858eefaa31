use Rattle.registry_laws.proofs.Starting.{registers_started}
use Rattle.registry_laws.proofs.laws.starts_are_registered.Goals as goal

pub returns : goal.returns
returns c = λ plan workers capacities m names room room' w k n is sound covered known less begins differs reserves. registers_started plan is workers capacities m sound covered names room room' known w k n less begins differs reserves

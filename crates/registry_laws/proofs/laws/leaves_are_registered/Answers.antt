use Rattle.registry_laws.proofs.Left.{parts}
use Rattle.registry_laws.proofs.laws.leaves_are_registered.Goals as goal

pub returns : goal.returns
returns c = λ plan workers capacities m names room w f o is sound known leaving. parts plan is m sound w f o leaving workers capacities names room known

use Rattle.restart_laws.proofs.Followed.{log-followed}
use Rattle.restart_laws.proofs.laws.applies_are_steady_and_short.Goals as goal

pub returns : goal.returns
returns c = λ plan workers capacities ts is run. log-followed plan is workers capacities ts run

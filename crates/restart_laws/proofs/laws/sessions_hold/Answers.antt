use Rattle.restart_laws.proofs.Holding.{holds-new, holds-run}
use Rattle.restart_laws.proofs.laws.sessions_hold.Goals as goal

pub returns-clause-begins : goal.returns-clause-begins
returns-clause-begins c = λ plan workers capacities is. holds-new plan is workers capacities

pub returns-clause-kept : goal.returns-clause-kept
returns-clause-kept c = λ plan workers capacities s es is h run. holds-run plan is workers capacities s es h run

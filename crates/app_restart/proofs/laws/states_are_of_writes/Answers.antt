use Rattle.app_restart.proofs.Comparing.{are_equal-Decides}
use Rattle.app_restart.proofs.Finishing.{state_at-writes}
use Rattle.app_restart.proofs.laws.states_are_of_writes.Goals as goal

pub returns-clause-state : goal.returns-clause-state
returns-clause-state c = state_at-writes

pub returns-clause-equal : goal.returns-clause-equal
returns-clause-equal c = are_equal-Decides

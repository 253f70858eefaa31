use Rattle.registry_laws.proofs.Dues.{due_none, none_due}
use Rattle.registry_laws.proofs.flying.due_changes_are_told.Goals as goal

pub returns-clause-none : goal.returns-clause-none
returns-clause-none c = none_due

pub returns-clause-only : goal.returns-clause-only
returns-clause-only c = due_none

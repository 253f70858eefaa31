use Rattle.registry_laws.proofs.Between.{due_follows, due_moved, due_started}
use Rattle.registry_laws.proofs.laws.operations_have_changes.Goals as goal

pub returns-clause-started : goal.returns-clause-started
returns-clause-started c = due_started

pub returns-clause-moved : goal.returns-clause-moved
returns-clause-moved c = due_moved

pub returns-clause-follows : goal.returns-clause-follows
returns-clause-follows c = due_follows

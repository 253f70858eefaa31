use Rattle.registry_laws.proofs.Core.Empty.{stands_first, stands_fresh}
use Rattle.registry_laws.proofs.machine.nothing_stands_for.Goals as goal

pub returns-clause-first : goal.returns-clause-first
returns-clause-first c = λ plan capacities rid is. stands_first plan is capacities rid

pub returns-clause-fresh : goal.returns-clause-fresh
returns-clause-fresh c = λ plan capacities rid written keys is told rows queued. stands_fresh plan is capacities rid written keys told rows queued

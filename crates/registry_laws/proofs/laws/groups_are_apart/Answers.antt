use Rattle.row_layout.specs.Operations.{own_changes}
use Rattle.orch_flight.specs.Needing.{to_build}
use Rattle.registry_laws.proofs.Apart.{built_apart, taken_apart}
use Rattle.registry_laws.proofs.laws.groups_are_apart.Goals as goal

pub returns-clause-first : goal.returns-clause-first
returns-clause-first c = λ plan names k old new. built_apart (to_build plan names k new) (own_changes plan k old new)

pub returns-clause-last : goal.returns-clause-last
returns-clause-last c = taken_apart

use Rattle.orch_flight.specs.Calling.{HasVid}
use Rattle.orch_flight.specs.Grouping.{HasGroupVid}
use Rattle.registry_laws.proofs.Identifier.Entering.{made_number, taken_entry}
use Rattle.registry_laws.proofs.Identifier.Known.{group_goes}
use Rattle.registry_laws.proofs.identifiers.calls_are_of_their_things.Goals as goal

pub returns-clause-made : goal.returns-clause-made
returns-clause-made c = λ plan names things t call b x e. made_number (HasVid plan names) t call b x e

pub returns-clause-made_of_group : goal.returns-clause-made_of_group
returns-clause-made_of_group c = λ plan names g things t call b x e. made_number (HasGroupVid plan names g) t call b x e

pub returns-clause-removed : goal.returns-clause-removed
returns-clause-removed c = λ plan names things n call v x e. taken_entry (HasVid plan names) things n call v x e

pub returns-clause-removed_of_group : goal.returns-clause-removed_of_group
returns-clause-removed_of_group c = λ plan names g things n call v goes x e. group_goes plan names g n v goes (taken_entry (HasGroupVid plan names g) things n call v x e)

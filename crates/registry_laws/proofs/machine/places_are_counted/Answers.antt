use Rattle.registry_laws.proofs.Core.Counted.{are_used, are_within}
use Rattle.registry_laws.proofs.machine.places_are_counted.Goals as goal

pub returns-clause-used : goal.returns-clause-used
returns-clause-used c = λ plan capacities names room numbers flown rid s stands counted. are_used plan capacities names room flown rid s stands numbers counted

pub returns-clause-within : goal.returns-clause-within
returns-clause-within c = λ plan capacities names room flown rid s kind stands. are_within plan capacities names room flown rid s stands kind

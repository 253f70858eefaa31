use Rattle.registry_laws.proofs.Core.Same.{stands_flown, stands_tied}
use Rattle.registry_laws.proofs.machine.the_same_stands_for.Goals as goal

pub returns-clause-flown : goal.returns-clause-flown
returns-clause-flown c = λ plan capacities names room flown flown' rid s stands same. stands_flown plan capacities names room flown rid s stands flown' same

pub returns-clause-tied : goal.returns-clause-tied
returns-clause-tied c = λ plan capacities names room flown rid rid' s stands keeps. stands_tied plan capacities names room flown rid s stands rid' keeps

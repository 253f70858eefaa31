use Rattle.registry_laws.proofs.Identifier.GroupTook.{built_took, taken_took}
use Rattle.registry_laws.proofs.Identifier.Took.{took_identified}
use Rattle.registry_laws.proofs.identifiers.answers_keep_identifiers.Goals as goal

pub returns-clause-row : goal.returns-clause-row
returns-clause-row c = λ plan workers capacities s t call x names names' rid rid' flown f f' made rest is kept known builds flying due alone may took ties. took_identified plan is workers capacities s t call x kept names rid rid' flown known builds f flying made rest may due alone ties f' names' took

pub returns-clause-built : goal.returns-clause-built
returns-clause-built c = λ plan workers capacities s t call x names names' rid rid' flown flown' g g' made rest is kept known builds at b part due took ties on. built_took plan is workers capacities s t call x kept names names' rid rid' flown known builds g g' made rest due ties took flown' at b part on

pub returns-clause-taken : goal.returns-clause-taken
returns-clause-taken c = λ plan workers capacities s t call x names names' rid rid' flown g g' made rest n is kept known builds b due all change of retires took ties. taken_took plan is workers capacities s t call x kept names names' rid rid' flown known builds g g' made rest due ties took b n change of retires all

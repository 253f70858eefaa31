use Rattle.orch_flight.specs.Grouping.{first_group}
use Rattle.orch_flight.specs.Starting.{left_names, started_names}
use Rattle.registry_laws.proofs.Identifier.Starting.{ids_left, ids_started, live_unbuilt}
use Rattle.registry_laws.proofs.Identifier.Staying.{begun_identified, ended_identified, first_part, flown_identified, puts_kept, same_identified, tied_identified}
use Rattle.registry_laws.proofs.identifiers.names_keep_identifiers.Goals as goal

pub returns-clause-started : goal.returns-clause-started
returns-clause-started c = λ plan names rid flown stands w k old new is may known. same_identified plan names rid flown stands known (started_names plan names w k old new) (ids_started plan is names w k old new may)

pub returns-clause-left : goal.returns-clause-left
returns-clause-left c = λ plan names rid flown stands w k o live known. same_identified plan names rid flown stands known (left_names names w k o) (ids_left names w k o (live_unbuilt names o live))

pub returns-clause-ended : goal.returns-clause-ended
returns-clause-ended c = λ plan m names rid flown w f old sound ends may known. ended_identified plan m sound w f ends names rid flown known old w may

pub returns-clause-same : goal.returns-clause-same
returns-clause-same c = λ plan names names' rid flown stands same known. same_identified plan names rid flown stands known names' same

pub returns-clause-flown : goal.returns-clause-flown
returns-clause-flown c = λ plan names rid flown flown' stands builds known. flown_identified plan names rid flown stands known flown' builds

pub returns-clause-put : goal.returns-clause-put
returns-clause-put c = puts_kept

pub returns-clause-begun : goal.returns-clause-begun
returns-clause-begun c = λ plan names rid flown stands w x hops builds here none known. (begun_identified plan names rid flown stands known w x here none (first_group plan w hops builds), first_part plan w hops builds)

pub returns-clause-tied : goal.returns-clause-tied
returns-clause-tied c = λ plan names rid rid' flown stands stands' from known. tied_identified plan names rid flown stands known rid' stands' from

use Rattle.orch_flight.specs.Starting.{left_names, started_names}
use Rattle.registry_laws.proofs.Identifier.Starting.{ids_left, ids_started, live_unbuilt}
use Rattle.registry_laws.proofs.Identifier.Whole.{whole_built, whole_ended, whole_same, whole_taken, whole_took}
use Rattle.registry_laws.proofs.identifiers.groups_stay_whole.Goals as goal

pub returns-clause-started : goal.returns-clause-started
returns-clause-started c = λ plan names w k old new is may whole. whole_same names (started_names plan names w k old new) (ids_started plan is names w k old new may) whole

pub returns-clause-left : goal.returns-clause-left
returns-clause-left c = λ names w k o live whole. whole_same names (left_names names w k o) (ids_left names w k o (live_unbuilt names o live)) whole

pub returns-clause-ended : goal.returns-clause-ended
returns-clause-ended c = whole_ended

pub returns-clause-took : goal.returns-clause-took
returns-clause-took c = whole_took

pub returns-clause-built : goal.returns-clause-built
returns-clause-built c = λ names names' w g g' made b building part took whole. whole_built names g made whole names' w g' b building part took

pub returns-clause-taken : goal.returns-clause-taken
returns-clause-taken c = λ names names' g g' made rising b took whole. whole_taken names g made whole names' g' rising b took

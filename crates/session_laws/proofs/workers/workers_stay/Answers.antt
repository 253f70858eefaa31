use Rattle.session_laws.proofs.ByFirst.{answer_stays, away_stays, begin_stays, finish_stays, next_stays, same_machine_stays}
use Rattle.session_laws.proofs.workers.workers_stay.Goals as goal

pub returns-clause-answers : goal.returns-clause-answers
returns-clause-answers c = answer_stays

pub returns-clause-begins : goal.returns-clause-begins
returns-clause-begins c = begin_stays

pub returns-clause-next : goal.returns-clause-next
returns-clause-next c = next_stays

pub returns-clause-machines : goal.returns-clause-machines
returns-clause-machines c = same_machine_stays

pub returns-clause-away : goal.returns-clause-away
returns-clause-away c = away_stays

pub returns-clause-finishes : goal.returns-clause-finishes
returns-clause-finishes c = finish_stays

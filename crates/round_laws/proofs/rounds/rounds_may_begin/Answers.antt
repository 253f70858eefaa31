use Rattle.round_laws.proofs.Ready.{between-ready, ended-ready, ready-first, suspect-ready}
use Rattle.round_laws.proofs.rounds.rounds_may_begin.Goals as goal

pub returns-clause-first : goal.returns-clause-first
returns-clause-first c = ready-first

pub returns-clause-between : goal.returns-clause-between
returns-clause-between c = λ workers. between-ready {workers = workers}

pub returns-clause-ended : goal.returns-clause-ended
returns-clause-ended c = λ workers. ended-ready {workers = workers}

pub returns-clause-suspect : goal.returns-clause-suspect
returns-clause-suspect c = λ workers. suspect-ready {workers = workers}

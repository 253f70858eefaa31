use Rattle.session_laws.proofs.Service.Joining.{both-more, more-for, none-more, one-more, service-sized}
use Rattle.session_laws.proofs.services.steps_follow.Goals as goal

pub returns-clause-none : goal.returns-clause-none
returns-clause-none c = none-more

pub returns-clause-one : goal.returns-clause-one
returns-clause-one c = one-more

pub returns-clause-more : goal.returns-clause-more
returns-clause-more c = both-more

pub returns-clause-sized : goal.returns-clause-sized
returns-clause-sized c = service-sized

pub returns-clause-first : goal.returns-clause-first
returns-clause-first c = more-for

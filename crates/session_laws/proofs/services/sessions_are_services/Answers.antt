use Rattle.session_laws.proofs.Service.Sessions.{first-service, session-of, step-next, steps-more, steps-stand}
use Rattle.session_laws.proofs.services.sessions_are_services.Goals as goal

pub returns-clause-first : goal.returns-clause-first
returns-clause-first c = first-service

pub returns-clause-reconciled : goal.returns-clause-reconciled
returns-clause-reconciled c = session-of

pub returns-clause-one : goal.returns-clause-one
returns-clause-one c = λ core core' chip chip' s is taken at x. step-next core core' chip chip' s is taken at x

pub returns-clause-some : goal.returns-clause-some
returns-clause-some c = λ core core' chip chip' s is taken at x. steps-more core core' chip chip' s is taken at x

pub returns-clause-stands : goal.returns-clause-stands
returns-clause-stands c = λ core core' chip chip' s ts is taken at run stands plan capacities. steps-stand core core' chip chip' s is taken at ts run stands plan capacities

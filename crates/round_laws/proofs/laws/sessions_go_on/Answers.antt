use Rattle.round_laws.proofs.Sessions.{leads-on, one-on, same-on, some-on, steps-on, works-one, works-some}
use Rattle.round_laws.proofs.laws.sessions_go_on.Goals as goal

pub returns-clause-one : goal.returns-clause-one
returns-clause-one c = λ workers core later chip chip' x y stays. one-on core later chip chip' x y stays

pub returns-clause-some : goal.returns-clause-some
returns-clause-some c = λ workers w core later chip chip' x y less. some-on core later chip chip' x less y

pub returns-clause-leads : goal.returns-clause-leads
returns-clause-leads c = λ workers core later chip chip' s steps x are few is stands plan capacities. steps-on core later chip chip' x s steps are few is stands plan capacities

pub returns-clause-same : goal.returns-clause-same
returns-clause-same c = λ workers core later chip chip' x stands plan capacities. same-on core later chip chip' x stands plan capacities

pub returns-clause-works_one : goal.returns-clause-works_one
returns-clause-works_one c = λ workers core later chip chip' x taken at y stays. works-one core later chip chip' x taken at y stays

pub returns-clause-works_some : goal.returns-clause-works_some
returns-clause-works_some c = λ workers core later chip chip' x taken at some y. works-some core later chip chip' x taken at some y

pub returns-clause-works_on : goal.returns-clause-works_on
returns-clause-works_on c = λ workers core later chip chip' s x taken at some y. leads-on core later chip chip' x taken at some s y

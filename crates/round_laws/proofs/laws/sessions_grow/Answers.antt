use Rattle.round_laws.proofs.Growing.{effects-grow, ends-grow, marks-grow, taken-grow}
use Rattle.round_laws.proofs.laws.sessions_grow.Goals as goal

pub returns-clause-effects : goal.returns-clause-effects
returns-clause-effects c = λ workers w core later chip chip' x y. effects-grow core later chip chip' x y

pub returns-clause-taken : goal.returns-clause-taken
returns-clause-taken c = λ workers w core later chip chip' x y. taken-grow core later chip chip' x y

pub returns-clause-marks : goal.returns-clause-marks
returns-clause-marks c = λ workers w core later chip chip' x y. marks-grow core later chip chip' x y

pub returns-clause-ends : goal.returns-clause-ends
returns-clause-ends c = λ workers w core later chip chip' x y. ends-grow core later chip chip' x y

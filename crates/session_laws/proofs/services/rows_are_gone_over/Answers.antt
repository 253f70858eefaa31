use Rattle.session_laws.proofs.Service.Building.{bringing-first, built-drop, built-first, built-wait, ends-begun, may-begin, there-tried}
use Rattle.session_laws.proofs.Service.Giving.{given-up}
use Rattle.session_laws.proofs.services.rows_are_gone_over.Goals as goal

pub returns-clause-begins : goal.returns-clause-begins
returns-clause-begins c = λ first chip s ops is at popped order only all. built-first first chip s is at popped ops order only all

pub returns-clause-there : goal.returns-clause-there
returns-clause-there c = λ first core k rest x. there-tried first core k rest x

pub returns-clause-drops : goal.returns-clause-drops
returns-clause-drops c = λ first core k rest x order un same. built-drop first core k rest x order un same

pub returns-clause-may : goal.returns-clause-may
returns-clause-may c = λ first core k rest x order differs un. may-begin first core k rest x order differs un

pub returns-clause-over : goal.returns-clause-over
returns-clause-over c = λ first core k rest numbers x order differs are un. ends-begun first core k rest x order differs numbers are un

pub returns-clause-waits : goal.returns-clause-waits
returns-clause-waits c = λ first core k rest numbers r b x order differs are h. built-wait first core k rest x order differs numbers are b r h

pub returns-clause-starts : goal.returns-clause-starts
returns-clause-starts c = λ first core k rest numbers u b x order differs are h. bringing-first first core k rest x order differs numbers are b u h

pub returns-clause-given_up : goal.returns-clause-given_up
returns-clause-given_up c = λ first core chip s is at x. given-up first chip s is at core x

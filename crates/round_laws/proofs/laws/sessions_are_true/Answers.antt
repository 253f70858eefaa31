use Rattle.round_laws.proofs.Sessions.{applies-followed, counts-within, effects-legal, known-then, log-ordered, marks-true, objects-left, outside-few-of, sized, steady-session, suspect-then, warm-after}
use Rattle.round_laws.proofs.Bounded.{all-few}
use Rattle.round_laws.proofs.laws.sessions_are_true.Goals as goal

pub returns-clause-legality : goal.returns-clause-legality
returns-clause-legality c = λ workers core chip x. effects-legal core chip x

pub returns-clause-marks : goal.returns-clause-marks
returns-clause-marks c = λ workers core chip x. marks-true core chip x

pub returns-clause-counts : goal.returns-clause-counts
returns-clause-counts c = λ workers core chip x. counts-within core chip x

pub returns-clause-order : goal.returns-clause-order
returns-clause-order c = λ workers core chip x. log-ordered core chip x

pub returns-clause-warm : goal.returns-clause-warm
returns-clause-warm c = λ workers core chip x. warm-after core chip x

pub returns-clause-suspect : goal.returns-clause-suspect
returns-clause-suspect c = λ workers core chip x. suspect-then core chip x

pub returns-clause-known : goal.returns-clause-known
returns-clause-known c = λ workers core chip x. known-then core chip x

pub returns-clause-objects : goal.returns-clause-objects
returns-clause-objects c = λ workers core chip x. objects-left core chip x

pub returns-clause-clean : goal.returns-clause-clean
returns-clause-clean c = λ workers core chip x. x.stands.always.clean

pub returns-clause-capacities : goal.returns-clause-capacities
returns-clause-capacities c = λ workers core chip x. x.stands.always.capacities

pub returns-clause-size : goal.returns-clause-size
returns-clause-size c = λ workers core chip x. sized core chip x

pub returns-clause-few : goal.returns-clause-few
returns-clause-few c = λ workers core chip x. outside-few-of core chip x

pub returns-clause-all_few : goal.returns-clause-all_few
returns-clause-all_few c = λ workers core chip x none. all-few core chip x none

pub returns-clause-applies : goal.returns-clause-applies
returns-clause-applies c = λ workers core chip x. applies-followed core chip x

pub returns-clause-breaks : goal.returns-clause-breaks
returns-clause-breaks c = λ workers core chip x. steady-session core chip x

use Rattle.switch_machine.proofs.Hindered.{begins-free, drops-free}
use Rattle.switch_machine.proofs.Single.{reason-one}
use Rattle.switch_machine.proofs.laws.reasons_hinder.Goals as goal

pub returns-clause-begins : goal.returns-clause-begins
returns-clause-begins c = λ plan workers capacities s t x is h. begins-free plan is workers capacities s t x h.0 h.1

pub returns-clause-drops : goal.returns-clause-drops
returns-clause-drops c = λ plan workers capacities s t x is kept h. drops-free plan is workers capacities s kept t x h.0 h.1

pub returns-clause-one : goal.returns-clause-one
returns-clause-one c = λ plan workers capacities s k a b is kept x y. reason-one plan is workers capacities s kept k a b x y

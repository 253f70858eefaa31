use Rattle.machine_laws.proofs.Four.{four}
use Rattle.switch_model.proofs.Levels.{named_below}
use Rattle.machine_laws.proofs.laws.four_turns.Goals as goal

pub returns-clause-levels : goal.returns-clause-levels
returns-clause-levels c = λ k p r h. named_below k r p h

pub returns-clause-four : goal.returns-clause-four
returns-clause-four c = λ plan capacities good applied later keys left n closed typed rest still room sync rising h. four plan capacities good closed typed applied rest still room n later keys left sync rising h

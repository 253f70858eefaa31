use Rattle.std.proofs.Common.{refl}
use Rattle.switch_machine.specs.Events.{placed_good}
use Rattle.registry_laws.proofs.Waiting.{begins_by, reason_by, room_by}
use Rattle.registry_laws.proofs.laws.reasons_hold.Goals as goal

pub returns-clause-reason : goal.returns-clause-reason
returns-clause-reason c = λ plan workers capacities s names room numbers w k wait is kept known busy are idle rests differs fits h. reason_by plan is workers capacities s kept names room known busy numbers are w idle k rests fits (placed_good plan s.machine.board s.written k) refl differs wait h

pub returns-clause-begins : goal.returns-clause-begins
returns-clause-begins c = λ plan workers capacities s names room numbers w k is kept known busy are idle rests fits h. (
  begins_by plan is workers capacities s kept names room known busy numbers are w idle k rests fits (placed_good plan s.machine.board s.written k) refl h,
  room_by plan is workers capacities s kept names room known busy numbers are w idle k rests fits (placed_good plan s.machine.board s.written k) refl h,
)

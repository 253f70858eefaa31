use Rattle.std.proofs.Common.{ap, ◌∙◌}
use Rattle.row_layout.specs.Operations.{changes_of}
use Rattle.switch_machine.proofs.Sequence.{sequence}
use Rattle.switch_machine.proofs.Solo.{solo-key}
use Rattle.switch_machine.proofs.laws.operation_alone.Goals as goal

pub returns-clause-changes : goal.returns-clause-changes
returns-clause-changes c = λ plan workers capacities s t x es run used quiet end by. sequence plan workers capacities s t x es run used quiet end by ∙ ap (λ z. changes_of plan x.flight.key (s.machine.board.applied x.flight.key) z used) x.new

pub returns-clause-rows : goal.returns-clause-rows
returns-clause-rows c = λ plan workers capacities s t x es quiet run end q. solo-key plan workers capacities s t x es quiet run end q

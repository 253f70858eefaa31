-- the applied rows of a core in their places
use Rattle.std.proofs.Common.{◌≡◌, ◌∙◌, sym}
use Rattle.table_schema.specs.declared.key.Key.{Key}
use Rattle.sai_types.specs.ChipState.{ChipState}
use Rattle.switch_model.specs.Placed.{bare_rows}
use Rattle.switch_machine.specs.Events.{SwitchState}
use Rattle.machine_laws.proofs.Settling.{placed_same, restored}
use Rattle.flight_board.specs.Applied.{placed_at, row_at}
use Rattle.session_laws.specs.Core.{CoreState}
use Rattle.session_laws.specs.Standing.{IsWorking}

-- they are those of the machine
pub in-places : (c : CoreState) (chip : ChipState) (s : SwitchState) → IsWorking c chip s → (q : Key) → s.machine.board.applied q ≡ placed_at c.board.applied q
in-places c chip s its q = sym (restored c.board.plan s.machine.board its.stands.safe.sound.board q) ∙ placed_same (bare_rows s.machine.board.applied) (row_at c.board.applied) its.rows q

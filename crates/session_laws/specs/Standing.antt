-- When a core and its chip stand for a session of the service. Own.
use Rattle.std.specs.Prelude.{◌≡◌, ◌+◌, true, [], None}
use Rattle.std.specs.Map.{keys_of}
use Rattle.table_schema.specs.Plan.{IsPlan}
use Rattle.table_schema.specs.declared.key.Key.{Key}
use Rattle.sai_types.specs.After.{next_id}
use Rattle.sai_types.specs.ChipState.{ChipState}
use Rattle.switch_model.specs.History.{listed_by}
use Rattle.switch_model.specs.Marks.{sent_writes}
use Rattle.switch_model.specs.Placed.{bare_rows}
use Rattle.switch_machine.specs.Events.{SwitchState}
use Rattle.switch_machine.specs.Written.{HasNoWrite}
use Rattle.machine_laws.specs.Reading.{IsOnSwitch}
use Rattle.restart_laws.specs.Logged.{LoggedService}
use Rattle.asic_view.specs.View.{rid_at}
use Rattle.apply_laws.specs.Ties.{AreTied}
use Rattle.registry_laws.specs.Standing.{StandsFor}
use Rattle.sync_tables.specs.Tables.{IsToSync, written_in}
use Rattle.flight_board.specs.Applied.{row_at}
use Rattle.flight_board.specs.Board.{flown_at}
use Rattle.warm_state.specs.declared.warm.Warm.TheVariants as warm
use Rattle.session_laws.specs.Core.{CoreState}

-- while reconciled: the board and the identifiers stand for the machine, its applied rows are those of the board in their places, and the view is tied to the chip
pub record IsWorking (c : CoreState) (chip : ChipState) (s : SwitchState) : Type 0 where
  pub stands : StandsFor c.board.plan c.sync.capacities c.board.names c.board.room (flown_at c.board) (rid_at c.sync.view) s
  pub rows : (k : Key) → bare_rows s.machine.board.applied k ≡ row_at c.board.applied k
  pub tied : AreTied c.sync.view s.made chip.objects
  pub no_view : c.sync.temporary ≡ None
  pub no_plan : c.sync.left ≡ []

-- the session of a core: its writes, keys to sync, log, warm state and chip are the core's, and while reconciled the rest is too
pub record IsSessionOf (c : CoreState) (chip : ChipState) (s : LoggedService) : Type 0 where
  pub plan : IsPlan c.board.plan
  pub capacities : chip.capacities ≡ c.sync.capacities
  pub clean : chip.clean ≡ true
  pub warm_is : s.service.warm ≡ c.warm
  pub written : s.service.core.written ≡ written_in (sent_writes c.log.taken) c.tables
  pub to_sync : s.service.core.to_sync ≡ keys_of c.tables.ops
  pub objects : s.service.core.objects ≡ chip.objects
  pub made : next_id chip.effects ≡ s.service.core.made + 1
  pub log : s.log ≡ c.log
  pub effects : s.effects ≡ chip.effects
  pub listed : c.listed ≡ listed_by c.log.marks
  -- each key to sync, and each of which a write waits, is one that a text is
  pub to_sync_read : (k : Key) → IsToSync c.tables k → IsOnSwitch k
  pub waiting_read : (k : Key) → (HasNoWrite s.service.core.written k → ⊥) → IsOnSwitch k
  pub working : c.warm ≡ warm.Reconciled → IsWorking c chip s.service.core

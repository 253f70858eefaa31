-- When the log is full: an event is due that needs more places than are left. Own.
use Rattle.std.specs.Prelude.{◌≡◌, ℕ, ◌+◌, ◌<◌, ◌≤◌, true, List, [], ◌∷◌, ◌++◌, length, Some, None}
use Rattle.table_schema.specs.Plan.{Ports}
use Rattle.table_schema.specs.declared.key.Key.{Key}
use Rattle.table_schema.specs.declared.write.Sent.{Sent}
use Rattle.sai_types.specs.ChipState.{ChipState}
use Rattle.switch_model.specs.History.{History, log_size}
use Rattle.switch_model.specs.Marks.{Waiting}
use Rattle.switch_model.specs.Sound.{is_suspect}
use Rattle.switch_model.specs.declared.mark.Mark.{Mark}
use Rattle.switch_model.specs.declared.wait.Wait.{Wait}
use Rattle.switch_machine.specs.Events.{SwitchState}
use Rattle.warm_state.specs.declared.warm.Warm.TheVariants as warm
use Rattle.restart_laws.specs.Logged.{LoggedService, last_mark}
use Rattle.restart_laws.specs.Restored.{IsRestored}
use Rattle.round_laws.specs.Awaited.{AwaitsCall, AwaitsMark}
use Rattle.orch_core.specs.ComingBack.{restarts_at, restarts_marked}
use Rattle.swss_script.specs.Sent.{restarts_in, sent_in_round}
use Rattle.swss_script.specs.declared.parts.Round.{Round}
use Rattle.swss_run.specs.Rounds.{Ran}

-- in a run the chip was listed, and the rows can be restored so that these keys wait
pub record AwaitsRestore (plan : Ports) (capacities : List ℕ) (run : LoggedService) (waits : List (Key × Wait)) : Type 0 where
  pub warm : run.service.warm ≡ warm.Restored
  pub view : SwitchState
  pub restored : IsRestored plan 4 capacities run.service.core.written view
  pub lists : restored.waits ≡ waits

-- in a run no call of a plan is left, and the end of its apply is to be marked
pub record AwaitsEnd (run : LoggedService) : Type 0 where
  pub warm : run.service.warm ≡ warm.Applying
  pub none : run.service.left ≡ []

-- all acts of the round's sections were made: its writes were taken, and it restarted at least as often as they say
pub record AreActsMade (round : Round) (since : Ran) : Type 0 where
  pub sent : since.sent ≡ sent_in_round round
  pub restarts : restarts_in round.sections ≤ restarts_marked since.marks

-- the log of this run has so few places left: a write or a restart of the round is due; or all were made, and one of these is due in the run: the restart after a fault, the list of the chip after a restart or any mark of a restore, which need 1; the mark of a restore that is known, which needs 1 and 1 for each key that it lists; a chip call, which needs 2; the mark of the end of an apply, which needs 1; or the mark of the settling, which needs 1 and 1 for each key that it lists
pub data IsFull (plan : Ports) (capacities : List ℕ) (limit : ℕ) (round : Round) (log : History) (chip : ChipState) (since : Ran) (run : LoggedService) : Type 0 where
  AtWrite : (next : Sent) (later : List Sent) → sent_in_round round ≡ since.sent ++ next ∷ later → limit < log_size log (length chip.effects) + 1 → IsFull plan capacities limit round log chip since run
  AtRestart : restarts_marked since.marks < restarts_in round.sections → limit < log_size log (length chip.effects) + 1 → IsFull plan capacities limit round log chip since run
  AtFault : AreActsMade round since → is_suspect log.marks ≡ true → limit < log_size log (length chip.effects) + 1 → IsFull plan capacities limit round log chip since run
  AtList : (last : Mark) → AreActsMade round since → last_mark None log.marks ≡ Some last → restarts_at last.event ≡ 1 → limit < log_size log (length chip.effects) + 1 → IsFull plan capacities limit round log chip since run
  AtRestoring : AreActsMade round since → run.service.warm ≡ warm.Restored → limit < log_size log (length chip.effects) + 1 → IsFull plan capacities limit round log chip since run
  AtRestore : (waits : List (Key × Wait)) → AreActsMade round since → AwaitsRestore plan capacities run waits → limit < log_size log (length chip.effects) + 1 + length waits → IsFull plan capacities limit round log chip since run
  AtCall : AreActsMade round since → AwaitsCall run → limit < log_size log (length chip.effects) + 2 → IsFull plan capacities limit round log chip since run
  AtApplyEnd : AreActsMade round since → AwaitsEnd run → limit < log_size log (length chip.effects) + 1 → IsFull plan capacities limit round log chip since run
  AtMark : (waits : Waiting) → AreActsMade round since → AwaitsMark plan capacities run waits → limit < log_size log (length chip.effects) + 1 + length waits → IsFull plan capacities limit round log chip since run

-- What a session is to record next: where the log is full, this is the event that found no places. Own.
use Rattle.std.specs.Prelude.{◌≡◌, ℕ, List}
use Rattle.table_schema.specs.Plan.{Ports}
use Rattle.table_schema.specs.declared.key.Key.{Key}
use Rattle.sai_types.specs.declared.body.Call.{Call}
use Rattle.sai_types.specs.declared.ids.Rid.{Rid}
use Rattle.sai_types.specs.Alike.{IsIn}
use Rattle.switch_model.specs.History.{History}
use Rattle.switch_model.specs.Marks.{AreInOrder, Waiting}
use Rattle.switch_machine.specs.Events.{IsQuiet}
use Rattle.switch_machine.specs.Written.{IsPopped}
use Rattle.machine_laws.specs.Logged.{AreListed, ListsKey}
use Rattle.restart_laws.specs.Logged.{LoggedService}
use Rattle.restart_laws.specs.Service.{IsDue}
use Rattle.warm_state.specs.declared.warm.Warm.TheVariants as warm
use Rattle.round_laws.specs.Sessions.{HasComeAbout}

-- a session that has come about by so many workers, with this log and these calls that took effect
pub record HasRecorded (workers : ℕ) (plan : Ports) (capacities : List ℕ) (log : History) (effects : List (Call Rid)) (s : LoggedService) : Type 0 where
  pub came : HasComeAbout workers plan capacities s
  pub log_is : s.log ≡ log
  pub effects_are : s.effects ≡ effects

-- in a session a call is due, for a worker or of the plan of an apply
pub record AwaitsCall (s : LoggedService) : Type 0 where
  pub call : Call Rid
  pub due : IsDue 4 s.service call

-- in a session no operation is under way, no write waits in the tables, and the keys to sync are these, each with its reason to wait and its applied row: the mark that lists them is due
pub record AwaitsMark (plan : Ports) (capacities : List ℕ) (s : LoggedService) (waits : Waiting) : Type 0 where
  pub warm : s.service.warm ≡ warm.Reconciled
  pub quiet : IsQuiet s.service.core
  pub popped : IsPopped s.service.core.written
  pub listed : AreListed plan 4 capacities s.service.core waits
  pub all : (k : Key) → IsIn k s.service.core.to_sync → ListsKey k waits
  pub only : (k : Key) → ListsKey k waits → IsIn k s.service.core.to_sync
  pub in_order : AreInOrder waits

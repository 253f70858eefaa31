-- the list of the keys that wait stands beside the session
use Rattle.std.proofs.Common.{◌≡◌, refl}
use Rattle.sai_types.specs.ChipState.{ChipState}
use Rattle.retry_list.specs.Reasons.{Reasons}
use Rattle.restart_laws.specs.Logged.{LoggedService}
use Rattle.session_laws.specs.Core.{CoreState}
use Rattle.session_laws.specs.Events.{MakesOne}
use Rattle.session_laws.specs.Standing.{IsSessionOf}

pub stands_with : (c : CoreState) (chip : ChipState) (s : LoggedService) (waiting : Reasons) → IsSessionOf c chip s → IsSessionOf (record c { waiting = waiting }) chip s
stands_with c chip s waiting is = record {
  plan = is.plan;
  capacities = is.capacities;
  clean = is.clean;
  warm_is = is.warm_is;
  written = is.written;
  to_sync = is.to_sync;
  objects = is.objects;
  made = is.made;
  log = is.log;
  effects = is.effects;
  listed = is.listed;
  to_sync_read = is.to_sync_read;
  waiting_read = is.waiting_read;
  working = λ w. let x = is.working w in record { stands = x.stands; rows = x.rows; tied = x.tied; no_view = x.no_view; no_plan = x.no_plan };
}

pub makes_with : (c c' : CoreState) (chip' : ChipState) (s : LoggedService) (waiting : Reasons) (x : MakesOne c s c' chip') → (y : MakesOne c s (record c' { waiting = waiting }) chip') × (y.later ≡ x.later)
makes_with c c' chip' s waiting x = (record { later = x.later; makes = x.makes; stands = stands_with c' chip' x.later waiting x.stands; plan = x.plan; capacities = x.capacities; limit = x.limit }, refl)

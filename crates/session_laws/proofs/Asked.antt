-- a session and its core stand for a chip still where one call or list more was asked of it
use Rattle.std.proofs.Common.{inl, inr, sym, subst}
use Rattle.sai_types.specs.ChipState.{ChipState, IsAskedOnce, asked}
use Rattle.restart_laws.specs.Logged.{LoggedService}
use Rattle.switch_machine.specs.Events.{SwitchState}
use Rattle.session_laws.specs.Core.{CoreState}
use Rattle.session_laws.specs.Service.Standing.{IsLogOf, IsServiceOf}
use Rattle.session_laws.specs.Standing.{IsSessionOf, IsWorking}

module _ (c : CoreState) (chip : ChipState) where
  working_asked : (s : SwitchState) → IsWorking c chip s → IsWorking c (asked chip) s
  working_asked s is = record { stands = is.stands; rows = is.rows; tied = is.tied; no_view = is.no_view; no_plan = is.no_plan }

  log_asked : (s : LoggedService) → IsLogOf c chip s → IsLogOf c (asked chip) s
  log_asked s is = record {
    plan = is.plan;
    capacities = is.capacities;
    clean = is.clean;
    warm_is = is.warm_is;
    holds = is.holds;
    numbers = is.numbers;
    ahead = is.ahead;
    objects = is.objects;
    made = is.made;
    log = is.log;
    effects = is.effects;
    listed = is.listed;
    read = is.read;
  }

  pub session_asked : (s : LoggedService) → IsSessionOf c chip s → IsSessionOf c (asked chip) s
  session_asked s is = record {
    plan = is.plan;
    capacities = is.capacities;
    clean = is.clean;
    warm_is = is.warm_is;
    written = is.written;
    to_sync = is.to_sync;
    objects = is.objects;
    made = is.made;
    log = is.log;
    effects = is.effects;
    listed = is.listed;
    to_sync_read = is.to_sync_read;
    waiting_read = is.waiting_read;
    working = λ at. working_asked s.service.core (is.working at);
  }

  pub service_asked : (s : LoggedService) → IsServiceOf c chip s → IsServiceOf c (asked chip) s
  service_asked s is = record {
    always = log_asked s is.always;
    working = λ at. ((is.working at).0, working_asked s.service.core (is.working at).1);
    restarted = is.restarted;
    seen = λ at. let x = is.seen at in record { bare = x.bare; listed = x.listed };
    applying = is.applying;
  }

  pub session_asked_once : (chip' : ChipState) (s : LoggedService) → IsAskedOnce chip chip' → IsSessionOf c chip s → IsSessionOf c chip' s
  session_asked_once chip' s (inl same) is = subst (λ z. IsSessionOf c z s) (sym same) is
  session_asked_once chip' s (inr more) is = subst (λ z. IsSessionOf c z s) (sym more) (session_asked s is)

  pub service_asked_once : (chip' : ChipState) (s : LoggedService) → IsAskedOnce chip chip' → IsServiceOf c chip s → IsServiceOf c chip' s
  service_asked_once chip' s (inl same) is = subst (λ z. IsServiceOf c z s) (sym same) is
  service_asked_once chip' s (inr more) is = subst (λ z. IsServiceOf c z s) (sym more) (service_asked s is)

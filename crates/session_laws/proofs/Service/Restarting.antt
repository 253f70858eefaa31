-- a restart is a step
use Rattle.std.proofs.Common.{length, None, refl, sym, ap}
use Rattle.std.proofs.lemmas.List.{append-nil}
use Rattle.sai_types.specs.ChipState.{ChipState}
use Rattle.switch_model.specs.History.{with_mark}
use Rattle.switch_model.specs.declared.mark.MarkEvent.TheVariants as event
use Rattle.warm_state.specs.declared.warm.Warm.TheVariants as warm
use Rattle.restart_laws.specs.Logged.{IsLoggedStep, LoggedService, OfService, mark_now}
use Rattle.restart_laws.specs.Service.{OfRestart, forgotten}
use Rattle.session_laws.specs.Core.{CoreState, mark_at}
use Rattle.session_laws.proofs.Faulting.{listed_same}
use Rattle.session_laws.specs.Service.Events.{MakesNext, restarted}
use Rattle.session_laws.specs.Service.Standing.{IsServiceOf}
use Rattle.session_laws.proofs.Service.Holding.{step-holds}
use Rattle.session_laws.proofs.Service.Marking.{mark-same}
use Rattle.session_laws.proofs.Service.Numbers.{step-numbers}
use Rattle.session_laws.proofs.Service.States.{initialized-applying, initialized-reconciled, initialized-restored}

module _ (c : CoreState) (chip : ChipState) (s : LoggedService) (is : IsServiceOf c chip s) where
  abbrev later : LoggedService
  later = record { service = record { warm = warm.Initialized; core = forgotten s.service.core; seen = s.service.seen; left = s.service.left }; log = with_mark s.log (mark_now s.log s.effects event.Restarted); effects = s.effects }

  makes : IsLoggedStep c.board.plan 4 c.sync.capacities s later
  makes = OfService None (OfRestart later.service (record { warm = refl; core = refl })) (sym (append-nil s.effects)) refl

  pub restart-next : MakesNext c s (restarted c (length chip.effects)) chip
  restart-next = record {
    later = later;
    makes = makes;
    plan = refl;
    capacities = refl;
    limit = refl;
    stands = record {
      always = record {
        plan = is.always.plan;
        capacities = is.always.capacities;
        clean = is.always.clean;
        warm_is = refl;
        holds = step-holds c.board.plan is.always.plan c.sync.capacities s later is.always.holds makes;
        numbers = step-numbers c.board.plan c.sync.capacities s later is.always.holds is.always.numbers makes;
        ahead = record { taken = is.always.ahead.taken; whole = is.always.ahead.whole };
        objects = is.always.objects;
        made = is.always.made;
        log = sym (mark-same c s is.always.log event.Restarted s.effects (length chip.effects) (ap length (sym is.always.effects)));
        effects = is.always.effects;
        listed = listed_same c.log.marks (mark_at c (length chip.effects) event.Restarted) c.listed refl is.always.listed;
        read = record { taken = is.always.read.taken; to_sync = λ k i. elim i [ ]; waiting = is.always.read.waiting };
      };
      working = λ at. absurd (initialized-reconciled at);
      restarted = λ at. record { board = refl; no_view = refl; no_plan = refl };
      seen = λ at. absurd (initialized-restored at);
      applying = λ at. absurd (initialized-applying at);
    };
  }

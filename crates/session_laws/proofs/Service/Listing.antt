-- a list of the chip is a step, and so is one that failed
use Rattle.std.proofs.Common.{◌≡◌, ◌∙◌, length, None, refl, sym, ap, subst, arith}
use Rattle.std.proofs.lemmas.List.{append-nil}
use Rattle.sai_types.specs.After.{next_id}
use Rattle.sai_types.specs.ChipState.{ChipState, asked, objects_of}
use Rattle.switch_model.specs.History.{History, listed_by, with_mark}
use Rattle.switch_model.specs.declared.mark.Mark.{Mark}
use Rattle.switch_model.specs.declared.mark.MarkEvent.{MarkEvent}
use Rattle.switch_model.specs.declared.mark.MarkEvent.TheVariants as event
use Rattle.switch_model.specs.Marks.{sent_writes}
use Rattle.warm_state.specs.declared.warm.Warm.TheVariants as warm
use Rattle.restart_laws.specs.Invariant.{Holds}
use Rattle.restart_laws.specs.Logged.{IsLoggedStep, LoggedService, OfService, mark_now}
use Rattle.restart_laws.specs.Service.{OfList, OfListFault}
use Rattle.syncd_core.specs.Synced.{SyncState, TakesList, with_listed}
use Rattle.syncd_core.specs.declared.answer.Listed.TheVariants as listed
use Rattle.session_laws.specs.Core.{CoreState, mark_at}
use Rattle.session_laws.proofs.Faulting.{IsFaultLog, listed_same}
use Rattle.session_laws.specs.Service.Events.{MakesNext}
use Rattle.session_laws.specs.Service.Standing.{IsServiceOf}
use Rattle.session_laws.proofs.Service.Holding.{step-holds}
use Rattle.session_laws.proofs.Service.Marking.{fault-adds, fault-marks, fault-read, fault-taken, mark-same}
use Rattle.session_laws.proofs.Service.Numbers.{step-numbers}
use Rattle.session_laws.proofs.Service.States.{restored-applying, restored-initialized, restored-reconciled, suspect-applying, suspect-initialized, suspect-reconciled, suspect-restored}

module _ (c : CoreState) (chip : ChipState) (s : LoggedService) (is : IsServiceOf c chip s) (at : c.warm ≡ warm.Initialized) where
  -- ---- it is there

  abbrev later : LoggedService
  later = record { service = record { warm = warm.Restored; core = s.service.core; seen = s.service.core.objects; left = s.service.left }; log = s.log; effects = s.effects }

  makes : IsLoggedStep c.board.plan 4 c.sync.capacities s later
  makes = OfService None (OfList later.service (record { before = is.always.warm_is ∙ at; warm = refl; core = refl; seen = refl })) (sym (append-nil s.effects)) refl

  listed_next : MakesNext c s (record c { sync = with_listed c.sync (objects_of chip.objects); warm = warm.Restored }) (asked chip)
  listed_next = let bare = is.restarted at in record {
    later = later;
    makes = makes;
    plan = refl;
    capacities = refl;
    limit = refl;
    stands = record {
      always = record {
        plan = is.always.plan;
        capacities = is.always.capacities;
        clean = is.always.clean;
        warm_is = refl;
        holds = step-holds c.board.plan is.always.plan c.sync.capacities s later is.always.holds makes;
        numbers = step-numbers c.board.plan c.sync.capacities s later is.always.holds is.always.numbers makes;
        ahead = is.always.ahead;
        objects = is.always.objects;
        made = is.always.made;
        log = is.always.log;
        effects = is.always.effects;
        listed = is.always.listed;
        read = record { taken = is.always.read.taken; to_sync = is.always.read.to_sync; waiting = is.always.read.waiting };
      };
      working = λ h. absurd (restored-reconciled h);
      restarted = λ h. absurd (restored-initialized h);
      seen = λ _. record { bare = record { board = bare.board; no_view = bare.no_view; no_plan = bare.no_plan }; listed = refl };
      applying = λ h. absurd (restored-applying h);
    };
  }

  pub list-next : (y : SyncState) (chip' : ChipState) → TakesList c.sync chip listed.Done y chip' → MakesNext c s (record c { sync = y; warm = warm.Restored }) chip'
  list-next y chip' (is_y, same) =
      subst (λ z. MakesNext c s (record c { sync = z; warm = warm.Restored }) chip') (sym is_y)
      (subst (MakesNext c s (record c { sync = with_listed c.sync (objects_of chip.objects); warm = warm.Restored })) (sym same) listed_next)

  -- ---- it failed

  module _ (y : SyncState) (chip' : ChipState) (failed : TakesList c.sync chip listed.Failed y chip') where
    abbrev fault : MarkEvent
    fault = event.Faulted chip.faults chip'.faults

    abbrev mark : Mark
    mark = mark_at c (length chip'.effects) fault

    module _ (log : History) (form : IsFaultLog c.log mark log) where
      abbrev suspect : LoggedService
      suspect = record { service = record { warm = warm.Suspect; core = s.service.core; seen = s.service.seen; left = s.service.left }; log = log; effects = s.effects }

      effects_are : length chip'.effects ≡ length s.effects
      effects_are = ap length (failed.1.same.effects ∙ sym is.always.effects)

      faults : IsLoggedStep c.board.plan 4 c.sync.capacities s suspect
      faults = OfService None (OfListFault suspect.service (record { before = is.always.warm_is ∙ at; warm = refl; core = refl })) (sym (append-nil s.effects)) (chip.faults, chip'.faults, omega (arith, failed.1.answer.1), fault-adds c.log mark log (with_mark s.log (mark_now s.log s.effects fault)) form (mark-same c s is.always.log fault s.effects (length chip'.effects) effects_are))

      pub list-fails : MakesNext c s (record c { sync = y; log = log; warm = warm.Suspect }) chip'
      list-fails = record {
        later = suspect;
        makes = faults;
        plan = refl;
        capacities = ap (λ (z : SyncState). z.capacities) failed.0;
        limit = refl;
        stands = record {
          always = record {
            plan = is.always.plan;
            capacities = failed.1.capacities ∙ is.always.capacities ∙ ap (λ (z : SyncState). z.capacities) (sym failed.0);
            clean = failed.1.clean ∙ is.always.clean;
            warm_is = refl;
            holds = subst (λ (z : SyncState). Holds c.board.plan 4 z.capacities suspect.service) (sym failed.0) (step-holds c.board.plan is.always.plan c.sync.capacities s suspect is.always.holds faults);
            numbers = step-numbers c.board.plan c.sync.capacities s suspect is.always.holds is.always.numbers faults;
            ahead = record { taken = ap sent_writes (fault-taken c.log mark log form) ∙ is.always.ahead.taken; whole = is.always.ahead.whole };
            objects = is.always.objects ∙ sym failed.1.same.objects;
            made = ap next_id failed.1.same.effects ∙ is.always.made;
            log = refl;
            effects = is.always.effects ∙ sym failed.1.same.effects;
            listed = listed_same c.log.marks mark c.listed refl is.always.listed ∙ ap listed_by (sym (fault-marks c.log mark log form));
            read = record {
              to_sync = is.always.read.to_sync;
              taken = fault-read c.log mark log form is.always.read.taken;
              waiting = is.always.read.waiting;
            };
          };
          working = λ h. absurd (suspect-reconciled h);
          restarted = λ h. absurd (suspect-initialized h);
          seen = λ h. absurd (suspect-restored h);
          applying = λ h. absurd (suspect-applying h);
        };
      }

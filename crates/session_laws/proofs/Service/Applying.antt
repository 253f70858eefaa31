-- a call of a plan is a step, and so is one that failed
use Rattle.std.proofs.Common.{◌≡◌, ◌⊎◌, ◌<◌, ◌+◌, ◌&&◌, ◌∷◌, ◌++◌, ◌∙◌, inl, inr, true, not, List, [], length, Option, None, Some, is_some, refl, sym, ap, subst}
use Rattle.std.proofs.lemmas.List.{append-nil}
use Rattle.sai_types.specs.declared.answer.ChipAnswer.{ChipAnswer}
use Rattle.sai_types.specs.declared.body.Call.{Call}
use Rattle.sai_types.specs.declared.ids.Rid.{Rid}
use Rattle.sai_types.specs.declared.plan.PlanCall.{PlanCall}
use Rattle.sai_types.specs.After.{after_call, next_id}
use Rattle.sai_types.specs.ChipState.{ChipState, IsAnswered, StaysSame, TakesEffect}
use Rattle.sai_types.specs.Made.{made_after}
use Rattle.sai_types.specs.Refusal.{IsLegal, is_legal}
use Rattle.switch_model.specs.History.{History, listed_by, with_mark}
use Rattle.switch_model.specs.Marks.{sent_writes}
use Rattle.switch_model.specs.declared.mark.Mark.{Mark}
use Rattle.switch_model.specs.declared.mark.MarkEvent.{MarkEvent}
use Rattle.switch_model.specs.declared.mark.MarkEvent.TheVariants as event
use Rattle.switch_machine.specs.Events.{SwitchState, with_made_call}
use Rattle.warm_state.specs.declared.warm.Warm.TheVariants as warm
use Rattle.restart_laws.specs.Logged.{IsLoggedStep, LoggedService, OfService, mark_now}
use Rattle.restart_laws.specs.Service.{HasFailed, OfApply, OfFault, OfPlan}
use Rattle.restart_laws.proofs.Holding.{due-legal}
use Rattle.asic_view.specs.View.{ViewObjects}
use Rattle.syncd_core.specs.Run.{tied_calls, view_by}
use Rattle.syncd_core.specs.Synced.{CanApply, applied}
use Rattle.session_laws.specs.Core.{CoreState, mark_at}
use Rattle.session_laws.proofs.Called.{next_made}
use Rattle.session_laws.proofs.Faulting.{IsFaultLog, listed_same}
use Rattle.session_laws.specs.Service.Events.{MakesNext}
use Rattle.session_laws.specs.Service.Standing.{IsApplyingCore, IsServiceOf}
use Rattle.session_laws.proofs.Service.Calls.{call_by, left-next, underway-next}
use Rattle.session_laws.proofs.Service.Holding.{step-holds}
use Rattle.session_laws.proofs.Service.Marking.{fault-adds, fault-marks, fault-read, fault-taken, mark-same}
use Rattle.session_laws.proofs.Service.Numbers.{step-numbers}
use Rattle.session_laws.proofs.Service.States.{applying-initialized, applying-reconciled, applying-restored, not-in, suspect-applying, suspect-initialized, suspect-reconciled, suspect-restored}

module _ (c : CoreState) (chip : ChipState) (s : LoggedService) (is : IsServiceOf c chip s) (at : c.warm ≡ warm.Applying) (call : PlanCall) (cs : List PlanCall) (has : c.sync.left ≡ call ∷ cs) where
  abbrev core : SwitchState
  core = s.service.core

  abbrev its : IsApplyingCore c s.service
  its = (is.applying at).1

  abbrev d : Call Rid
  d = call_by c.sync.view call

  abbrev view_then : ViewObjects
  view_then = view_by core.made c.sync.view call

  abbrev left_then : List (Call Rid)
  left_then = tied_calls (made_after core.made d) view_then cs

  next : s.service.left ≡ d ∷ left_then
  next = left-next c.sync core.made core.objects s.service.left its.things its.underway call cs has

  legal : IsLegal chip.capacities chip.objects d
  legal =
      subst (λ o. IsLegal chip.capacities o d) is.always.objects
      (subst (λ l. IsLegal l core.objects d) (sym is.always.capacities)
      (due-legal c.board.plan is.always.plan 4 c.sync.capacities s.service d is.always.holds (OfPlan left_then (is.always.warm_is ∙ at) next)).0)

  pub can-apply : CanApply c.sync.left c.sync.view chip
  can-apply = subst (λ l. CanApply l c.sync.view chip) (sym has) legal

  module _ (said : ChipAnswer) (chip' : ChipState) (answered : IsAnswered chip d said chip') where
    capacities_then : chip'.capacities ≡ c.sync.capacities
    capacities_then = answered.capacities ∙ is.always.capacities

    clean_then : chip'.clean ≡ true
    clean_then = answered.clean ∙ ap (λ b. b && is_legal chip.capacities chip.objects d) is.always.clean ∙ ap (λ o. not (is_some o)) legal

    module _ (effect : TakesEffect chip d chip') where
      objects_then : after_call (core.made + 1) core.objects d ≡ chip'.objects
      objects_then = ap (λ o. after_call (core.made + 1) o d) is.always.objects ∙ ap (λ n. after_call n chip.objects d) (sym is.always.made) ∙ sym effect.objects

      made_then : next_id chip'.effects ≡ made_after core.made d + 1
      made_then = ap next_id effect.effects ∙ next_made chip.effects d core.made is.always.made

      effects_then : s.effects ++ with_made_call (Some d) [] ≡ chip'.effects
      effects_then = ap (λ l. l ++ d ∷ []) is.always.effects ∙ sym effect.effects

      -- ---- it took effect

      abbrev applied_core : SwitchState
      applied_core = record { machine = core.machine; written = core.written; to_sync = core.to_sync; made = made_after core.made d; objects = after_call (core.made + 1) core.objects d }

      abbrev later : LoggedService
      later = record { service = record { warm = warm.Applying; core = applied_core; seen = s.service.seen; left = left_then }; log = s.log; effects = s.effects ++ with_made_call (Some d) [] }

      makes : IsLoggedStep c.board.plan 4 c.sync.capacities s later
      makes = OfService (Some d) (OfApply d later.service (record { before = is.always.warm_is ∙ at; warm = refl; next = next; machine = refl; written = refl; to_sync = refl; made = refl; objects = refl })) refl refl

      pub applied-next : MakesNext c s (record c { sync = applied c.sync view_then cs }) chip'
      applied-next = record {
        later = later;
        makes = makes;
        plan = refl;
        capacities = refl;
        limit = refl;
        stands = record {
          always = record {
            plan = is.always.plan;
            capacities = capacities_then;
            clean = clean_then;
            warm_is = sym at;
            holds = step-holds c.board.plan is.always.plan c.sync.capacities s later is.always.holds makes;
            numbers = step-numbers c.board.plan c.sync.capacities s later is.always.holds is.always.numbers makes;
            ahead = is.always.ahead;
            objects = objects_then;
            made = made_then;
            log = is.always.log;
            effects = effects_then;
            listed = is.always.listed;
            read = record { taken = is.always.read.taken; to_sync = is.always.read.to_sync; waiting = is.always.read.waiting };
          };
          working = not-in warm.Applying warm.Reconciled c.warm at applying-reconciled;
          restarted = not-in warm.Applying warm.Initialized c.warm at applying-initialized;
          seen = not-in warm.Applying warm.Restored c.warm at applying-restored;
          applying = λ _. (
            record { written = (is.applying at).0.written; to_sync = (is.applying at).0.to_sync },
            record {
              rid = its.rid;
              made = its.made;
              objects = its.objects;
              stands = its.stands;
              rows = its.rows;
              things = its.things;
              into = its.into;
              back = its.back;
              same = its.same;
              no_view = its.no_view;
              underway = underway-next c.sync core.made core.objects s.service.left its.things its.underway call cs has;
            },
          );
        };
      }

    -- ---- it failed

    module _ (view' : ViewObjects) (left' : List PlanCall) (more : chip.faults < chip'.faults) where
      abbrev fault : MarkEvent
      fault = event.Faulted chip.faults chip'.faults

      abbrev mark : Mark
      mark = mark_at c (length chip'.effects) fault

      module _ (log : History) (form : IsFaultLog c.log mark log) (effect : Option (Call Rid)) (then : SwitchState) (written : then.written ≡ core.written) (failed : HasFailed d core effect then) (objects : then.objects ≡ chip'.objects) (made : next_id chip'.effects ≡ then.made + 1) (effects : s.effects ++ with_made_call effect [] ≡ chip'.effects) where
        abbrev suspect : LoggedService
        suspect = record { service = record { warm = warm.Suspect; core = then; seen = s.service.seen; left = s.service.left }; log = log; effects = s.effects ++ with_made_call effect [] }

        faults : IsLoggedStep c.board.plan 4 c.sync.capacities s suspect
        faults = OfService effect (OfFault effect suspect.service (record { call = d; due = OfPlan left_then (is.always.warm_is ∙ at) next; warm = refl; written = written; chip = failed })) refl (chip.faults, chip'.faults, more, fault-adds c.log mark log (with_mark s.log (mark_now s.log (s.effects ++ with_made_call effect []) fault)) form (mark-same c s is.always.log fault (s.effects ++ with_made_call effect []) (length chip'.effects) (ap length (sym effects))))

        fails : MakesNext c s (record c { sync = applied c.sync view' left'; log = log; warm = warm.Suspect }) chip'
        fails = record {
          later = suspect;
          makes = faults;
          plan = refl;
          capacities = refl;
          limit = refl;
          stands = record {
            always = record {
              plan = is.always.plan;
              capacities = capacities_then;
              clean = clean_then;
              warm_is = refl;
              holds = step-holds c.board.plan is.always.plan c.sync.capacities s suspect is.always.holds faults;
              numbers = step-numbers c.board.plan c.sync.capacities s suspect is.always.holds is.always.numbers faults;
              ahead = record {
                taken = ap sent_writes (fault-taken c.log mark log form) ∙ is.always.ahead.taken ∙ sym (ap (λ (z : _). z.taken) written);
                whole = λ k. is.always.ahead.whole k ∙ sym (ap (λ (z : _). z.waiting k (z.rows k)) written);
              };
              objects = objects;
              made = made;
              log = refl;
              effects = effects;
              listed = listed_same c.log.marks mark c.listed refl is.always.listed ∙ ap listed_by (sym (fault-marks c.log mark log form));
              read = record { taken = fault-read c.log mark log form is.always.read.taken; to_sync = is.always.read.to_sync; waiting = is.always.read.waiting };
            };
            working = λ h. absurd (suspect-reconciled h);
            restarted = λ h. absurd (suspect-initialized h);
            seen = λ h. absurd (suspect-restored h);
            applying = λ h. absurd (suspect-applying h);
          };
        }

      pub apply-fails : (log : History) → IsFaultLog c.log mark log → StaysSame chip chip' ⊎ TakesEffect chip d chip' → MakesNext c s (record c { sync = applied c.sync view' left'; log = log; warm = warm.Suspect }) chip'
      apply-fails log form (inl same) =
          fails log form None core refl (refl, refl) (is.always.objects ∙ sym same.objects) (ap next_id same.effects ∙ is.always.made) (append-nil s.effects ∙ is.always.effects ∙ sym same.effects)
      apply-fails log form (inr effect) =
          fails log form (Some d) (record { machine = core.machine; written = core.written; to_sync = core.to_sync; made = made_after core.made d; objects = after_call (core.made + 1) core.objects d }) refl (refl, refl, refl)
          (objects_then effect) (made_then effect) (effects_then effect)

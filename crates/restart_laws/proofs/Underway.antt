-- the apply that is under way, and what the chip shows after its calls
use Rattle.std.proofs.Common.{◌≡◌, ◌⊎◌, ◌+◌, ◌≤◌, ◌∷◌, ◌++◌, ◌∙◌, ℕ, List, [], length, take, Option, None, Some, refl, sym, ap, arith}
use Rattle.std.proofs.Math.Seq.{take-length}
use Rattle.std.proofs.lemmas.List.{append-nil, append_assoc, length-append, take-append-le}
use Rattle.table_schema.specs.Plan.{IsPlan, Ports}
use Rattle.sai_types.specs.declared.ids.Rid.{Rid}
use Rattle.sai_types.specs.declared.body.Call.{Call}
use Rattle.sai_types.specs.declared.plan.Mode.{Mode}
use Rattle.sai_types.specs.declared.plan.Mode.TheVariants as mode
use Rattle.sai_types.specs.declared.thing.Thing.{Thing}
use Rattle.sai_types.specs.After.{after_calls, chip_after}
use Rattle.sai_types.specs.Alike.{IsIn}
use Rattle.sai_types.specs.Made.{made_after_all}
use Rattle.sai_types.specs.Names.{name_of}
use Rattle.switch_model.specs.History.{History}
use Rattle.switch_model.specs.Marks.{sent_writes}
use Rattle.switch_model.specs.declared.mark.Mark.{Mark}
use Rattle.switch_model.specs.declared.mark.MarkEvent.TheVariants as event
use Rattle.switch_machine.specs.Events.{IsQuiet, IsSafe, with_made_call}
use Rattle.machine_laws.proofs.Staying.{chip_after-all, chip_after-front}
use Rattle.plan_laws.specs.Applied.{chip_things}
use Rattle.plan_laws.specs.Steady.{IsForwarding}
use Rattle.plan_laws.proofs.Applied.{hitless-origin}
use Rattle.plan_laws.proofs.Routes.{cold-origin}
use Rattle.plan_laws.proofs.Running.{after-append}
use Rattle.warm_state.specs.declared.warm.Warm.TheVariants.{Initialized, Restored, Applying, Reconciled, Suspect}
use Rattle.restart_laws.specs.Invariant.{Holds}
use Rattle.restart_laws.specs.Logged.{IsLoggedStep, LoggedService, OfMachine, OfService, Records, last_mark, mark_now}
use Rattle.restart_laws.specs.Planned.{IsPlannedAs}
use Rattle.restart_laws.specs.Restored.{only_things, waiting_of}
use Rattle.restart_laws.specs.Service.{IsServiceEvent, OfApply, OfFault, OfFinish, OfList, OfListFault, OfRestart, OfRestore, OfTake, OfWork, Restores, Service}
use Rattle.restart_laws.proofs.Ended.{apart}
use Rattle.restart_laws.proofs.Holding.{planned-from, view_fits}
use Rattle.restart_laws.proofs.Leading.{applies-cold, applies-hitless}
use Rattle.restart_laws.proofs.Logged.{IsToldLog}
use Rattle.restart_laws.proofs.Marking.{last-more}
use Rattle.restart_laws.proofs.Passing.{restored-keeps}
use Rattle.restart_laws.proofs.Viewing.{thing-planned, view-is}

module _ (plan : Ports) (is : IsPlan plan) (workers : ℕ) (capacities : List ℕ) where
  -- the effects before an apply and those of it so far, which are the first calls of its plan
  pub record IsUnderWay (s : LoggedService) : Type 0 where
    pub first : Service
    pub began : Service
    pub restores : Restores plan workers capacities first began
    pub holds : Holds plan workers capacities first
    pub before : List (Call Rid)
    pub done : List (Call Rid)
    pub effects : s.effects ≡ before ++ done
    pub all : began.left ≡ done ++ s.service.left
    pub objects : first.core.objects ≡ after_calls 0 [] before
    pub made : first.core.made ≡ made_after_all 0 before
    pub machine : s.service.core.machine ≡ restores.view.machine
    pub mark : Mark
    pub last : last_mark None s.log.marks ≡ Some mark
    pub event_is : mark.event ≡ event.ApplyBegan restores.mode (waiting_of restores.restored.waits)
    pub number : mark.effects ≡ length before
    pub least : mark.taken ≤ length s.log.taken
    pub taken : sent_writes (take mark.taken s.log.taken) ≡ first.core.written.taken

  -- ---- with each event

  under_service : (s t : LoggedService) (c : Option (Call Rid)) (e : IsServiceEvent plan workers capacities s.service c t.service) → IsToldLog plan is workers capacities s → (s.service.warm ≡ Applying → IsUnderWay s) → t.effects ≡ s.effects ++ with_made_call c [] → Records s t e → t.service.warm ≡ Applying → IsUnderWay t
  under_service s t _ (OfTake _ x) told under effects (sent, same, log) at =
      let u = under (sym x.warm ∙ at) in
      record {
        first = u.first;
        began = u.began;
        restores = u.restores;
        holds = u.holds;
        before = u.before;
        done = u.done;
        effects = effects ∙ append-nil s.effects ∙ u.effects;
        all = u.all ∙ ap (λ z. u.done ++ z) (sym x.left);
        objects = u.objects;
        made = u.made;
        machine = x.core.machine ∙ u.machine;
        mark = u.mark;
        last = ap (λ (z : History). last_mark None z.marks) log ∙ u.last;
        event_is = u.event_is;
        number = u.number;
        least = omega (arith, u.least, ap (λ (z : History). length z.taken) log, length-append s.log.taken (sent ∷ []));
        taken = ap (λ (z : History). sent_writes (take u.mark.taken z.taken)) log ∙ ap sent_writes (take-append-le u.mark.taken s.log.taken (sent ∷ []) u.least) ∙ u.taken;
      }
  under_service s t c (OfWork _ _ x) told under effects records at = absurd records
  under_service s t c (OfFault _ _ x) told under effects records at = apart Suspect Applying (sym x.warm ∙ at) (λ e. cc)
  under_service s t _ (OfListFault _ x) told under effects records at = apart Suspect Applying (sym x.warm ∙ at) (λ e. cc)
  under_service s t _ (OfRestart _ x) told under effects records at = apart Initialized Applying (sym x.warm ∙ at) (λ e. cc)
  under_service s t _ (OfList _ x) told under effects records at = apart Restored Applying (sym x.warm ∙ at) (λ e. cc)
  under_service s t _ (OfRestore _ x) told under effects records at = record {
    first = s.service;
    began = t.service;
    restores = x;
    holds = told.holds;
    before = s.effects;
    done = [];
    effects = effects;
    all = refl;
    objects = told.tells.objects;
    made = told.tells.made;
    machine = x.machine;
    mark = mark_now s.log t.effects (event.ApplyBegan x.mode (waiting_of x.restored.waits));
    last = ap (λ (z : History). last_mark None z.marks) records ∙ last-more None s.log.marks (mark_now s.log t.effects (event.ApplyBegan x.mode (waiting_of x.restored.waits)));
    event_is = refl;
    number = ap length (effects ∙ append-nil s.effects);
    least = omega (arith, ap (λ (z : History). length z.taken) records);
    taken = ap (λ (z : History). sent_writes (take (length s.log.taken) z.taken)) records ∙ ap sent_writes (take-length s.log.taken) ∙ sym told.tells.taken;
  }
  under_service s t _ (OfApply call _ x) told under effects records at =
      let u = under x.before in
      record {
        first = u.first;
        began = u.began;
        restores = u.restores;
        holds = u.holds;
        before = u.before;
        done = u.done ++ call ∷ [];
        effects = effects ∙ ap (λ z. z ++ call ∷ []) u.effects ∙ append_assoc u.before u.done (call ∷ []);
        all = u.all ∙ ap (λ z. u.done ++ z) x.next ∙ sym (append_assoc u.done (call ∷ []) t.service.left);
        objects = u.objects;
        made = u.made;
        machine = x.machine ∙ u.machine;
        mark = u.mark;
        last = ap (λ (z : History). last_mark None z.marks) records ∙ u.last;
        event_is = u.event_is;
        number = u.number;
        least = omega (arith, u.least, ap (λ (z : History). length z.taken) records);
        taken = ap (λ (z : History). sent_writes (take u.mark.taken z.taken)) records ∙ u.taken;
      }
  under_service s t _ (OfFinish _ x) told under effects records at = apart Reconciled Applying (sym x.warm ∙ at) (λ e. cc)

  pub under-step : (s t : LoggedService) → IsToldLog plan is workers capacities s → (s.service.warm ≡ Applying → IsUnderWay s) → IsLoggedStep plan workers capacities s t → t.service.warm ≡ Applying → IsUnderWay t
  under-step s t told under (OfMachine before after e) at = apart Reconciled Applying (sym after ∙ at) (λ e. cc)
  under-step s t told under (OfService c e effects records) at = under_service s t c e told under effects records at

  -- ---- what the chip is

  pub chip-at : (s : LoggedService) (u : IsUnderWay s) (xs ys : List (Call Rid)) → u.done ≡ xs ++ ys → chip_after s.effects (length u.before + length xs) ≡ after_calls u.first.core.made u.first.core.objects xs
  chip-at s u xs ys part =
      ap (λ z. chip_after z (length u.before + length xs)) (u.effects ∙ ap (λ z. u.before ++ z) part ∙ sym (append_assoc u.before xs ys))
      ∙ chip_after-front (u.before ++ xs) ys (length u.before + length xs) (omega (arith, length-append u.before xs))
      ∙ ap (chip_after (u.before ++ xs)) (sym (length-append u.before xs))
      ∙ chip_after-all (u.before ++ xs)
      ∙ after-append 0 [] u.before xs
      ∙ ap (λ z. after_calls z (after_calls 0 [] u.before) xs) (sym u.made)
      ∙ ap (λ z. after_calls u.first.core.made z xs) (sym u.objects)

  -- ---- what it shows

  module _ (s t : Service) (h : Holds plan workers capacities s) (x : Restores plan workers capacities s t) where
    abbrev new : List Thing
    new = only_things x.view.machine.stands

    kept : IsSafe plan workers capacities x.view × IsQuiet x.view
    kept = restored-keeps plan is workers capacities s.core.written x.view h.safe.told h.safe.dated x.restored

    -- as far as packets go by it, it was there, or the view has it
    pub plan-origin : (xs ys : List (Call Rid)) → t.left ≡ xs ++ ys → (u : Thing) → IsForwarding (name_of u) → IsIn u (chip_things (after_calls s.core.made s.core.objects xs)) → IsIn u (chip_things s.core.objects) ⊎ IsIn u new
    plan-origin xs ys part u fw i = by x.mode (planned-from plan is workers capacities s t h x)
      where
        by : (m : Mode) → IsPlannedAs m capacities s.core.made s.core.objects new t.left → IsIn u (chip_things s.core.objects) ⊎ IsIn u new
        by mode.Hitless p = hitless-origin (applies-hitless plan is h.safe.chip new (thing-planned plan is workers capacities x.view kept.0 kept.1) (view-is plan is workers capacities x.view kept.0 kept.1) t.left p) xs ys part u fw i
        by mode.Cold p = cold-origin (applies-cold plan is h.safe.chip new (thing-planned plan is workers capacities x.view kept.0 kept.1) (view-is plan is workers capacities x.view kept.0 kept.1) t.left p (view_fits plan is workers capacities x.view p.makes kept.0 p.making)) xs ys (sym p.is ∙ part) u fw i

-- the calls of a plan that are left lead to the things of the applied rows; the end of an apply comes, and then they stand
use Rattle.std.proofs.Common.{◌≡◌, ◌⊎◌, ◌∷◌, ◌∙◌, inl, inr, ℕ, List, [], Option, None, refl, sym, subst}
use Rattle.table_schema.specs.Plan.{Ports, IsPlan}
use Rattle.sai_types.specs.declared.ids.Rid.{Rid}
use Rattle.sai_types.specs.declared.body.Call.{Call}
use Rattle.sai_types.specs.declared.thing.Thing.{Thing}
use Rattle.sai_types.specs.After.{after_calls}
use Rattle.sai_types.specs.Alike.{IsAlike}
use Rattle.sai_types.specs.Made.{made_after_all}
use Rattle.sai_types.specs.Objects.{Objects}
use Rattle.sai_types.proofs.Whole.{whole-after_calls}
use Rattle.switch_model.specs.Desired.{IsThingOf}
use Rattle.chip_layout.specs.Layout.{IsLaidOut, listed}
use Rattle.switch_machine.specs.Flights.{Machine}
use Rattle.switch_machine.specs.Events.{IsSafe, IsQuiet}
use Rattle.switch_machine.proofs.Runs.{alike-quiet}
use Rattle.machine_laws.proofs.Rows.{thing_same}
use Rattle.plan_laws.specs.Applied.{AppliesHitless}
use Rattle.sai_types.specs.declared.plan.Mode.TheVariants as mode
use Rattle.restart_laws.specs.Planned.{IsPlannedAs, PlansHitless}
use Rattle.switch_machine.proofs.Renaming.{kept-renamed}
use Rattle.restart_laws.specs.Invariant.{Holds, with_chip}
use Rattle.std.specs.Prelude.{take}
use Rattle.table_schema.specs.declared.key.Key.{Key}
use Rattle.table_schema.specs.declared.write.Sent.{Sent}
use Rattle.switch_model.specs.Good.{TypedRows}
use Rattle.switch_model.specs.Marks.{sent_writes}
use Rattle.switch_model.specs.Placed.{bare_rows}
use Rattle.switch_model.specs.Promises.{applied_at}
use Rattle.switch_model.specs.declared.mark.Mark.{Mark}
use Rattle.restart_laws.specs.Service.{OfApply, AreApplying, AreServiceEvents, OfFinish, Finishes, OfFault, OfListFault, IsDue, IsServiceEvent, OfList, OfFlight, OfPlan, OfRestart, Restarts, OfRestore, Restores, Service, OfTake, TakesIn, OfWork, service_after, by_ids}
use Rattle.warm_state.specs.declared.warm.Warm.TheVariants.{Applying, Initialized, Reconciled, Restored, Suspect}
use Rattle.warm_state.specs.declared.warm.Warm.{Warm}
use Rattle.restart_laws.specs.Restored.{only_things, waiting_of}
use Rattle.restart_laws.proofs.Begun.{same_rows}
use Rattle.restart_laws.proofs.Holding.{holds-run, holds-step, in_state, planned-from}
use Rattle.restart_laws.proofs.Leading.{applies-hitless}
use Rattle.restart_laws.proofs.Passing.{restored-keeps}
use Rattle.restart_laws.proofs.Viewing.{thing-planned, view-is}

module _ (plan : Ports) (is : IsPlan plan) (workers : ℕ) (capacities : List ℕ) (s : Service) (h : Holds plan workers capacities s) where
  -- the calls that are left lead to a chip that is alike to the things of the applied rows
  pub left-alike : s.warm ≡ Applying → IsAlike (after_calls s.core.made s.core.objects s.left) (IsThingOf plan (bare_rows s.core.machine.board.applied))
  left-alike at =
      let a = in_state plan is workers capacities s Applying h at in
      let made = made_after_all s.core.made s.left in
      let objects = after_calls s.core.made s.core.objects s.left in
      let whole = whole-after_calls capacities s.core.made s.core.objects s.left h.safe.chip.whole a.leads.legal in
      let kept = kept-renamed plan is workers capacities (with_chip s.core a.made a.objects) a.view a.leads.stands (record { into = λ u c h. a.leads.into u h; back = λ u c h. a.leads.back u h.0 h.1 }) made objects whole a.leads.laid in
      alike-quiet plan is workers capacities (record { machine = by_ids s.core.machine a.leads.stands; written = s.core.written; to_sync = s.core.to_sync; made = made; objects = objects }) kept a.quiet

  -- where no call is left the apply can end
  pub end-there : s.warm ≡ Applying → s.left ≡ [] → (t : Service) × Finishes s t
  end-there at none =
      let a = in_state plan is workers capacities s Applying h at in (
        record { warm = Reconciled; core = record { machine = by_ids s.core.machine a.leads.stands; written = s.core.written; to_sync = s.core.to_sync; made = s.core.made; objects = s.core.objects }; seen = s.seen; left = [] },
        record {
          before = at;
          warm = refl;
          none = none;
          stands = a.leads.stands;
          into = a.leads.into;
          back = a.leads.back;
          laid = subst (λ z. IsLaidOut (listed a.leads.stands) (after_calls s.core.made s.core.objects z)) none a.leads.laid;
          machine = refl;
          written = refl;
          to_sync = refl;
          made = refl;
          objects = refl;
        },
      )

  -- and then the chip is alike to the things of the applied rows
  pub ended-alike : s.warm ≡ Applying → s.left ≡ [] → IsAlike s.core.objects (IsThingOf plan (bare_rows s.core.machine.board.applied))
  ended-alike at none = subst (λ z. IsAlike (after_calls s.core.made s.core.objects z) (IsThingOf plan (bare_rows s.core.machine.board.applied))) none (left-alike at)

  -- each call of a hitless plan is steady
  module _ (t : Service) (x : Restores plan workers capacities s t) where
    abbrev new : List Thing
    new = only_things x.view.machine.stands

    kept : IsSafe plan workers capacities x.view × IsQuiet x.view
    kept = restored-keeps plan is workers capacities s.core.written x.view h.safe.told h.safe.dated x.restored

    pub hitless-planned : x.mode ≡ mode.Hitless → PlansHitless capacities s.core.made s.core.objects new t.left
    hitless-planned hitless = subst (λ m. IsPlannedAs m capacities s.core.made s.core.objects new t.left) hitless (planned-from plan is workers capacities s t h x)

    pub hitless-applies : (hitless : x.mode ≡ mode.Hitless) → AppliesHitless capacities s.core.made s.core.objects new (hitless-planned hitless).steps [] t.left
    hitless-applies hitless = applies-hitless plan is h.safe.chip new (thing-planned plan is workers capacities x.view kept.0 kept.1) (view-is plan is workers capacities x.view kept.0 kept.1) t.left (hitless-planned hitless)

-- ---- during an apply the machine is that of the view

pub apart : {X : Type 0} (w v : Warm) → w ≡ v → (w ≡ v → ⊥) → X
apart w v e no_way = absurd (no_way e)

pub applying-same : (plan : Ports) (workers : ℕ) (capacities : List ℕ) (s t : Service) (c : Option (Call Rid)) → s.warm ≡ Applying → t.warm ≡ Applying → IsServiceEvent plan workers capacities s c t → t.core.machine ≡ s.core.machine
applying-same plan workers capacities s t _ at later (OfTake _ x) = x.core.machine
applying-same plan workers capacities s t _ at later (OfWork c _ x) = apart Applying Reconciled (sym at ∙ x.before) (λ e. cc)
applying-same plan workers capacities s t _ at later (OfFault c _ x) = apart Applying Suspect (sym later ∙ x.warm) (λ e. cc)
applying-same plan workers capacities s t _ at later (OfListFault _ x) = apart Applying Suspect (sym later ∙ x.warm) (λ e. cc)
applying-same plan workers capacities s t _ at later (OfRestart _ x) = apart Applying Initialized (sym later ∙ x.warm) (λ e. cc)
applying-same plan workers capacities s t _ at later (OfList _ x) = apart Applying Initialized (sym at ∙ x.before) (λ e. cc)
applying-same plan workers capacities s t _ at later (OfRestore _ x) = apart Applying Restored (sym at ∙ x.before) (λ e. cc)
applying-same plan workers capacities s t _ at later (OfApply call _ x) = x.machine
applying-same plan workers capacities s t _ at later (OfFinish _ x) = apart Applying Reconciled (sym later ∙ x.warm) (λ e. cc)

pub applying-run : (plan : Ports) (workers : ℕ) (capacities : List ℕ) (s : Service) (es : List (Option (Call Rid) × Service)) → s.warm ≡ Applying → AreApplying es → AreServiceEvents plan workers capacities s es → (service_after s es).core.machine ≡ s.core.machine
applying-run plan workers capacities s [] at all run = refl
applying-run plan workers capacities s (e ∷ es) at all run = applying-run plan workers capacities e.1 es all.0 all.1 run.1 ∙ applying-same plan workers capacities s e.1 e.0 at all.0 run.0

-- while the core is suspect no call is made
pub suspect-silent : (plan : Ports) (workers : ℕ) (capacities : List ℕ) (s t : Service) (c : Option (Call Rid)) → s.warm ≡ Suspect → IsServiceEvent plan workers capacities s c t → (c ≡ None) × (TakesIn s t ⊎ Restarts s t)
suspect-silent plan workers capacities s t _ at (OfTake _ x) = (refl, inl x)
suspect-silent plan workers capacities s t _ at (OfWork c _ x) = apart Suspect Reconciled (sym at ∙ x.before) (λ e. cc)
suspect-silent plan workers capacities s t _ at (OfFault c _ x) = by x.due
  where
    by : IsDue workers s x.call → (c ≡ None) × (TakesIn s t ⊎ Restarts s t)
    by (OfFlight before y) = apart Suspect Reconciled (sym at ∙ before) (λ e. cc)
    by (OfPlan rest before y) = apart Suspect Applying (sym at ∙ before) (λ e. cc)
suspect-silent plan workers capacities s t _ at (OfListFault _ x) = apart Suspect Initialized (sym at ∙ x.before) (λ e. cc)
suspect-silent plan workers capacities s t _ at (OfRestart _ x) = (refl, inr x)
suspect-silent plan workers capacities s t _ at (OfList _ x) = apart Suspect Initialized (sym at ∙ x.before) (λ e. cc)
suspect-silent plan workers capacities s t _ at (OfRestore _ x) = apart Suspect Restored (sym at ∙ x.before) (λ e. cc)
suspect-silent plan workers capacities s t _ at (OfApply call _ x) = apart Suspect Applying (sym at ∙ x.before) (λ e. cc)
suspect-silent plan workers capacities s t _ at (OfFinish _ x) = apart Suspect Applying (sym at ∙ x.before) (λ e. cc)

-- the view of other rows that agree key by key
pub alike-rows : (plan : Ports) (objects : Objects) (rows other : TypedRows) → ((q : Key) → other q ≡ rows q) → IsAlike objects (IsThingOf plan rows) → IsAlike objects (IsThingOf plan other)
alike-rows plan objects rows other same x = record {
  each = λ t h. let y = x.each t h in (y.0, y.1, thing_same plan rows other (λ q. sym (same q)) y.0 y.2);
  once = λ t h. x.once t (thing_same plan other rows same t h);
}

-- at the end of an apply the chip is alike to the things of the rows that were applied at its beginning
pub ended-begun : (plan : Ports) (is : IsPlan plan) (workers : ℕ) (capacities : List ℕ) (s t u : Service) (x : Restores plan workers capacities s t) (es : List (Option (Call Rid) × Service)) (taken : List Sent) (mark : Mark) → Holds plan workers capacities s → AreApplying es → AreServiceEvents plan workers capacities t es → Finishes (service_after t es) u → sent_writes (take mark.taken taken) ≡ s.core.written.taken → IsAlike u.core.objects (IsThingOf plan (applied_at plan taken mark (waiting_of x.restored.waits)))
ended-begun plan is workers capacities s t u x es taken mark h all run end same =
    let first = holds-step plan is workers capacities s t None h (OfRestore t x) in
    let last = holds-run plan is workers capacities t es first run in
    let alike = ended-alike plan is workers capacities (service_after t es) last end.before end.none in
    let machine : (service_after t es).core.machine ≡ x.view.machine = applying-run plan workers capacities t es x.warm all run ∙ x.machine in
    alike-rows plan u.core.objects (bare_rows x.view.machine.board.applied) (applied_at plan taken mark (waiting_of x.restored.waits)) (same_rows plan is workers capacities s.core.written x.view h.safe.told h.safe.dated x.restored taken mark same)
    (subst (λ z. IsAlike z (IsThingOf plan (bare_rows x.view.machine.board.applied))) (sym end.objects)
    (subst (λ (z : Machine). IsAlike (service_after t es).core.objects (IsThingOf plan (bare_rows z.board.applied))) machine alike))

-- every event keeps what holds, and its effect is legal
use Rattle.std.proofs.Common.{◌≡◌, ◌+◌, ◌≤◌, ◌∷◌, ◌∙◌, inl, inr, ℕ, arith, length, List, [], Option, None, Some, refl, sym, ap, subst}
use Rattle.table_schema.specs.Plan.{Ports, IsPlan}
use Rattle.table_schema.specs.declared.key.Key.{Key}
use Rattle.sai_types.specs.declared.ids.Rid.{Rid}
use Rattle.sai_types.specs.declared.body.Call.{Call}
use Rattle.sai_types.specs.declared.thing.Thing.{Thing}
use Rattle.sai_types.specs.After.{after_call}
use Rattle.sai_types.specs.Alike.{IsIn}
use Rattle.sai_types.specs.Made.{AreLegal, made_after}
use Rattle.sai_types.specs.Objects.{Objects}
use Rattle.sai_types.specs.Refusal.{IsLegal, capacity_of}
use Rattle.switch_machine.specs.Events.{SwitchState, IsEvent, IsSafe, IsQuiet}
use Rattle.switch_machine.specs.Flights.{MachineFlight, Machine, StandsIn}
use Rattle.switch_machine.specs.Written.{HasWrittenRows, IsTold, Written}
use Rattle.switch_machine.proofs.Dated.{dated-taken}
use Rattle.switch_machine.proofs.Kept.{legal-call}
use Rattle.switch_machine.proofs.Runs.{kept-empty, kept-run}
use Rattle.plan_laws.specs.Plans.{PlanChange, IsViewPlan, cold_rank}
use Rattle.plan_laws.specs.Views.{made_names}
use Rattle.plan_laws.proofs.Rooms.{makes-lacking}
use Rattle.sai_types.specs.declared.plan.Mode.{Mode}
use Rattle.sai_types.specs.declared.plan.Mode.TheVariants as mode
use Rattle.restart_laws.specs.Planned.{IsPlannedAs}
use Rattle.switch_machine.proofs.Renaming.{kept-renamed}
use Rattle.switch_machine.proofs.Telling.{told-taken}
use Rattle.sai_types.specs.declared.kind.Kind.{Kind}
use Rattle.chip_layout.specs.Layout.{listed}
use Rattle.chip_layout.proofs.Counting.{at-most-used}
use Rattle.restart_laws.specs.Chips.{IsPlannedChip, IsPlannedCall}
use Rattle.restart_laws.specs.Invariant.{AllPlanned, Holds, HoldsIn, IsForgotten, HoldsAlways, Leads, with_chip}
use Rattle.restart_laws.specs.Service.{AppliesNext, AreServiceEvents, Finishes, CallFails, HasFailed, IsDue, OfFlight, OfPlan, IsServiceEvent, ListFails, ListsChip, Restarts, Restores, Service, TakesIn, Works, OfTake, OfWork, OfFault, OfListFault, OfRestart, OfList, OfRestore, OfApply, OfFinish, service_after, new_service, by_ids}
use Rattle.warm_state.specs.declared.warm.Warm.{Warm}
use Rattle.warm_state.specs.declared.warm.Warm.TheVariants.{Reconciled, Initialized, Restored, Applying, Suspect}
use Rattle.restart_laws.specs.Restored.{keys_waiting, only_things}
use Rattle.restart_laws.proofs.Chips.{chip-call, chip-empty}
use Rattle.restart_laws.proofs.Leading.{cold-leads, hitless-leads}
use Rattle.restart_laws.proofs.Passing.{restored-keeps}
use Rattle.restart_laws.proofs.Bodies.{due-planned}
use Rattle.restart_laws.proofs.Restoring.{restored-kept}
use Rattle.restart_laws.proofs.Viewing.{in-things, thing-planned, things-in, view-is}

abbrev core_of : Machine → Written → List Key → ℕ → Objects → SwitchState
core_of m w t n o = record { machine = m; written = w; to_sync = t; made = n; objects = o }

core_same : (a b : SwitchState) → a.machine ≡ b.machine → a.written ≡ b.written → a.to_sync ≡ b.to_sync → a.made ≡ b.made → a.objects ≡ b.objects → a ≡ b
core_same a b m w t n o =
    ap (λ z. core_of z a.written a.to_sync a.made a.objects) m
    ∙ ap (λ z. core_of b.machine z a.to_sync a.made a.objects) w
    ∙ ap (λ z. core_of b.machine b.written z a.made a.objects) t
    ∙ ap (λ z. core_of b.machine b.written b.to_sync z a.objects) n
    ∙ ap (λ z. core_of b.machine b.written b.to_sync b.made z) o

module _ (plan : Ports) (is : IsPlan plan) (workers : ℕ) (capacities : List ℕ) where
  abbrev H : Service → Type 0
  H = Holds plan workers capacities

  pub in_state : (s : Service) (w : Warm) → H s → s.warm ≡ w → HoldsIn plan workers capacities w s
  in_state s w h e = subst (λ z. HoldsIn plan workers capacities z s) e h.state

  pub to_state : (s : Service) (w : Warm) → s.warm ≡ w → HoldsAlways plan capacities s.core → HoldsIn plan workers capacities w s → H s
  to_state s w e safe h = record { safe = safe; state = subst (λ z. HoldsIn plan workers capacities z s) (sym e) h }

  -- ---- what holds of every chip

  same_safe : (s t : SwitchState) → HoldsAlways plan capacities s → IsTold t.written → HasWrittenRows t.written → t.made ≡ s.made → t.objects ≡ s.objects → HoldsAlways plan capacities t
  same_safe s t safe told dated made objects = record {
    chip = subst (λ z. IsPlannedChip plan capacities z t.objects) (sym made) (subst (IsPlannedChip plan capacities s.made) (sym objects) safe.chip);
    told = told;
    dated = dated;
  }

  called_safe : (s t : SwitchState) (call : Call Rid) → HoldsAlways plan capacities s → IsLegal capacities s.objects call → IsPlannedCall plan call → IsTold t.written → HasWrittenRows t.written → t.made ≡ made_after s.made call → t.objects ≡ after_call (s.made + 1) s.objects call → HoldsAlways plan capacities t
  called_safe s t call safe legal planned told dated made objects = record {
    chip = subst (λ z. IsPlannedChip plan capacities z t.objects) (sym made) (subst (IsPlannedChip plan capacities (made_after s.made call)) (sym objects) (chip-call plan capacities s.made s.objects safe.chip call legal planned));
    told = told;
    dated = dated;
  }

  same_told : (s t : Written) → t ≡ s → IsTold s → IsTold t
  same_told s t e h = subst IsTold (sym e) h

  same_dated : (s t : Written) → t ≡ s → HasWrittenRows s → HasWrittenRows t
  same_dated s t e h = subst HasWrittenRows (sym e) h

  -- ---- calls that are due, of an operation or of a plan

  pub due-legal : (s : Service) (call : Call Rid) → H s → IsDue workers s call → IsLegal capacities s.core.objects call × IsPlannedCall plan call
  due-legal s call h (OfFlight at x) = let kept = in_state s Reconciled h at in (legal-call plan is workers capacities s.core kept call x, due-planned plan is workers capacities s.core kept call x)
  due-legal s call h (OfPlan rest at next) =
      let a = in_state s Applying h at in
      ((subst (AreLegal capacities s.core.made s.core.objects) next a.leads.legal).0, (subst (AllPlanned plan) next a.leads.planned).0)

  -- ---- each event

  takes_by : (s t : Service) (w : Warm) → TakesIn s t → HoldsIn plan workers capacities w s → HoldsIn plan workers capacities w t
  takes_by s t Reconciled x h = kept-run plan is workers capacities s.core ((None, t.core) ∷ []) h (inl x.core, tt)
  takes_by s t Initialized x h = record { machine = x.core.machine ∙ h.machine; to_sync = x.core.to_sync ∙ h.to_sync }
  takes_by s t Restored x h = (record { machine = x.core.machine ∙ h.0.machine; to_sync = x.core.to_sync ∙ h.0.to_sync }, x.seen ∙ h.1 ∙ sym x.core.objects)
  takes_by s t Applying x h = record {
    made = h.made;
    objects = h.objects;
    view = kept-run plan is workers capacities (with_chip s.core h.made h.objects) ((None, with_chip t.core h.made h.objects) ∷ []) h.view
        (inl (record { write = x.core.write; taken = x.core.taken; machine = x.core.machine; to_sync = x.core.to_sync; made = refl; objects = refl }), tt);
    quiet = subst (λ (z : Machine). (w : ℕ) (f : MachineFlight) → z.board.flights w ≡ Some f → ⊥) (sym x.core.machine) h.quiet;
    leads =
        subst (λ z. Leads plan capacities t.core.made t.core.objects (StandsIn t.core.machine) z) (sym x.left)
        (subst (λ z. Leads plan capacities z t.core.objects (StandsIn t.core.machine) s.left) (sym x.core.made)
        (subst (λ z. Leads plan capacities s.core.made z (StandsIn t.core.machine) s.left) (sym x.core.objects)
        (subst (λ (z : Machine). Leads plan capacities s.core.made s.core.objects (StandsIn z) s.left) (sym x.core.machine) h.leads)));
  }
  takes_by s t Suspect x h = tt

  holds_takes : (s t : Service) → H s → TakesIn s t → H t
  holds_takes s t h x =
      to_state t s.warm x.warm (same_safe s.core t.core h.safe (λ k. told-taken x.core.write s.core.written t.core.written x.core.taken h.safe.told k) (dated-taken x.core.write s.core.written t.core.written x.core.taken h.safe.dated) x.core.made x.core.objects)
      (takes_by s t s.warm x h.state)

  event_safe : (s t : SwitchState) (c : Option (Call Rid)) → IsSafe plan workers capacities s → IsSafe plan workers capacities t → HoldsAlways plan capacities s → IsEvent plan workers capacities s c t → HoldsAlways plan capacities t
  event_safe s t None kept later safe (inl x) = same_safe s t safe later.told later.dated x.made x.objects
  event_safe s t None kept later safe (inr (inl x)) = same_safe s t safe later.told later.dated x.made x.objects
  event_safe s t None kept later safe (inr (inr (inl x))) = same_safe s t safe later.told later.dated x.made x.objects
  event_safe s t None kept later safe (inr (inr (inr x))) = same_safe s t safe later.told later.dated x.made x.objects
  event_safe s t (Some call) kept later safe x = called_safe s t call safe (legal-call plan is workers capacities s kept call x.next) (due-planned plan is workers capacities s kept call x.next) later.told later.dated x.made x.objects

  holds_works : (s t : Service) (c : Option (Call Rid)) → H s → Works plan workers capacities s c t → H t
  holds_works s t c h x =
      let kept = in_state s Reconciled h x.before in
      let later = kept-run plan is workers capacities s.core ((c, t.core) ∷ []) kept (x.event, tt) in
      to_state t Reconciled x.warm (event_safe s.core t.core c kept later h.safe x.event) later

  failed_safe : (s t : SwitchState) (call : Call Rid) (c : Option (Call Rid)) → HoldsAlways plan capacities s → IsLegal capacities s.objects call → IsPlannedCall plan call → IsTold t.written → HasWrittenRows t.written → HasFailed call s c t → HoldsAlways plan capacities t
  failed_safe s t call None safe legal planned told dated x = same_safe s t safe told dated x.0 x.1
  failed_safe s t call (Some c) safe legal planned told dated x = called_safe s t call safe legal planned told dated x.1 x.2

  holds_fails : (s t : Service) (c : Option (Call Rid)) → H s → CallFails workers s c t → H t
  holds_fails s t c h x =
      let due = due-legal s x.call h x.due in
      to_state t Suspect x.warm (failed_safe s.core t.core x.call c h.safe due.0 due.1 (same_told s.core.written t.core.written x.written h.safe.told) (same_dated s.core.written t.core.written x.written h.safe.dated) x.chip) tt

  holds_list_fails : (s t : Service) → H s → ListFails s t → H t
  holds_list_fails s t h x = to_state t Suspect x.warm (subst (HoldsAlways plan capacities) (sym x.core) h.safe) tt

  holds_restarts : (s t : Service) → H s → Restarts s t → H t
  holds_restarts s t h x =
      to_state t Initialized x.warm
      (subst (HoldsAlways plan capacities) (sym x.core) (record { chip = h.safe.chip; told = h.safe.told; dated = h.safe.dated }))
      (subst IsForgotten (sym x.core) (record { machine = refl; to_sync = refl }))

  holds_lists : (s t : Service) → H s → ListsChip s t → H t
  holds_lists s t h x =
      to_state t Restored x.warm (subst (HoldsAlways plan capacities) (sym x.core) h.safe)
      (subst IsForgotten (sym x.core) (in_state s Initialized h x.before), x.seen ∙ ap (λ (z : SwitchState). z.objects) (sym x.core))

  -- the view's things have room
  pub view_fits : (view : SwitchState) (makes : List PlanChange) → IsSafe plan workers capacities view → IsViewPlan cold_rank [] (only_things view.machine.stands) makes → (kind : Kind) → length (made_names kind makes) ≤ capacity_of capacities kind
  view_fits view makes kept second kind =
      let lacks = makes-lacking second kind in
      let most = at-most-used (listed view.machine.stands) view.objects kept.laid kind view.made kept.whole (made_names kind makes) lacks.distinct (λ k i. let x = lacks.each k i in let y = things-in view.machine.stands x.1 x.2 in (x.0, y.0, (x.1, y.1, x.3))) in
      let fits = kept.places kind in
      omega (arith, most, fits)

  -- the plan leads to the things of the view
  leads_by : (s : Service) (view : SwitchState) (m : Mode) (calls : List (Call Rid)) → HoldsAlways plan capacities s.core → IsSafe plan workers capacities view → IsQuiet view → IsPlannedAs m capacities s.core.made s.core.objects (only_things view.machine.stands) calls → Leads plan capacities s.core.made s.core.objects (λ t. IsIn t (only_things view.machine.stands)) calls
  leads_by s view mode.Hitless calls safe kept quiet x = hitless-leads plan is safe.chip (only_things view.machine.stands) (thing-planned plan is workers capacities view kept quiet) (view-is plan is workers capacities view kept quiet) calls x
  leads_by s view mode.Cold calls safe kept quiet x = cold-leads plan is safe.chip (only_things view.machine.stands) (thing-planned plan is workers capacities view kept quiet) (view-is plan is workers capacities view kept quiet) calls x (view_fits view x.makes kept x.making)

  -- what was listed is the chip
  pub planned-from : (s t : Service) → H s → (x : Restores plan workers capacities s t) → IsPlannedAs x.mode capacities s.core.made s.core.objects (only_things x.view.machine.stands) t.left
  planned-from s t h x = subst (λ z. IsPlannedAs x.mode capacities s.core.made z (only_things x.view.machine.stands) t.left) (in_state s Restored h x.before).1 x.planned

  stands_leads : (m : Machine) (made : ℕ) (objects : Objects) (calls : List (Call Rid)) → Leads plan capacities made objects (λ t. IsIn t (only_things m.stands)) calls → Leads plan capacities made objects (StandsIn m) calls
  stands_leads m made objects calls x = record {
    legal = x.legal;
    planned = x.planned;
    stands = x.stands;
    laid = x.laid;
    into = λ u h. x.into u (in-things m.stands h.0 u h.1);
    back = λ u i h. things-in m.stands u (x.back u i h);
  }

  holds_restores : (s t : Service) → H s → Restores plan workers capacities s t → H t
  holds_restores s t h x =
      let v = restored-keeps plan is workers capacities s.core.written x.view h.safe.told h.safe.dated x.restored in
      let leads = stands_leads x.view.machine s.core.made s.core.objects t.left (leads_by s x.view x.mode t.left h.safe v.0 v.1 (planned-from s t h x)) in
      to_state t Applying x.warm (same_safe s.core t.core h.safe (same_told x.view.written t.core.written x.written v.0.told) (same_dated x.view.written t.core.written x.written v.0.dated) x.made x.objects)
      (record {
        made = x.view.made;
        objects = x.view.objects;
        view = subst (IsSafe plan workers capacities) (core_same (core_of x.view.machine x.view.written (keys_waiting x.restored.waits) x.view.made x.view.objects) (with_chip t.core x.view.made x.view.objects) (sym x.machine) (sym x.written) (sym x.to_sync) refl refl) (restored-kept plan is workers capacities s.core.written x.view h.safe.told h.safe.dated x.restored);
        quiet = subst (λ (z : Machine). (w : ℕ) (f : MachineFlight) → z.board.flights w ≡ Some f → ⊥) (sym x.machine) v.1;
        leads =
            subst (λ z. Leads plan capacities z t.core.objects (StandsIn t.core.machine) t.left) (sym x.made)
            (subst (λ z. Leads plan capacities s.core.made z (StandsIn t.core.machine) t.left) (sym x.objects)
            (subst (λ (z : Machine). Leads plan capacities s.core.made s.core.objects (StandsIn z) t.left) (sym x.machine) leads));
      })

  leads_next : (made : ℕ) (objects : Objects) (view : Thing → Type 0) (c : Call Rid) (cs : List (Call Rid)) → Leads plan capacities made objects view (c ∷ cs) → Leads plan capacities (made_after made c) (after_call (made + 1) objects c) view cs
  leads_next made objects view c cs x = record { legal = x.legal.1; planned = x.planned.1; stands = x.stands; laid = x.laid; into = x.into; back = x.back }

  holds_applies : (s t : Service) (call : Call Rid) → H s → AppliesNext s call t → H t
  holds_applies s t call h x =
      let a = in_state s Applying h x.before in
      let due = due-legal s call h (OfPlan t.left x.before x.next) in
      let leads = leads_next s.core.made s.core.objects (StandsIn s.core.machine) call t.left (subst (Leads plan capacities s.core.made s.core.objects (StandsIn s.core.machine)) x.next a.leads) in
      to_state t Applying x.warm (called_safe s.core t.core call h.safe due.0 due.1 (same_told s.core.written t.core.written x.written h.safe.told) (same_dated s.core.written t.core.written x.written h.safe.dated) x.made x.objects)
      (record {
        made = a.made;
        objects = a.objects;
        view = subst (IsSafe plan workers capacities) (core_same (with_chip s.core a.made a.objects) (with_chip t.core a.made a.objects) (sym x.machine) (sym x.written) (sym x.to_sync) refl refl) a.view;
        quiet = subst (λ (z : Machine). (w : ℕ) (f : MachineFlight) → z.board.flights w ≡ Some f → ⊥) (sym x.machine) a.quiet;
        leads =
            subst (λ z. Leads plan capacities z t.core.objects (StandsIn t.core.machine) t.left) (sym x.made)
            (subst (λ z. Leads plan capacities (made_after s.core.made call) z (StandsIn t.core.machine) t.left) (sym x.objects)
            (subst (λ (z : Machine). Leads plan capacities (made_after s.core.made call) (after_call (s.core.made + 1) s.core.objects call) (StandsIn z) t.left) (sym x.machine) leads));
      })

  holds_ends : (s t : Service) → H s → Finishes s t → H t
  holds_ends s t h x =
      let a = in_state s Applying h x.before in
      let kept = kept-renamed plan is workers capacities (with_chip s.core a.made a.objects) a.view x.stands (record { into = λ u c h. x.into u h; back = λ u c h. x.back u h.0 h.1 }) s.core.made s.core.objects h.safe.chip.whole x.laid in
      to_state t Reconciled x.warm (same_safe s.core t.core h.safe (same_told s.core.written t.core.written x.written h.safe.told) (same_dated s.core.written t.core.written x.written h.safe.dated) x.made x.objects)
      (subst (IsSafe plan workers capacities) (core_same (core_of (by_ids s.core.machine x.stands) s.core.written s.core.to_sync s.core.made s.core.objects) t.core (sym x.machine) (sym x.written) (sym x.to_sync) (sym x.made) (sym x.objects)) kept)

  -- ---- all events

  pub holds-step : (s t : Service) (c : Option (Call Rid)) → H s → IsServiceEvent plan workers capacities s c t → H t
  holds-step s t _ h (OfTake _ x) = holds_takes s t h x
  holds-step s t _ h (OfWork c _ x) = holds_works s t c h x
  holds-step s t _ h (OfFault c _ x) = holds_fails s t c h x
  holds-step s t _ h (OfListFault _ x) = holds_list_fails s t h x
  holds-step s t _ h (OfRestart _ x) = holds_restarts s t h x
  holds-step s t _ h (OfList _ x) = holds_lists s t h x
  holds-step s t _ h (OfRestore _ x) = holds_restores s t h x
  holds-step s t _ h (OfApply call _ x) = holds_applies s t call h x
  holds-step s t _ h (OfFinish _ x) = holds_ends s t h x

  pub holds-run : (s : Service) (es : List (Option (Call Rid) × Service)) → H s → AreServiceEvents plan workers capacities s es → H (service_after s es)
  holds-run s [] h run = h
  holds-run s (e ∷ es) h run = holds-run e.1 es (holds-step s e.1 e.0 h run.0) run.1

  -- a session begins so
  pub holds-new : H new_service
  holds-new = let kept = kept-empty plan is workers capacities in record { safe = record { chip = chip-empty plan capacities; told = kept.told; dated = kept.dated }; state = kept }

-- each effect of a session is legal
use Rattle.std.proofs.Common.{◌≡◌, ◌+◌, ◌∷◌, ℕ, List, [], Option, None, Some, sym, ap, subst}
use Rattle.table_schema.specs.Plan.{Ports, IsPlan}
use Rattle.sai_types.specs.declared.ids.Rid.{Rid}
use Rattle.sai_types.specs.declared.body.Call.{Call}
use Rattle.sai_types.specs.After.{after_call}
use Rattle.sai_types.specs.Made.{AreLegal, made_after}
use Rattle.sai_types.specs.Refusal.{IsLegal}
use Rattle.switch_machine.specs.Events.{SwitchState, with_made_call}
use Rattle.restart_laws.specs.Invariant.{Holds}
use Rattle.restart_laws.specs.Service.{AreServiceEvents, HasFailed, OfPlan, IsServiceEvent, Service, OfTake, OfWork, OfFault, OfListFault, OfRestart, OfList, OfRestore, OfApply, OfFinish, effects_of, forgotten}
use Rattle.warm_state.specs.declared.warm.Warm.TheVariants.{Reconciled}
use Rattle.switch_machine.proofs.Runs.{legal_event}
use Rattle.restart_laws.proofs.Holding.{due-legal, holds-step, in_state}

module _ (plan : Ports) (is : IsPlan plan) (workers : ℕ) (capacities : List ℕ) where
  abbrev H : Service → Type 0
  H = Holds plan workers capacities

  same_legal : (s t : SwitchState) (calls : List (Call Rid)) → t.made ≡ s.made → t.objects ≡ s.objects → AreLegal capacities t.made t.objects calls → AreLegal capacities s.made s.objects calls
  same_legal s t calls made objects h = subst (λ z. AreLegal capacities z s.objects calls) made (subst (λ z. AreLegal capacities t.made z calls) objects h)

  called_legal : (s t : SwitchState) (call : Call Rid) (calls : List (Call Rid)) → IsLegal capacities s.objects call → t.made ≡ made_after s.made call → t.objects ≡ after_call (s.made + 1) s.objects call → AreLegal capacities t.made t.objects calls → AreLegal capacities s.made s.objects (call ∷ calls)
  called_legal s t call calls legal made objects h = (legal, subst (λ z. AreLegal capacities z (after_call (s.made + 1) s.objects call) calls) made (subst (λ z. AreLegal capacities t.made z calls) objects h))

  failed_legal : (s t : SwitchState) (call : Call Rid) (c : Option (Call Rid)) (calls : List (Call Rid)) → IsLegal capacities s.objects call → HasFailed call s c t → AreLegal capacities t.made t.objects calls → AreLegal capacities s.made s.objects (with_made_call c calls)
  failed_legal s t call None calls legal x h = same_legal s t calls x.0 x.1 h
  failed_legal s t call (Some c) calls legal x h = subst (λ z. AreLegal capacities s.made s.objects (z ∷ calls)) (sym x.0) (called_legal s t call calls legal x.1 x.2 h)

  made_same : (s t : SwitchState) → t ≡ s → t.made ≡ s.made
  made_same s t e = ap (λ (z : SwitchState). z.made) e

  objects_same : (s t : SwitchState) → t ≡ s → t.objects ≡ s.objects
  objects_same s t e = ap (λ (z : SwitchState). z.objects) e

  legal_step : (s t : Service) (c : Option (Call Rid)) (calls : List (Call Rid)) → H s → IsServiceEvent plan workers capacities s c t → AreLegal capacities t.core.made t.core.objects calls → AreLegal capacities s.core.made s.core.objects (with_made_call c calls)
  legal_step s t _ calls h (OfTake _ x) l = same_legal s.core t.core calls x.core.made x.core.objects l
  legal_step s t _ calls h (OfWork c _ x) l = legal_event plan is workers capacities s.core t.core c calls (in_state plan is workers capacities s Reconciled h x.before) x.event l
  legal_step s t _ calls h (OfFault c _ x) l = failed_legal s.core t.core x.call c calls (due-legal plan is workers capacities s x.call h x.due).0 x.chip l
  legal_step s t _ calls h (OfListFault _ x) l = same_legal s.core t.core calls (made_same s.core t.core x.core) (objects_same s.core t.core x.core) l
  legal_step s t _ calls h (OfRestart _ x) l = same_legal s.core t.core calls (made_same (forgotten s.core) t.core x.core) (objects_same (forgotten s.core) t.core x.core) l
  legal_step s t _ calls h (OfList _ x) l = same_legal s.core t.core calls (made_same s.core t.core x.core) (objects_same s.core t.core x.core) l
  legal_step s t _ calls h (OfRestore _ x) l = same_legal s.core t.core calls x.made x.objects l
  legal_step s t _ calls h (OfApply call _ x) l = called_legal s.core t.core call calls (due-legal plan is workers capacities s call h (OfPlan t.left x.before x.next)).0 x.made x.objects l
  legal_step s t _ calls h (OfFinish _ x) l = same_legal s.core t.core calls x.made x.objects l

  -- over restarts and faults at any event, each effect of a session is legal
  pub effects-legal : (s : Service) (es : List (Option (Call Rid) × Service)) → H s → AreServiceEvents plan workers capacities s es → AreLegal capacities s.core.made s.core.objects (effects_of es)
  effects-legal s [] h run = tt
  effects-legal s (e ∷ es) h run = legal_step s e.1 e.0 (effects_of es) h run.0 (effects-legal e.1 es (holds-step plan is workers capacities s e.1 e.0 h run.0) run.1)

-- what the old view and all new views forward equally is forwarded so, however often applies are broken off
use Rattle.std.proofs.Common.{◌≡◌, ◌++◌, ◌+◌, ◌∷◌, ◌∙◌, ℕ, List, [], Option, None, Some, refl, sym, ap, subst}
use Rattle.std.proofs.lemmas.List.{append_assoc}
use Rattle.swss_types.specs.declared.vrf.Packet.{Packet}
use Rattle.table_schema.specs.Plan.{Ports, IsPlan}
use Rattle.sai_types.specs.declared.ids.Rid.{Rid}
use Rattle.sai_types.specs.declared.body.Call.{Call}
use Rattle.sai_types.specs.declared.plan.Mode.TheVariants as mode
use Rattle.sai_types.specs.After.{after_call, after_calls}
use Rattle.sai_types.specs.Forwarding.{Forwarding, forward}
use Rattle.sai_types.specs.Made.{made_after, made_after_all}
use Rattle.sai_types.specs.Objects.{Objects}
use Rattle.switch_machine.specs.Events.{SwitchState}
use Rattle.plan_laws.specs.Applied.{chip_things}
use Rattle.plan_laws.proofs.Applied.{hitless-steady}
use Rattle.plan_laws.proofs.Running.{after-append, made-append}
use Rattle.warm_state.specs.declared.warm.Warm.{Warm}
use Rattle.warm_state.specs.declared.warm.Warm.TheVariants.{Initialized, Restored, Applying, Reconciled, Suspect}
use Rattle.restart_laws.specs.Broken.{AreBroken, ViewForwards}
use Rattle.restart_laws.specs.Invariant.{Holds}
use Rattle.restart_laws.specs.Restored.{only_things}
use Rattle.restart_laws.specs.Service.{AreServiceEvents, IsServiceEvent, OfApply, OfFault, OfFinish, OfFlight, OfList, OfListFault, OfPlan, OfRestart, OfRestore, OfTake, OfWork, HasFailed, IsDue, Restores, Service, forgotten, service_after}
use Rattle.restart_laws.proofs.Ended.{apart, hitless-applies}
use Rattle.restart_laws.proofs.Holding.{holds-step}

module _ (plan : Ports) (is : IsPlan plan) (workers : ℕ) (capacities : List ℕ) (a : Packet) (f : Forwarding) where
  -- the calls so far are the first ones of a hitless plan, from a chip and to a view that both forward the address so
  record IsUnderWay (s : Service) : Type 0 where
    first : Service
    began : Service
    restores : Restores plan workers capacities first began
    holds : Holds plan workers capacities first
    hitless : restores.mode ≡ mode.Hitless
    old : forward (chip_things first.core.objects) a ≡ f
    new : forward (only_things restores.view.machine.stands) a ≡ f
    done : List (Call Rid)
    all : began.left ≡ done ++ s.left
    made : s.core.made ≡ made_after_all first.core.made done
    objects : s.core.objects ≡ after_calls first.core.made first.core.objects done

  abbrev Forwards : Objects → Type 0
  Forwards objects = forward (chip_things objects) a ≡ f

  record Goes (s : Service) : Type 0 where
    forwards : Forwards s.core.objects
    under_way : s.warm ≡ Applying → IsUnderWay s

  -- after the first calls of the plan
  after_first : (first began : Service) (x : Restores plan workers capacities first began) → Holds plan workers capacities first → x.mode ≡ mode.Hitless → Forwards first.core.objects → forward (only_things x.view.machine.stands) a ≡ f → (done rest : List (Call Rid)) → began.left ≡ done ++ rest → Forwards (after_calls first.core.made first.core.objects done)
  after_first first began x h hitless old new done rest all = ((hitless-steady (hitless-applies plan is workers capacities first h began x hitless) done rest all).1 a (old ∙ sym new)).0 ∙ old

  -- with one call more
  with_call : (s : Service) (u : IsUnderWay s) (call : Call Rid) (rest : List (Call Rid)) (t : Service) → s.left ≡ call ∷ rest → t.left ≡ rest → t.core.made ≡ made_after s.core.made call → t.core.objects ≡ after_call (s.core.made + 1) s.core.objects call → IsUnderWay t
  with_call s u call rest t next left made objects = record {
    first = u.first;
    began = u.began;
    restores = u.restores;
    holds = u.holds;
    hitless = u.hitless;
    old = u.old;
    new = u.new;
    done = u.done ++ (call ∷ []);
    all = u.all ∙ ap (λ z. u.done ++ z) (next ∙ ap (λ z. call ∷ z) (sym left)) ∙ sym (append_assoc u.done (call ∷ []) t.left);
    made = made ∙ ap (λ n. made_after n call) u.made ∙ sym (made-append u.first.core.made u.done (call ∷ []));
    objects = objects ∙ ap (λ n. after_call (n + 1) s.core.objects call) u.made ∙ ap (λ o. after_call (made_after_all u.first.core.made u.done + 1) o call) u.objects ∙ sym (after-append u.first.core.made u.first.core.objects u.done (call ∷ []));
  }

  forwards_of : (s : Service) → IsUnderWay s → Forwards s.core.objects
  forwards_of s u = subst Forwards (sym u.objects) (after_first u.first u.began u.restores u.holds u.hitless u.old u.new u.done s.left u.all)

  goes_same : (s t : Service) → Goes s → t.core.objects ≡ s.core.objects → (t.warm ≡ Applying → ⊥) → Goes t
  goes_same s t g objects none = record { forwards = subst Forwards (sym objects) g.forwards; under_way = λ e. absurd (none e) }

  not_applying : (w v : Warm) → w ≡ v → (v ≡ Applying → ⊥) → w ≡ Applying → ⊥
  not_applying w v e none at = none (sym e ∙ at)

  objects_same : (s t : SwitchState) → t ≡ s → t.objects ≡ s.objects
  objects_same s t e = ap (λ (z : SwitchState). z.objects) e

  -- a call of a plan that fails, without its effect or with it
  failed : (s t : Service) (call : Call Rid) (c : Option (Call Rid)) → IsUnderWay s → (rest : List (Call Rid)) → s.left ≡ call ∷ rest → HasFailed call s.core c t.core → Forwards t.core.objects
  failed s t call None u rest next x = subst Forwards (sym x.1) (forwards_of s u)
  failed s t call (Some c) u rest next x =
      let later : Service = record { warm = Applying; core = record { machine = s.core.machine; written = s.core.written; to_sync = s.core.to_sync; made = made_after s.core.made call; objects = after_call (s.core.made + 1) s.core.objects call }; seen = s.seen; left = rest } in
      subst Forwards (sym x.2) (forwards_of later (with_call s u call rest later next refl refl refl))

  goes_step : (s t : Service) (c : Option (Call Rid)) → Holds plan workers capacities s → (s.warm ≡ Reconciled → ⊥) → Goes s → (e : IsServiceEvent plan workers capacities s c t) → ViewForwards a f e → Goes t
  goes_step s t _ h busy g (OfTake _ x) view = record {
    forwards = subst Forwards (sym x.core.objects) g.forwards;
    under_way = λ at. let u = g.under_way (sym x.warm ∙ at) in record { first = u.first; began = u.began; restores = u.restores; holds = u.holds; hitless = u.hitless; old = u.old; new = u.new; done = u.done; all = u.all ∙ ap (λ z. u.done ++ z) (sym x.left); made = x.core.made ∙ u.made; objects = x.core.objects ∙ u.objects };
  }
  goes_step s t _ h busy g (OfWork c _ x) view = absurd (busy x.before)
  goes_step s t _ h busy g (OfFault c _ x) view = record { forwards = by x.due; under_way = λ at. apart Suspect Applying (sym x.warm ∙ at) (λ e. cc) }
    where
      by : IsDue workers s x.call → Forwards t.core.objects
      by (OfFlight before y) = absurd (busy before)
      by (OfPlan rest before next) = failed s t x.call c (g.under_way before) rest next x.chip
  goes_step s t _ h busy g (OfListFault _ x) view = goes_same s t g (objects_same s.core t.core x.core) (not_applying t.warm Suspect x.warm (λ e. cc))
  goes_step s t _ h busy g (OfRestart _ x) view = goes_same s t g (objects_same (forgotten s.core) t.core x.core) (not_applying t.warm Initialized x.warm (λ e. cc))
  goes_step s t _ h busy g (OfList _ x) view = goes_same s t g (objects_same s.core t.core x.core) (not_applying t.warm Restored x.warm (λ e. cc))
  goes_step s t _ h busy g (OfRestore _ x) view = record {
    forwards = subst Forwards (sym x.objects) g.forwards;
    under_way = λ at. record { first = s; began = t; restores = x; holds = h; hitless = view.0; old = g.forwards; new = view.1; done = []; all = refl; made = x.made; objects = x.objects };
  }
  goes_step s t _ h busy g (OfApply call _ x) view =
      let u = with_call s (g.under_way x.before) call t.left t x.next refl x.made x.objects in
      record { forwards = forwards_of t u; under_way = λ at. u }
  goes_step s t _ h busy g (OfFinish _ x) view = goes_same s t g x.objects (not_applying t.warm Reconciled x.warm (λ e. cc))

  goes_run : (s : Service) (es : List (Option (Call Rid) × Service)) → Holds plan workers capacities s → Goes s → (run : AreServiceEvents plan workers capacities s es) → AreBroken plan workers capacities a f s es run → Goes (service_after s es)
  goes_run s [] h g run broken = g
  goes_run s (e ∷ es) h g run broken = goes_run e.1 es (holds-step plan is workers capacities s e.1 e.0 h run.0) (goes_step s e.1 e.0 h broken.0 g run.0 broken.1) run.1 broken.2

  pub broken-forwards : (s : Service) (es : List (Option (Call Rid) × Service)) → Holds plan workers capacities s → (s.warm ≡ Applying → ⊥) → forward (chip_things s.core.objects) a ≡ f → (run : AreServiceEvents plan workers capacities s es) → AreBroken plan workers capacities a f s es run → forward (chip_things (service_after s es).core.objects) a ≡ f
  broken-forwards s es h none old run broken = (goes_run s es h (record { forwards = old; under_way = λ at. absurd (none at) }) run broken).forwards

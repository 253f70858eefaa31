-- after the calls of a hitless plan the apply ends with the identifiers that the plan's come to
use Rattle.std.proofs.Common.{◌≡◌, ◌+◌, ◌∷◌, ◌∙◌, inl, inr, ℕ, true, List, [], map, Option, refl, sym, ap, subst}
use Rattle.table_schema.specs.Plan.{Ports, IsPlan}
use Rattle.sai_types.specs.declared.ids.Rid.{Rid}
use Rattle.sai_types.specs.declared.ids.Vid.{Vid}
use Rattle.sai_types.specs.declared.body.Call.{Call}
use Rattle.sai_types.specs.declared.plan.PlanId.{PlanId}
use Rattle.sai_types.specs.declared.thing.Thing.{Thing}
use Rattle.sai_types.specs.After.{after_call, after_calls}
use Rattle.sai_types.specs.Alike.{IsIn}
use Rattle.sai_types.specs.Made.{made_after, made_after_all}
use Rattle.sai_types.specs.Objects.{Objects}
use Rattle.chip_layout.specs.Layout.{IsLaidOut, has_number, listed}
use Rattle.switch_machine.specs.Flights.{Machine, StandsIn}
use Rattle.chip_layout.specs.Renamed.{call_renamed}
use Rattle.switch_machine.specs.Events.{IsSafe, IsQuiet}
use Rattle.plan_laws.specs.Applied.{nothing}
use Rattle.plan_laws.specs.Calls.{PlansChanges, resolve, viewed}
use Rattle.plan_laws.specs.Old.{old_layout}
use Rattle.plan_laws.proofs.Applied.{plan-safe}
use Rattle.plan_laws.proofs.Cold.{cold-halfway, makes-room, makes-safe}
use Rattle.plan_laws.proofs.Running.{after-append}
use Rattle.plan_laws.proofs.Starting.{first-moment}
use Rattle.sai_types.specs.Names.{name_of}
use Rattle.restart_laws.specs.Invariant.{Holds}
use Rattle.restart_laws.specs.Planned.{PlansCold, PlansHitless}
use Rattle.restart_laws.proofs.Holding.{view_fits}
use Rattle.restart_laws.proofs.Leading.{applies-cold, is-hitless}
use Rattle.restart_laws.specs.Service.{OfApply, AreApplying, AreServiceEvents, OfFinish, Finishes, OfFault, OfListFault, IsServiceEvent, OfList, OfRestart, OfRestore, Restores, Service, OfTake, OfWork, service_after, by_ids}
use Rattle.warm_state.specs.declared.warm.Warm.TheVariants.{Applying, Initialized, Reconciled, Restored, Suspect}
use Rattle.restart_laws.specs.Identified.{IsIdOf, as_vids, renamed_by}
use Rattle.restart_laws.specs.Restored.{only_things}
use Rattle.restart_laws.proofs.Ended.{apart, applying-run}
use Rattle.restart_laws.proofs.Passing.{restored-keeps}
use Rattle.restart_laws.proofs.Resolved.{end-renamed, from_renamed, renamed_in}
use Rattle.restart_laws.proofs.Viewing.{in-things, thing-planned, things-in, view-is}

-- the chip that the calls that are left lead to
abbrev goal_of : Service → Objects
goal_of s = after_calls s.core.made s.core.objects s.left

same_goal : (made made' : ℕ) (objects objects' : Objects) (left left' : List (Call Rid)) → made' ≡ made → objects' ≡ objects → left' ≡ left → after_calls made' objects' left' ≡ after_calls made objects left
same_goal made made' objects objects' left left' m o l = ap (λ z. after_calls z objects' left') m ∙ ap (λ z. after_calls made z left') o ∙ ap (after_calls made objects) l

service_goal_kept : (plan : Ports) (workers : ℕ) (capacities : List ℕ) (s t : Service) (c : Option (Call Rid)) → s.warm ≡ Applying → t.warm ≡ Applying → IsServiceEvent plan workers capacities s c t → goal_of t ≡ goal_of s
service_goal_kept plan workers capacities s t _ at later (OfTake _ x) = same_goal s.core.made t.core.made s.core.objects t.core.objects s.left t.left x.core.made x.core.objects x.left
service_goal_kept plan workers capacities s t _ at later (OfWork c _ x) = apart Applying Reconciled (sym at ∙ x.before) (λ e. cc)
service_goal_kept plan workers capacities s t _ at later (OfFault c _ x) = apart Applying Suspect (sym later ∙ x.warm) (λ e. cc)
service_goal_kept plan workers capacities s t _ at later (OfListFault _ x) = apart Applying Suspect (sym later ∙ x.warm) (λ e. cc)
service_goal_kept plan workers capacities s t _ at later (OfRestart _ x) = apart Applying Initialized (sym later ∙ x.warm) (λ e. cc)
service_goal_kept plan workers capacities s t _ at later (OfList _ x) = apart Applying Initialized (sym at ∙ x.before) (λ e. cc)
service_goal_kept plan workers capacities s t _ at later (OfRestore _ x) = apart Applying Restored (sym at ∙ x.before) (λ e. cc)
service_goal_kept plan workers capacities s t _ at later (OfApply call _ x) =
    same_goal (made_after s.core.made call) t.core.made (after_call (s.core.made + 1) s.core.objects call) t.core.objects t.left t.left x.made x.objects refl
    ∙ ap (after_calls s.core.made s.core.objects) (sym x.next)
service_goal_kept plan workers capacities s t _ at later (OfFinish _ x) = apart Applying Reconciled (sym later ∙ x.warm) (λ e. cc)

pub goal-run : (plan : Ports) (workers : ℕ) (capacities : List ℕ) (s : Service) (es : List (Option (Call Rid) × Service)) → s.warm ≡ Applying → AreApplying es → AreServiceEvents plan workers capacities s es → goal_of (service_after s es) ≡ goal_of s
goal-run plan workers capacities s [] at all run = refl
goal-run plan workers capacities s (e ∷ es) at all run = goal-run plan workers capacities e.1 es all.0 all.1 run.1 ∙ service_goal_kept plan workers capacities s e.1 e.0 at all.0 run.0

last_applying : (s : Service) (es : List (Option (Call Rid) × Service)) → s.warm ≡ Applying → AreApplying es → (service_after s es).warm ≡ Applying
last_applying s [] at all = at
last_applying s (e ∷ es) at all = last_applying e.1 es all.0 all.1

in_vids : (xs : List (Rid × Thing)) (v : Vid) (t : Thing) → IsIn (v, t) (as_vids xs) → IsIn (record { 0 = v.0 }, t) xs
in_vids [] v t h = elim h [ ]
in_vids (x ∷ xs) v t (inl e) = inl (ap (λ (z : Vid × Thing). (record { 0 = z.0.0 }, z.1)) e)
in_vids (x ∷ xs) v t (inr h) = inr (in_vids xs v t h)

vids_in : (xs : List (Rid × Thing)) (i : Rid) (t : Thing) → IsIn (i, t) xs → IsIn (record { 0 = i.0 }, t) (as_vids xs)
vids_in [] i t h = elim h [ ]
vids_in (x ∷ xs) i t (inl e) = inl (ap (λ (z : Rid × Thing). (record { 0 = z.0.0 }, z.1)) e)
vids_in (x ∷ xs) i t (inr h) = inr (vids_in xs i t h)

module _ (plan : Ports) (is : IsPlan plan) (workers : ℕ) (capacities : List ℕ) (s t : Service) (h : Holds plan workers capacities s) (x : Restores plan workers capacities s t) where
  abbrev new : List Thing
  new = only_things x.view.machine.stands

  abbrev view : List (Vid × Thing)
  view = as_vids x.view.machine.stands

  view_in : (v : Vid) (u : Thing) → IsIn (v, u) view → IsIn u new
  view_in v u i = in-things x.view.machine.stands (record { 0 = v.0 }) u (in_vids x.view.machine.stands v u i)

  in_view : (u : Thing) → IsIn u new → (v : Vid) × IsIn (v, u) view
  in_view u i = let y = things-in x.view.machine.stands u i in (record { 0 = y.0.0 }, vids_in x.view.machine.stands y.0 u y.1)

  kept : IsSafe plan workers capacities x.view × IsQuiet x.view
  kept = restored-keeps plan is workers capacities s.core.written x.view h.safe.told h.safe.dated x.restored

  one_in_view : (a b : Vid) (p q : Thing) → IsIn (a, p) view → IsIn (b, q) view → name_of p ≡ name_of q → (a ≡ b) × (p ≡ q)
  one_in_view a b p q ha hb e = let y = kept.0.laid.one (record { 0 = a.0 }) (record { 0 = b.0 }) p q (in_vids x.view.machine.stands a p ha) (in_vids x.view.machine.stands b q hb) e in (ap (λ (z : Rid). record { 0 = z.0 }) y.0, y.1)

  -- where the chip is laid out by these identifiers after the plan's calls, the apply ends with them
  ends_with : (final : Vid → Rid) → IsLaidOut (listed (renamed_by final view)) (after_calls s.core.made s.core.objects t.left) → (es : List (Option (Call Rid) × Service)) → AreApplying es → AreServiceEvents plan workers capacities t es → (service_after t es).left ≡ [] → (u : Service) × (e : Finishes (service_after t es) u) × (e.stands ≡ renamed_by final view)
  ends_with final laid es applying steps none =
      let last = service_after t es in
      let goal = goal-run plan workers capacities t es x.warm applying steps in
      let objects : last.core.objects ≡ after_calls s.core.made s.core.objects t.left =
      sym (ap (after_calls last.core.made last.core.objects) none) ∙ goal ∙ same_goal s.core.made t.core.made s.core.objects t.core.objects t.left t.left x.made x.objects refl in
      let machine : last.core.machine ≡ x.view.machine = applying-run plan workers capacities t es x.warm applying steps ∙ x.machine in (
        record { warm = Reconciled; core = record { machine = by_ids last.core.machine (renamed_by final view); written = last.core.written; to_sync = last.core.to_sync; made = last.core.made; objects = last.core.objects }; seen = []; left = [] },
        record {
          before = last_applying t es x.warm applying;
          warm = refl;
          none = none;
          stands = renamed_by final view;
          into = λ u i. let y = subst (λ (z : Machine). StandsIn z u) machine i in (final (record { 0 = y.0.0 }), renamed_in final view (record { 0 = y.0.0 }) u (vids_in x.view.machine.stands y.0 u y.1));
          back = λ u i j. let y = from_renamed final view i u j in subst (λ (z : Machine). StandsIn z u) (sym machine) (record { 0 = y.0.0 }, in_vids x.view.machine.stands y.0 u y.1);
          laid = subst (IsLaidOut (listed (renamed_by final view))) (sym objects) laid;
          machine = refl;
          written = refl;
          to_sync = refl;
          made = refl;
          objects = refl;
        },
        refl,
      )

  -- a hitless plan
  pub hitless-identified : (p : PlansHitless capacities s.core.made s.core.objects new t.left) (ids final : Vid → Rid) → ((v : Vid) (u : Thing) → IsIn (v, u) view → has_number u ≡ true → IsIdOf (old_layout s.core.objects new) ids v u (final v)) → (calls : List (Call PlanId)) → PlansChanges (old_layout s.core.objects new) (viewed view) ids s.core.made p.steps calls → t.left ≡ map (call_renamed (resolve ids)) calls → (es : List (Option (Call Rid) × Service)) → AreApplying es → AreServiceEvents plan workers capacities t es → (service_after t es).left ≡ [] → (u : Service) × (e : Finishes (service_after t es) u) × (e.stands ≡ renamed_by final view)
  hitless-identified p ids final finals calls run left es applying steps none =
      let q = is-hitless plan is h.safe.chip new (thing-planned plan is workers capacities x.view kept.0 kept.1) (view-is plan is workers capacities x.view kept.0 kept.1) t.left p in
      ends_with final
      (subst (λ z. IsLaidOut (listed (renamed_by final view)) (after_calls s.core.made s.core.objects z)) (sym left)
      (end-renamed (old_layout s.core.objects new) view ids final (plan-safe q) (first-moment q.chip new) capacities q.room view_in in_view one_in_view finals calls run))
      es applying steps none

  -- a cold plan: all things have the identifiers that were made for them
  pub cold-identified : (p : PlansCold capacities s.core.made s.core.objects new t.left) (ids : Vid → Rid) (calls : List (Call PlanId)) → PlansChanges nothing (viewed view) ids (made_after_all s.core.made p.front) p.makes calls → p.rest ≡ map (call_renamed (resolve ids)) calls → (es : List (Option (Call Rid) × Service)) → AreApplying es → AreServiceEvents plan workers capacities t es → (service_after t es).left ≡ [] → (u : Service) × (e : Finishes (service_after t es) u) × (e.stands ≡ renamed_by ids view)
  cold-identified p ids calls run left es applying steps none =
      let c = applies-cold plan is h.safe.chip new (thing-planned plan is workers capacities x.view kept.0 kept.1) (view-is plan is workers capacities x.view kept.0 kept.1) t.left p (view_fits plan is workers capacities x.view p.makes kept.0 p.making) in
      ends_with ids
      (subst (λ z. IsLaidOut (listed (renamed_by ids view)) (after_calls s.core.made s.core.objects z)) (sym p.is)
      (subst (IsLaidOut (listed (renamed_by ids view))) (sym (after-append s.core.made s.core.objects p.front p.rest))
      (subst (λ z. IsLaidOut (listed (renamed_by ids view)) (after_calls (made_after_all s.core.made p.front) (after_calls s.core.made s.core.objects p.front) z)) (sym left)
      (end-renamed nothing view ids ids (makes-safe c.planned) (cold-halfway c) capacities (makes-room c) view_in in_view one_in_view (λ v u i number. inr ((λ j none. none.1), refl)) calls run))))
      es applying steps none

-- over restarts and faults each route on the chip is that of a row that was written
use Rattle.std.proofs.Common.{◌≡◌, ◌⊎◌, ◌+◌, ◌≤◌, ◌∷◌, ◌++◌, ◌∙◌, inl, inr, ℕ, zero, suc, List, [], length, Option, None, Some, refl, sym, ap, subst, arith}
use Rattle.std.proofs.lemmas.List.{append-nil, append_assoc, length-append}
use Rattle.swss_types.specs.declared.address.Prefix.{Prefix}
use Rattle.swss_types.specs.declared.vrf.Vrf.{Vrf}
use Rattle.table_schema.specs.Plan.{IsPlan, Ports}
use Rattle.table_schema.specs.declared.key.Key.TheVariants as key
use Rattle.table_schema.specs.declared.row.Row.{Row}
use Rattle.table_schema.specs.declared.write.Sent.{Sent}
use Rattle.sai_types.specs.declared.ids.Rid.{Rid}
use Rattle.sai_types.specs.declared.body.Call.{Call}
use Rattle.sai_types.specs.declared.thing.Goal.{Goal}
use Rattle.sai_types.specs.declared.thing.Thing.{Thing}
use Rattle.sai_types.specs.declared.thing.Thing.TheVariants as thing
use Rattle.sai_types.specs.After.{after_call, after_calls, chip_after}
use Rattle.sai_types.specs.Alike.{IsIn}
use Rattle.sai_types.specs.Made.{made_after_all}
use Rattle.sai_types.specs.Named.{named}
use Rattle.chip_layout.proofs.Answering.{in_those, those_in}
use Rattle.switch_model.specs.History.{History}
use Rattle.switch_model.specs.Placed.{place}
use Rattle.switch_model.specs.Promises.{EffectsAreLegal, RoutesAreOfRows, good_rows_at}
use Rattle.switch_model.specs.Things.{things_of}
use Rattle.switch_machine.specs.Events.{with_made_call}
use Rattle.switch_machine.specs.Flights.{StandsIn}
use Rattle.switch_machine.proofs.Reasoned.{row-of_route}
use Rattle.machine_laws.specs.Logged.{IsLoggedEvent}
use Rattle.machine_laws.proofs.Dated.{later_routes, route_dated, routes-called, routes-now, routes_grown, same_routes}
use Rattle.machine_laws.proofs.Staying.{after_calls-grown, chip_after-all}
use Rattle.plan_laws.specs.Applied.{chip_things}
use Rattle.plan_laws.proofs.Running.{after-append}
use Rattle.warm_state.specs.declared.warm.Warm.TheVariants.{Applying, Reconciled}
use Rattle.restart_laws.specs.Logged.{AddsFault, AreLoggedSteps, IsLoggedStep, LoggedService, OfMachine, OfService, Records, new_session, session_after, switch_of}
use Rattle.restart_laws.specs.Restored.{only_things}
use Rattle.restart_laws.specs.Service.{CallFails, IsDue, IsServiceEvent, OfApply, OfFault, OfFinish, OfFlight, OfList, OfListFault, OfPlan, OfRestart, OfRestore, OfTake, OfWork}
use Rattle.restart_laws.proofs.Ended.{apart}
use Rattle.restart_laws.proofs.Holding.{in_state}
use Rattle.restart_laws.proofs.Logged.{IsToldLog, told-first, told-step}
use Rattle.restart_laws.proofs.Underway.{IsUnderWay, chip-at, plan-origin, under-step}
use Rattle.restart_laws.proofs.Viewing.{things-in}

module _ (plan : Ports) (is : IsPlan plan) (workers : ℕ) (capacities : List ℕ) where
  abbrev Told : LoggedService → Type 0
  Told = IsToldLog plan is workers capacities

  abbrev Under : LoggedService → Type 0
  Under s = s.service.warm ≡ Applying → IsUnderWay plan is workers capacities s

  abbrev AreRouted : List Sent → List (Call Rid) → Type 0
  AreRouted taken es = (j : ℕ) → j ≤ length es → RoutesAreOfRows plan taken (chip_after es j)

  abbrev HasRow : List Sent → Vrf → Prefix → Goal → Type 0
  HasRow taken v prefix goal = (n : ℕ) × (row : Row) × (n ≤ length taken) × (good_rows_at plan taken n (key.Route v prefix) ≡ Some row) × IsIn (thing.Route v prefix goal) (things_of plan (key.Route v prefix) (place v row))

  -- after one more call of a plan, whether it was answered so or not
  apply_routes : (s : LoggedService) (call : Call Rid) (rest : List (Call Rid)) → Told s → Under s → AreRouted s.log.taken s.effects → s.service.warm ≡ Applying → s.service.left ≡ call ∷ rest → RoutesAreOfRows plan s.log.taken (after_calls 0 [] (s.effects ++ call ∷ []))
  apply_routes s call rest told under routes at next v prefix goal h = by (plan-origin plan is workers capacities u.first u.began u.holds u.restores (u.done ++ call ∷ []) rest (u.all ∙ ap (λ z. u.done ++ z) next ∙ sym (append_assoc u.done (call ∷ []) rest)) It tt (subst (λ z. IsIn It (chip_things z)) same (in_those It (named (after_calls 0 [] (s.effects ++ call ∷ []))) h)))
    where
      u : IsUnderWay plan is workers capacities s
      u = under at

      It : Thing
      It = thing.Route v prefix goal

      same : after_calls 0 [] (s.effects ++ call ∷ []) ≡ after_calls u.first.core.made u.first.core.objects (u.done ++ call ∷ [])
      same =
          ap (λ z. after_calls 0 [] (z ++ call ∷ [])) u.effects
          ∙ ap (after_calls 0 []) (append_assoc u.before u.done (call ∷ []))
          ∙ after-append 0 [] u.before (u.done ++ call ∷ [])
          ∙ ap (λ z. after_calls z (after_calls 0 [] u.before) (u.done ++ call ∷ [])) (sym u.made)
          ∙ ap (λ z. after_calls u.first.core.made z (u.done ++ call ∷ [])) (sym u.objects)

      first : chip_after s.effects (length u.before + 0) ≡ u.first.core.objects
      first = chip-at plan is workers capacities s u [] u.done refl

      by : IsIn It (chip_things u.first.core.objects) ⊎ IsIn It (only_things u.restores.view.machine.stands) → HasRow s.log.taken v prefix goal
      by (inl i) = routes (length u.before + 0) (omega (arith, ap length u.effects, length-append u.before u.done)) v prefix goal (subst (λ z. IsIn (Some It) (named z)) (sym first) (those_in It (named u.first.core.objects) i))
      by (inr i) =
          let a = in_state plan is workers capacities s.service Applying told.holds at in
          let stands : StandsIn s.service.core.machine It = subst (λ z. StandsIn z It) (sym u.machine) (things-in u.restores.view.machine.stands It i) in
          let row = row-of_route plan s.service.core.machine a.view.sound v prefix goal stands in
          route_dated plan is workers capacities s.log.taken s.service.core.written.taken v prefix goal row.0 told.tells.taken (a.view.good (key.Route v prefix) row.0 row.1) row.2

  -- ---- with each event

  fault_taken : (s t : LoggedService) → AddsFault s t → t.log.taken ≡ s.log.taken
  fault_taken s t (before, after, less, inl x) = ap (λ (z : History). z.taken) x
  fault_taken s t (before, after, less, inr x) = ap (λ (z : History). z.taken) x

  -- nothing took effect
  none_routed : (s t : LoggedService) → t.log.taken ≡ s.log.taken → t.effects ≡ s.effects ++ [] → AreRouted s.log.taken s.effects → AreRouted t.log.taken t.effects
  none_routed s t taken effects routes = same_routes plan is workers capacities s.log.taken t.log.taken s.effects t.effects taken (effects ∙ append-nil s.effects) routes

  write_routed : (s t : LoggedService) (sent : Sent) → t.log.taken ≡ s.log.taken ++ sent ∷ [] → t.effects ≡ s.effects → AreRouted s.log.taken s.effects → AreRouted t.log.taken t.effects
  write_routed s t sent taken effects routes = same_routes plan is workers capacities (s.log.taken ++ sent ∷ []) t.log.taken s.effects t.effects taken effects (λ j le. later_routes plan is workers capacities s.log.taken sent (chip_after s.effects j) (routes j le))

  one_routed : (s t : LoggedService) (call : Call Rid) → t.log.taken ≡ s.log.taken → t.effects ≡ s.effects ++ call ∷ [] → AreRouted s.log.taken s.effects → RoutesAreOfRows plan s.log.taken (after_calls 0 [] (s.effects ++ call ∷ [])) → AreRouted t.log.taken t.effects
  one_routed s t call taken effects routes now =
      same_routes plan is workers capacities s.log.taken t.log.taken t.effects t.effects taken refl
      (routes_grown plan is workers capacities s.log.taken s.effects t.effects (Some call) effects routes (subst (RoutesAreOfRows plan s.log.taken) (ap (after_calls 0 []) (sym effects) ∙ sym (chip_after-all t.effects)) now))

  fails_routes : (s : LoggedService) (call : Call Rid) → Told s → Under s → AreRouted s.log.taken s.effects → IsDue workers s.service call → RoutesAreOfRows plan s.log.taken (after_calls 0 [] (s.effects ++ call ∷ []))
  fails_routes s call told under routes (OfFlight at due) =
      let kept = in_state plan is workers capacities s.service Reconciled told.holds at in
      subst (RoutesAreOfRows plan s.log.taken)
      (ap (λ z. after_call (z + 1) s.service.core.objects call) told.tells.made ∙ ap (λ z. after_call (made_after_all 0 s.effects + 1) z call) told.tells.objects ∙ sym (after_calls-grown 0 [] s.effects call))
      (routes-called plan is workers capacities s.service.core s.log.taken call kept due told.tells.taken)
  fails_routes s call told under routes (OfPlan rest at next) = apply_routes s call rest told under routes at next

  fault_routed : (s t : LoggedService) (c : Option (Call Rid)) (x : CallFails workers s.service c t.service) → Told s → Under s → AreRouted s.log.taken s.effects → t.log.taken ≡ s.log.taken → t.effects ≡ s.effects ++ with_made_call c [] → AreRouted t.log.taken t.effects
  fault_routed s t None x told under routes taken effects = none_routed s t taken effects routes
  fault_routed s t (Some c) x told under routes taken effects = one_routed s t c taken effects routes (subst (λ z. RoutesAreOfRows plan s.log.taken (after_calls 0 [] (s.effects ++ z ∷ []))) (sym x.chip.0) (fails_routes s x.call told under routes x.due))

  routed_service : (s t : LoggedService) (c : Option (Call Rid)) (e : IsServiceEvent plan workers capacities s.service c t.service) → Told s → Under s → AreRouted s.log.taken s.effects → t.effects ≡ s.effects ++ with_made_call c [] → Records s t e → AreRouted t.log.taken t.effects
  routed_service s t _ (OfTake _ x) told under routes effects (sent, same, log) = write_routed s t sent (ap (λ (z : History). z.taken) log) (effects ∙ append-nil s.effects) routes
  routed_service s t _ (OfWork c _ x) told under routes effects records = absurd records
  routed_service s t _ (OfFault c _ x) told under routes effects records = fault_routed s t c x told under routes (fault_taken s t records) effects
  routed_service s t _ (OfListFault _ x) told under routes effects records = none_routed s t (fault_taken s t records) effects routes
  routed_service s t _ (OfRestart _ x) told under routes effects records = none_routed s t (ap (λ (z : History). z.taken) records) effects routes
  routed_service s t _ (OfList _ x) told under routes effects records = none_routed s t (ap (λ (z : History). z.taken) records) effects routes
  routed_service s t _ (OfRestore _ x) told under routes effects records = none_routed s t (ap (λ (z : History). z.taken) records) effects routes
  routed_service s t _ (OfApply call _ x) told under routes effects records = one_routed s t call (ap (λ (z : History). z.taken) records) effects routes (apply_routes s call t.service.left told under routes x.before x.next)
  routed_service s t _ (OfFinish _ x) told under routes effects records = none_routed s t (ap (λ (z : History). z.taken) records) effects routes

  routed_machine : (s t : LoggedService) → Told t → AreRouted s.log.taken s.effects → t.service.warm ≡ Reconciled → IsLoggedEvent plan workers capacities (switch_of s) (switch_of t) → AreRouted t.log.taken t.effects
  routed_machine s t told routes at (inl x) = write_routed s t x.sent (ap (λ (z : History). z.taken) x.log) x.effects routes
  routed_machine s t told routes at (inr (inl x)) =
      let kept = in_state plan is workers capacities t.service Reconciled told.holds at in
      routes_grown plan is workers capacities t.log.taken s.effects t.effects x.call x.effects
      (same_routes plan is workers capacities s.log.taken t.log.taken s.effects s.effects (ap (λ (z : History). z.taken) x.log) refl routes)
      (subst (RoutesAreOfRows plan t.log.taken) (told.tells.objects ∙ sym (chip_after-all t.effects)) (routes-now plan is workers capacities t.service.core t.log.taken kept told.tells.taken))
  routed_machine s t told routes at (inr (inr x)) = same_routes plan is workers capacities s.log.taken t.log.taken s.effects t.effects (ap (λ (z : History). z.taken) x.log) x.effects routes

  record IsRouted (s : LoggedService) : Type 0 where
    told : Told s
    under : Under s
    routes : AreRouted s.log.taken s.effects

  routed_step : (s t : LoggedService) → IsRouted s → IsLoggedStep plan workers capacities s t → IsRouted t
  routed_step s t x step = record { told = told; under = under-step plan is workers capacities s t x.told x.under step; routes = by step }
    where
      told : Told t
      told = told-step plan is workers capacities s t x.told step

      by : IsLoggedStep plan workers capacities s t → AreRouted t.log.taken t.effects
      by (OfMachine before after e) = routed_machine s t told x.routes after e
      by (OfService c e effects records) = routed_service s t c e x.told x.under x.routes effects records

  routed_session : (s : LoggedService) (ts : List LoggedService) → IsRouted s → AreLoggedSteps plan workers capacities s ts → IsRouted (session_after s ts)
  routed_session s [] x run = x
  routed_session s (t ∷ ts) x run = routed_session t ts (routed_step s t x run.0) run.1

  routed_first : IsRouted new_session
  routed_first = record { told = told-first plan is workers capacities; under = λ at. apart Reconciled Applying at (λ e. cc); routes = λ j le v prefix goal h. elim (subst (λ z. IsIn (Some (thing.Route v prefix goal)) (named z)) (nothing j) h) [ ] }
    where
      nothing : (n : ℕ) → chip_after [] n ≡ []
      nothing zero = refl
      nothing (suc n) = refl

  -- each effect of a session was legal, and each route on the chip is that of a row that was written
  pub effects-routed : (ts : List LoggedService) → AreLoggedSteps plan workers capacities new_session ts → EffectsAreLegal plan capacities (session_after new_session ts).log.taken (session_after new_session ts).effects
  effects-routed ts run = let x = routed_session new_session ts routed_first run in record { legal = x.told.tells.legal; routes = x.routes }

-- the operation with which a route's start leaves
use Rattle.std.proofs.Common.{◌≡◌, ℕ, Bool, true, false, if◌then◌else◌, List, Option, Some, None, option_map, Result, Ok, Err, refl, sym, ap, ap₂, subst, ◌∙◌, Bor}
use Rattle.std.proofs.lemmas.Option.{same_Some}
use Rattle.swss_types.specs.declared.address.Prefix.{Prefix}
use Rattle.swss_types.specs.declared.vrf.Vrf.{Vrf}
use Rattle.table_schema.specs.Plan.{Ports}
use Rattle.table_schema.specs.declared.key.Key.{Key}
use Rattle.table_schema.specs.declared.key.Key.TheVariants as key
use Rattle.table_schema.specs.declared.row.Row.{Row as BareRow}
use Rattle.switch_model.specs.Placed.{Placed as Row}
use Rattle.switch_model.specs.Placed as row
use Rattle.table_schema.specs.declared.row.RouteRow.{RouteRow}
use Rattle.sai_types.specs.contracts.thing.GoalPartialEq.TheImpl as goal_eq
use Rattle.switch_model.specs.declared.wait.Wait.{Wait}
use Rattle.row_layout.specs.Operations.{own_changes, uses_of}
use Rattle.switch_machine.specs.Flights.{Fits}
use Rattle.ref_counts.specs.Registry.{Names}
use Rattle.ref_counts.specs.Room.{RoomState}
use Rattle.orch_flight.specs.Needing.{first_unapplied, row_names, wait_of}
use Rattle.orch_flight.specs.Operation.{Operation}
use Rattle.orch_flight.specs.Sharing.{MayStart, owner_for, owners_of}
use Rattle.orch_flight.specs.Starting.{IsBegunBy, IsStartedBy, begun_names, first_due, first_left, leaving, started_operation, flown, in_default}
use Rattle.orch_flight.proofs.Begins.{none-missing}
use Rattle.route_orch.specs.Targets.{IsRouteKey, IsRouteRow, IsTargetOf, goal_at}
use Rattle.route_orch.specs.Routes.{IsFirst, first_operation, first_step, operation_of_route, route_due, route_state, stands_for}
use Rattle.route_orch.specs.declared.flight.RouteBody.{RouteBody}
use Rattle.route_orch.specs.declared.flight.RouteStep.TheVariants as step
use Rattle.route_orch.specs.declared.target.Target.{Target}
use Rattle.route_orch.proofs.Dues.{HasGoal, built-apart, fit-goal, none-left, own-due}
use Rattle.route_orch.proofs.Starts.{started-due}

-- the rows behind references, in their places
abbrev pub rows : Option (Bor BareRow) → Option Row
rows o = in_default (option_map (λ r. r.now) o)

-- a row that fits the key of a route is a route's
fit-row : (plan : Ports) (k : Key) (r : Row) → IsRouteKey k → Fits plan k r → IsRouteRow (Some r)
fit-row plan (key.Route v p) (row.Route r) is fits = tt
fit-row plan (key.Route v p) _ is fits = elim fits [ ]
fit-row plan k r is fits = elim is [ ]

pub route-row : (plan : Ports) (k : Key) (o : Option Row) → IsRouteKey k → ((r : Row) → o ≡ Some r → Fits plan k r) → IsRouteRow o
route-row plan k None is fits = tt
route-row plan k (Some r) is fits = fit-row plan k r is (fits r refl)

-- and so is the new row, where nothing hinders its operation
pub new-route-row : (plan : Ports) (names : Names) (room : RoomState) (used : List ℕ) (worker : ℕ) (k : Key) (old new : Option Row) (res : Result (Unit {0}) Wait) (names' : Names) (room' : RoomState)
    → res ≡ Ok tt → IsRouteKey k → MayStart plan names worker k old new → IsBegunBy plan names room used worker k old new res names' room' → IsRouteRow new
new-route-row plan names room used worker k old None res names' room' began is may begun = tt
new-route-row plan names room used worker k old (Some r) res names' room' began is may begun =
    let told = subst (λ a. IsBegunBy plan names room used worker k old (Some r) a names' room') began begun in
    fit-row plan k r is (may.new_fits r refl (none-missing (first_unapplied names (row_names k r)) _ told.0))

-- the row for which a route stands is the old one at first
stands-first : (o n : Option RouteRow) (was target : Target) → stands_for (first_step (option_map row.Route o) (option_map row.Route n) was target) o n ≡ o
stands-first None None was target = refl
stands-first None (Some r) was target = refl
stands-first (Some a) None was target = refl
stands-first (Some a) (Some r) was target = by (goal_eq.ghosts.eq (goal_at was) (goal_at target))
  where
    by : (b : Bool) → stands_for (if b then step.Ended else step.Set) (Some a) (Some r) ≡ Some a
    by true = refl
    by false = refl

-- what is known at first makes the first operation
first_made : (plan : Ports) (worker : ℕ) (k : Key) (old new : Option Row) (b : RouteBody) (n : Option RouteRow) (first : IsFirst plan worker k old new b) → option_map row.Route n ≡ new → operation_of_route (route_state n b) ≡ first_operation worker b.vrf b.prefix b.applied n first.was b.target
first_made plan worker k old new b n first is_new =
    let v = b.vrf in
    let p = b.prefix in
    let o = b.applied in
    let step = first_step (option_map row.Route o) (option_map row.Route n) first.was b.target in
    let same : b.step ≡ step = first.step ∙ ap₂ (λ x y. first_step x y first.was b.target) (sym first.applied) (sym is_new) in
    ap₂ (λ w r. record { worker = w; key = key.Route v p; now = option_map row.Route (stands_for b.step o n); new = option_map row.Route n; due = route_due b.step v p (goal_at b.target); leaves = option_map owner_for b.leaves; retires = option_map owner_for r }) first.worker_is first.retires
    ∙ ap₂ (λ z l. record { worker = worker; key = key.Route v p; now = option_map row.Route (stands_for z o n); new = option_map row.Route n; due = route_due z v p (goal_at b.target); leaves = l; retires = None }) same first.leaves
    ∙ ap (λ z. record { worker = worker; key = key.Route v p; now = option_map row.Route z; new = option_map row.Route n; due = route_due step v p (goal_at b.target); leaves = first_left (owners_of b.target.group) (owners_of first.was.group); retires = None }) (stands-first o n first.was b.target)

module _ (plan : Ports) (names : Names) (worker : ℕ) (v : Vrf) (p : Prefix) (o n : Option RouteRow) (was target : Target) (of_was : IsTargetOf plan (key.Route v p) (option_map row.Route o) was) (of_target : IsTargetOf plan (key.Route v p) (option_map row.Route n) target) where
  due_first : HasGoal plan o → HasGoal plan n → first_due plan names (key.Route v p) (option_map row.Route o) (option_map row.Route n) ≡ route_due (first_step (option_map row.Route o) (option_map row.Route n) was target) v p (goal_at target)
  due_first a b = apart n of_target ∙ own-due plan v p o n was target a b of_was of_target
    where
      apart : (n : Option RouteRow) → IsTargetOf plan (key.Route v p) (option_map row.Route n) target → first_due plan names (key.Route v p) (option_map row.Route o) (option_map row.Route n) ≡ own_changes plan (key.Route v p) (option_map row.Route o) (option_map row.Route n)
      apart None is = refl
      apart (Some r) is = built-apart names (uses_of plan (key.Route v p) (Some (row.Route r))) target.group (own_changes plan (key.Route v p) (option_map row.Route o) (Some (row.Route r))) is.shares is.groups

  operation_first : HasGoal plan o → HasGoal plan n → started_operation plan names worker (key.Route v p) (option_map row.Route o) (option_map row.Route n) ≡ first_operation worker v p o n was target
  operation_first a b =
      let k = key.Route v p in
      let old = option_map row.Route o in
      let new = option_map row.Route n in
      let later = begun_names plan names worker k old new in
      let due = due_first a b in
      let own = own-due plan v p o n was target a b of_was of_target in
      started-due later worker k old new (first_due plan names k old new) (leaving plan k old new) (λ none. none-left plan v p o n a b (own ∙ sym due ∙ none))
      ∙ ap₂ (λ d l. record { worker = worker; key = k; now = old; new = new; due = d; leaves = l; retires = None }) due (ap₂ first_left of_target.shares of_was.shares)

  -- what began, with the operation
  pub started : (room : RoomState) (used : List ℕ) (names' : Names) (room' : RoomState) (res : Result (Unit {0}) Wait) → MayStart plan names worker (key.Route v p) (option_map row.Route o) (option_map row.Route n)
      → IsBegunBy plan names room used worker (key.Route v p) (option_map row.Route o) (option_map row.Route n) res names' room'
      → IsStartedBy plan names room used worker (key.Route v p) (option_map row.Route o) (option_map row.Route n) (flown (first_operation worker v p o n was target) res) names' room'
  started room used names' room' (Err w) may begun = begun
  started room used names' room' (Ok x) may (free, is, places) =
      let found = fit-goal plan v p n (λ r e. may.new_fits r e (named n free r e)) in
      (free, sym (operation_first (fit-goal plan v p o may.old_fits) found), is, places)
    where
      named : (n : Option RouteRow) → wait_of plan names room used worker (key.Route v p) (option_map row.Route o) (option_map row.Route n) ≡ None → (r : Row) → option_map row.Route n ≡ Some r → first_unapplied names (row_names (key.Route v p) r) ≡ None
      named None none r e = absurd cc
      named (Some q) none r e = subst (λ z. first_unapplied names (row_names (key.Route v p) z) ≡ None) (same_Some (row.Route q) r e) (none-missing (first_unapplied names (row_names (key.Route v p) (row.Route q))) _ none)

abbrev Turns : Ports → Names → RoomState → List ℕ → ℕ → Operation → Result (Unit {0}) Wait → Names → RoomState → Key → Option Row → Option Row → Type 0
Turns plan names room used worker flight res names' room' k old new = MayStart plan names worker k old new → IsBegunBy plan names room used worker k old new res names' room' → IsStartedBy plan names room used worker k old new (flown flight res) names' room'

-- the same, for the key and the rows that are given
pub started-as : (plan : Ports) (names : Names) (room : RoomState) (used : List ℕ) (worker : ℕ) (k : Key) (old new : Option Row) (b : RouteBody) (n : Option RouteRow) (res : Result (Unit {0}) Wait) (answer : Result Operation Wait) (names' : Names) (room' : RoomState)
    → IsFirst plan worker k old new b → option_map row.Route n ≡ new → answer ≡ flown (operation_of_route (route_state n b)) res → MayStart plan names worker k old new
    → IsBegunBy plan names room used worker k old new res names' room' → IsStartedBy plan names room used worker k old new answer names' room'
started-as plan names room used worker k old new b n res answer names' room' first is_new gave =
    let v = b.vrf in
    let p = b.prefix in
    let o = b.applied in
    let was = first.was in
    let turns = Turns plan names room used worker (first_operation worker v p o n was b.target) res names' room' in
    subst (λ a. MayStart plan names worker k old new → IsBegunBy plan names room used worker k old new res names' room' → IsStartedBy plan names room used worker k old new a names' room') (sym (gave ∙ ap (λ f. flown f res) (first_made plan worker k old new b n first is_new)))
    (subst (λ z. IsTargetOf plan z old was → IsTargetOf plan z new b.target → turns z old new) (sym first.key_is)
    (subst (λ z. IsTargetOf plan (key.Route v p) z was → IsTargetOf plan (key.Route v p) new b.target → turns (key.Route v p) z new) first.applied
    (subst (λ z. IsTargetOf plan (key.Route v p) (option_map row.Route o) was → IsTargetOf plan (key.Route v p) z b.target → turns (key.Route v p) (option_map row.Route o) z) is_new
    (λ x y. started plan names worker v p o n was b.target x y room used names' room' res))) first.of_was first.of_target)

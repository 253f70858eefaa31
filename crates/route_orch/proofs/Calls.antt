-- the call that is due of a route's operation
use Rattle.std.proofs.Common.{◌≡◌, ◌⊎◌, inl, inr, ℕ, List, [], ◌∷◌, ◌++◌, map, Option, Some, None, IsSome, option_map, refl, sym, ap, ap₂, subst, ◌∙◌}
use Rattle.std.proofs.lemmas.Bool.{false≢true}
use Rattle.std.proofs.lemmas.Option.{same_Some}
use Rattle.swss_types.specs.declared.address.Prefix.{Prefix}
use Rattle.swss_types.specs.declared.vrf.Vrf.{Vrf}
use Rattle.swss_types.specs.declared.vrf.Vrf.TheVariants as vrf
use Rattle.table_schema.specs.Names.{router_names}
use Rattle.table_schema.specs.Plan.{IsPlan, Ports}
use Rattle.table_schema.specs.declared.key.Key.TheVariants as key
use Rattle.switch_model.specs.Placed as row
use Rattle.table_schema.specs.declared.row.RouteRow.{RouteRow}
use Rattle.sai_types.specs.Alike.{IsIn}
use Rattle.sai_types.specs.Names as thing_name
use Rattle.sai_types.specs.Names.{goal_names, name_of}
use Rattle.sai_types.specs.declared.ids.Vid.{Vid}
use Rattle.sai_types.specs.declared.body.Attr.TheVariants as attr
use Rattle.sai_types.specs.declared.body.Body.TheVariants as body
use Rattle.sai_types.specs.declared.body.Entry.TheVariants as entry
use Rattle.sai_types.specs.declared.body.Call.TheVariants as call
use Rattle.sai_types.specs.declared.body.To.{To}
use Rattle.sai_types.specs.declared.thing.Goal.{Goal}
use Rattle.sai_types.specs.declared.thing.Goal.TheVariants as goal
use Rattle.sai_types.specs.declared.thing.Thing.{Thing}
use Rattle.sai_types.specs.declared.thing.Thing.TheVariants as thing
use Rattle.sai_types.proofs.Membership.{in-left}
use Rattle.chip_layout.specs.Bodies.{IsAt, IsBody, IsChange, first_thing_name, router_name, to_with, vr_with}
use Rattle.row_layout.specs.Operations.{Make, Set, Take}
use Rattle.row_layout.specs.Rows.{Owner, OfRow, goal_of}
use Rattle.row_layout.specs.Shared.{shared_things}
use Rattle.row_layout.proofs.Members.{from_in, only}
use Rattle.row_layout.proofs.Owners.{shared-own}
use Rattle.switch_machine.specs.Changes.{IsSamePort, Resembles}
use Rattle.switch_machine.specs.Flights.{own_of}
use Rattle.ref_counts.specs.declared.name.Name.{Name}
use Rattle.ref_counts.specs.declared.name.Name.TheVariants as name
use Rattle.ref_counts.specs.declared.next.Next.TheVariants as next
use Rattle.ref_counts.specs.Registered.{first_of}
use Rattle.ref_counts.specs.Registry.{Names, ids_of}
use Rattle.orch_flight.specs.Calling.{HasVid, HaveIds, IsChangeFor, IsEnteredBy, IsEntryOf, IsNextOf, IsOver, KnowsIds, pointed, router_vid, things_retired}
use Rattle.orch_flight.specs.Operation.{Operation}
use Rattle.orch_flight.specs.Sharing.{owner_for}
use Rattle.orch_flight.proofs.RouterIds.{have_both, router_at}
use Rattle.route_orch.specs.Targets.{PointsTo, goal_at}
use Rattle.route_orch.specs.Routes.{RouteState, operation_of_route, route_operation, route_state}
use Rattle.route_orch.specs.declared.flight.RouteBody.{RouteBody}
use Rattle.route_orch.specs.declared.flight.RouteStep.{RouteStep}
use Rattle.route_orch.specs.declared.flight.RouteStep.TheVariants as step
use Rattle.route_orch.specs.declared.target.Target.{Target}
use Rattle.route_orch.proofs.Goals.{goal-same, to-at}

-- a route's operation, from what its fields are known to be
pub route_operation_told : (f : RouteState) (b i : RouteBody) (wanted wanted' : Option RouteRow) (s : RouteStep) → route_state wanted b ≡ f → i ≡ b → i.step ≡ s → wanted ≡ wanted' → f.operation ≡ route_operation i.worker i.vrf i.prefix i.applied wanted' i.target s i.leaves i.retires
route_operation_told f b i wanted wanted' s is same at has =
    sym (ap (λ z. operation_of_route (route_state wanted z)) same ∙ ap operation_of_route is)
    ∙ ap₂ (λ z w. route_operation i.worker i.vrf i.prefix i.applied w i.target z i.leaves i.retires) at has

-- what has the name of a route is that route
is_route : (t : Thing) (v : Vrf) (p : Prefix) → name_of t ≡ thing_name.Route v p → (g : Goal) × (t ≡ thing.Route v p g)
is_route (thing.Route w q g) v p is = (g, cc)
is_route (thing.Port x) v p is = absurd cc
is_route (thing.Vlan vlan) v p is = absurd cc
is_route (thing.VirtualRouter label) v p is = absurd cc
is_route (thing.BridgePort lane) v p is = absurd cc
is_route (thing.VlanMember vlan lane tagging) v p is = absurd cc
is_route (thing.Rif b w) v p is = absurd cc
is_route (thing.Own w ip) v p is = absurd cc
is_route (thing.Neighbor hop mac) v p is = absurd cc
is_route (thing.NextHop hop) v p is = absurd cc
is_route (thing.Group hops) v p is = absurd cc
is_route (thing.GroupMember hops hop) v p is = absurd cc

module _ (v : Vrf) (p : Prefix) (at : thing_name.ThingName → Vid → Type 0) where
  -- of what a route refers to, its entry has the identifier of its router alone
  any_first : (g : Goal) (i j : Vid) → IsAt at (router_name v) j → IsBody (λ n w. IsEnteredBy (thing.Route v p g) n → at n w) (thing.Route v p g) (body.Route (vr_with v j) p (to_with g i))
  any_first g i j there = record { first = i; second = j; first_at = by g; second_at = router v there; body_is = refl }
    where
      by : (h : Goal) → IsAt (λ n w. IsEnteredBy (thing.Route v p g) n → at n w) (first_thing_name (goal_names h)) i
      by goal.Drop = tt
      by (goal.Direct b) = λ e. elim e [ ]
      by (goal.Via hop) = λ e. elim e [ ]
      by (goal.Group hops) = λ e. elim e [ ]

      router : (w : Vrf) → IsAt at (router_name w) j → IsAt (λ n x. IsEnteredBy (thing.Route v p g) n → at n x) (router_name w) j
      router vrf.Default h = tt
      router (vrf.Named label) h = λ e. h

  -- the entry of a route is its prefix, in its router
  route_entry : (vr : Option Vid) (j : Vid) → IsAt at (router_name v) j → vr ≡ vr_with v j → (t : Thing) → name_of t ≡ thing_name.Route v p → IsEntryOf at t (entry.Route vr p)
  route_entry vr j there told t is =
      let any : Vid = record { 0 = 0 } in
      let (g, same) = is_route t v p is in
      subst (λ z. IsEntryOf at z (entry.Route vr p)) (sym same) (record { body = body.Route (vr_with v j) p (to_with g any); of = any_first g any j there; id = any; numbered = λ h. absurd (false≢true h); is = ap (λ z. entry.Route z p) told })

-- the registry has the identifier of the new target
module _ (v : Vrf) (p : Prefix) (w : ℕ) (applied : Option RouteRow) (t : Target) (leaves retires : Option Name) (names : Names) (r : RouteRow) (f : Operation) where
  pub known-make : f ≡ route_operation w v p applied (Some r) t step.Make leaves retires → KnowsIds names f → HaveIds names (pointed (Some (row.Route r)) (goal_at t))
  known-make is knows = (have_both names v (pointed (Some (row.Route r)) (goal_at t)) (subst (KnowsIds names) is knows)).1

  pub known-set : f ≡ route_operation w v p applied (Some r) t step.Set leaves retires → KnowsIds names f → HaveIds names (pointed (Some (row.Route r)) (goal_at t))
  known-set is knows = (have_both names v (pointed (Some (row.Route r)) (goal_at t)) (subst (KnowsIds names) is knows)).1

module _ (plan : Ports) (v : Vrf) (p : Prefix) where
  own_goal : (r : RouteRow) (g : Goal) (t : Thing) → IsIn t (own_of plan (key.Route v p) (Some (row.Route r))) → t ≡ thing.Route v p g → goal_of plan r ≡ Some g
  own_goal r g t h is =
      let (h', at, there) = from_in (goal_of plan r) (λ g. thing.Route v p g ∷ []) t h in
      at ∙ ap Some (goal-same v p h' g (sym (only (λ z. z ≡ thing.Route v p h') t (thing.Route v p h') refl there) ∙ is))

  -- what is shared holds no route
  no_shared : IsPlan plan → (g : Goal) (o : Owner) → IsIn (thing.Route v p g) (shared_things o) → ⊥
  no_shared is g o h =
      let same : OfRow (key.Route v p) ≡ o = same_Some (OfRow (key.Route v p)) o (shared-own plan is o (thing.Route v p g) h) in
      subst (λ o. IsIn (thing.Route v p g) (shared_things o)) (sym same) h

  module _ (w : ℕ) (applied : Option RouteRow) (t : Target) (leaves retires : Option Name) where
    abbrev Stage : RouteStep → Option RouteRow → Operation
    Stage s wanted = route_operation w v p applied wanted t s leaves retires

    made_goal : (wanted : Option RouteRow) → IsOver plan (Stage step.Make wanted) → (r : RouteRow) × (wanted ≡ Some r) × (goal_of plan r ≡ Some (goal_at t))
    made_goal None over = by over.next
      where
        by : IsChangeFor plan (Stage step.Make None) (Make (thing.Route v p (goal_at t)) ∷ []) → (r : RouteRow) × (None ≡ Some r) × (goal_of plan r ≡ Some (goal_at t))
        by (inl h) = elim h [ ]
        by (inr (o, h, there)) = elim h [ ]
    made_goal (Some r) over = (r, refl, by over.next)
      where
        by : IsChangeFor plan (Stage step.Make (Some r)) (Make (thing.Route v p (goal_at t)) ∷ []) → goal_of plan r ≡ Some (goal_at t)
        by (inl h) = own_goal r (goal_at t) (thing.Route v p (goal_at t)) h refl
        by (inr (o, h, there)) = absurd (no_shared over.plans (goal_at t) o there)

    set_like : (r : RouteRow) (like : Thing) → IsIn like (own_of plan (key.Route v p) (Some (row.Route r))) → Resembles (thing.Route v p (goal_at t)) like → goal_of plan r ≡ Some (goal_at t)
    set_like r like h resembles = by resembles.same
      where
        by : (thing.Route v p (goal_at t) ≡ like) ⊎ IsSamePort (thing.Route v p (goal_at t)) like → goal_of plan r ≡ Some (goal_at t)
        by (inl same) = own_goal r (goal_at t) like h (sym same)
        by (inr port) = elim port [ ]

    set_goal : (wanted : Option RouteRow) → IsOver plan (Stage step.Set wanted) → (r : RouteRow) × (wanted ≡ Some r) × (goal_of plan r ≡ Some (goal_at t))
    set_goal None over = elim over.sets.1 [ ]
    set_goal (Some r) over = (r, refl, set_like r over.sets.0 over.sets.1 over.sets.2)

    module _ (names : Names) (vr : Option Vid) (router : vr ≡ router_vid names v) where
      module _ (r : RouteRow) (x : To Vid) (to : PointsTo names r (goal_at t) x) where
        pub next-make : (f : Operation) → f ≡ Stage step.Make (Some r) → KnowsIds names f → IsOver plan f → IsNextOf plan names f (next.Call (call.Create (body.Route vr p x)))
        next-make f is = subst (λ z. KnowsIds names z → IsOver plan z → IsNextOf plan names z (next.Call (call.Create (body.Route vr p x)))) (sym is) by
          where
            by : KnowsIds names (Stage step.Make (Some r)) → IsOver plan (Stage step.Make (Some r)) → IsNextOf plan names (Stage step.Make (Some r)) (next.Call (call.Create (body.Route vr p x)))
            by knows over =
                let (q, has, at) = made_goal (Some r) over in
                let (i, there, same) = to-at plan names x over.plans r (goal_at t) (ap (goal_of plan) (same_Some r q has) ∙ at) to in
                let (j, in_router, told) = router_at plan names v vr router (have_both names v (pointed (Some (row.Route r)) (goal_at t)) knows).0 in (
                  Make (thing.Route v p (goal_at t)),
                  [],
                  refl,
                  record {
                    body = body.Route vr p x;
                    of = record { first = i; second = j; first_at = there; second_at = in_router; body_is = ap₂ (λ a b. body.Route a p b) told same };
                    is = refl;
                  },
                )

        pub next-set : (f : Operation) → f ≡ Stage step.Set (Some r) → KnowsIds names f → IsOver plan f → IsNextOf plan names f (next.Call (call.Set (entry.Route vr p) (attr.To x)))
        next-set f is = subst (λ z. KnowsIds names z → IsOver plan z → IsNextOf plan names z (next.Call (call.Set (entry.Route vr p) (attr.To x)))) (sym is) by
          where
            by : KnowsIds names (Stage step.Set (Some r)) → IsOver plan (Stage step.Set (Some r)) → IsNextOf plan names (Stage step.Set (Some r)) (next.Call (call.Set (entry.Route vr p) (attr.To x)))
            by knows over =
                let (q, has, at) = set_goal (Some r) over in
                let (i, there, same) = to-at plan names x over.plans r (goal_at t) (ap (goal_of plan) (same_Some r q has) ∙ at) to in
                let (j, in_router, told) = router_at plan names v vr router (have_both names v (pointed (Some (row.Route r)) (goal_at t)) knows).0 in
                let (old, held, named) = over.next in
                let (g, was) = is_route old v p named in (
                  Set (thing.Route v p (goal_at t)),
                  [],
                  refl,
                  record {
                    old = old;
                    there = in-left old (own_of plan (key.Route v p) (option_map row.Route applied)) (things_retired (option_map owner_for retires)) held;
                    same = named;
                    entry = entry.Route vr p;
                    of = route_entry v p (HasVid plan names) vr j in_router told old named;
                    attr = attr.To x;
                    change = subst (λ z. IsChange (HasVid plan names) z (attr.To x) (thing.Route v p (goal_at t))) (sym was) (goal_at t, i, there, same, refl);
                    is = refl;
                  },
                )

      pub next-take : (wanted : Option RouteRow) (f : Operation) → f ≡ Stage step.Take wanted → KnowsIds names f → IsOver plan f → IsNextOf plan names f (next.Call (call.Remove (entry.Route vr p)))
      next-take wanted f is = subst (λ z. KnowsIds names z → IsOver plan z → IsNextOf plan names z (next.Call (call.Remove (entry.Route vr p)))) (sym is) by
        where
          by : KnowsIds names (Stage step.Take wanted) → IsOver plan (Stage step.Take wanted) → IsNextOf plan names (Stage step.Take wanted) (next.Call (call.Remove (entry.Route vr p)))
          by knows over =
              let (j, in_router, told) = router_at plan names v vr router knows in
              let (old, held, named) = over.next in (
                Take (thing_name.Route v p),
                [],
                refl,
                record { old = old; there = held; same = named; entry = entry.Route vr p; of = route_entry v p (HasVid plan names) vr j in_router told old named; is = refl },
              )

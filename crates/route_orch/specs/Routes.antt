-- The operation of a route, as far as it is made: the route is made, or set to its new target, or removed. Own.
use Rattle.std.specs.Prelude.{◌≡◌, ℕ, Bool, true, List, [], ◌∷◌, length, Option, Some, None, option_map, if◌then◌else◌}
use Rattle.swss_types.specs.declared.address.Prefix.{Prefix}
use Rattle.swss_types.specs.declared.vrf.Vrf.{Vrf}
use Rattle.swss_types.specs.declared.vrf.Vrf.TheVariants as vrf
use Rattle.table_schema.specs.Plan.{Ports}
use Rattle.table_schema.specs.declared.key.Key.{Key}
use Rattle.table_schema.specs.declared.key.Key.TheVariants as key
use Rattle.switch_model.specs.Placed.{Placed as Row}
use Rattle.switch_model.specs.Placed as row
use Rattle.table_schema.specs.declared.row.RouteRow.{RouteRow}
use Rattle.sai_types.specs.contracts.thing.GoalPartialEq.TheImpl as goal_eq
use Rattle.sai_types.specs.declared.ids.Vid.{Vid}
use Rattle.sai_types.specs.declared.weight.WHop.{WHop}
use Rattle.sai_types.specs.declared.thing.Goal.{Goal}
use Rattle.sai_types.specs.declared.thing.Thing.TheVariants as thing
use Rattle.sai_types.specs.Names as thing_name
use Rattle.row_layout.specs.Operations.{Change, Make, Set, Take}
use Rattle.row_layout.specs.Rows.{Owner, Group}
use Rattle.ref_counts.specs.declared.name.Name.{Name}
use Rattle.ref_counts.specs.declared.name.Name.TheVariants as name
use Rattle.ref_counts.specs.Registered.{first_of}
use Rattle.ref_counts.specs.Registry.{Names, ids_of}
use Rattle.orch_flight.specs.Operation.{Operation}
use Rattle.orch_flight.specs.Sharing.{owner_for, owners_of}
use Rattle.orch_flight.specs.Starting.{first_left}
use Rattle.route_orch.specs.Targets.{AreGroups, IsTargetOf, goal_at}
use Rattle.route_orch.specs.declared.flight.RouteBody.{RouteBody}
use Rattle.route_orch.specs.declared.flight.RouteStep.{RouteStep}
use Rattle.route_orch.specs.declared.flight.RouteStep.TheVariants as step
use Rattle.route_orch.specs.declared.target.Target.{Target}

-- the places for a group that is built, and for a route where none is applied
abbrev pub places_needed : Bool → Option Name → Bool → List ℕ
places_needed true (Some (name.Group hops)) applied = 0 ∷ 0 ∷ 0 ∷ 0 ∷ 0 ∷ 0 ∷ 0 ∷ 0 ∷ 0 ∷ 1 ∷ length hops ∷ (if applied then 0 else 1) ∷ []
places_needed builds group applied = 0 ∷ 0 ∷ 0 ∷ 0 ∷ 0 ∷ 0 ∷ 0 ∷ 0 ∷ 0 ∷ 0 ∷ 0 ∷ (if applied then 0 else 1) ∷ []

-- the change that a step is
abbrev pub route_due : RouteStep → Vrf → Prefix → Goal → List Change
route_due step.Make v prefix g = Make (thing.Route v prefix g) ∷ []
route_due step.Set v prefix g = Set (thing.Route v prefix g) ∷ []
route_due step.Take v prefix g = Take (thing_name.Route v prefix) ∷ []
route_due step.Changed v prefix g = []
route_due step.Ended v prefix g = []

-- the row for which the route stands
abbrev pub stands_for : RouteStep → Option RouteRow → Option RouteRow → Option RouteRow
stands_for step.Changed old new = new
stands_for _ old new = old

abbrev pub route_operation : ℕ → Vrf → Prefix → Option RouteRow → Option RouteRow → Target → RouteStep → Option Name → Option Name → Operation
route_operation worker v prefix old new target s leaves retires = record { worker = worker; key = key.Route v prefix; now = option_map row.Route (stands_for s old new); new = option_map row.Route new; due = route_due s v prefix (goal_at target); leaves = option_map owner_for leaves; retires = option_map owner_for retires }

-- the first step: a route whose target stays needs none
abbrev pub first_step : Option Row → Option Row → Target → Target → RouteStep
first_step None None was target = step.Ended
first_step None (Some r) was target = step.Make
first_step (Some a) None was target = step.Take
first_step (Some a) (Some r) was target = if goal_eq.ghosts.eq (goal_at was) (goal_at target) then step.Ended else step.Set

-- an operation of which nothing is made
abbrev pub first_operation : ℕ → Vrf → Prefix → Option RouteRow → Option RouteRow → Target → Target → Operation
first_operation worker v prefix old new was target = record { worker = worker; key = key.Route v prefix; now = option_map row.Route old; new = option_map row.Route new; due = route_due (first_step (option_map row.Route old) (option_map row.Route new) was target) v prefix (goal_at target); leaves = first_left (owners_of target.group) (owners_of was.group); retires = None }

-- the step after one
abbrev pub later_step : RouteStep → RouteStep
later_step step.Set = step.Changed
later_step _ = step.Ended

-- the hops of a group's name, where it is one
abbrev pub group_hops : Option Name → Option (List WHop)
group_hops (Some (name.Group hops)) = Some hops
group_hops _ = None

-- what a route's flight is, as far as it is made, and the group that the new row has
pub record RouteState : Type 0 where
  pub operation : Operation
  pub group : Option (List WHop)

abbrev pub route_state : Option RouteRow → RouteBody → RouteState
route_state new b = record { operation = route_operation b.worker b.vrf b.prefix b.applied new b.target b.step b.leaves b.retires; group = group_hops b.target.group }

abbrev pub operation_of_route : RouteState → Operation
operation_of_route f = f.operation

-- what the route is part of are groups
pub record IsRouteKept (b : RouteBody) : Type 0 where
  pub has : AreGroups b.target.group
  pub leaves : AreGroups b.leaves
  pub retires : AreGroups b.retires

-- what is known at first of the operation that brings a route from one row to another
pub record IsFirst (plan : Ports) (worker : ℕ) (k : Key) (old new : Option Row) (b : RouteBody) : Type 0 where
  pub was : Target
  pub of_was : IsTargetOf plan k old was
  pub of_target : IsTargetOf plan k new b.target
  pub worker_is : b.worker ≡ worker
  pub key_is : k ≡ key.Route b.vrf b.prefix
  pub applied : option_map row.Route b.applied ≡ old
  pub step : b.step ≡ first_step old new was b.target
  pub leaves : option_map owner_for b.leaves ≡ first_left (owners_of b.target.group) (owners_of was.group)
  pub groups : AreGroups b.leaves
  pub retires : b.retires ≡ None

abbrev pub group_owners : Option (List WHop) → List Owner
group_owners None = []
group_owners (Some hops) = Group hops ∷ []

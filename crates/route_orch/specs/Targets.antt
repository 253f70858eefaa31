-- Where a route points. Own.
use Rattle.std.specs.Prelude.{◌≡◌, ℕ, ◌<◌, length, List, [], ◌∷◌, Option, Some, None}
use Rattle.table_schema.specs.Plan.{Ports}
use Rattle.table_schema.specs.declared.key.Key.{Key}
use Rattle.table_schema.specs.declared.key.Key.TheVariants as key
use Rattle.switch_model.specs.Placed.{Placed as Row}
use Rattle.switch_model.specs.Placed as row
use Rattle.table_schema.specs.declared.row.RouteRow.{RouteRow}
use Rattle.table_schema.specs.declared.row.RouteRow.TheVariants as route
use Rattle.table_schema.specs.declared.row_hop.RowHop.{RowHop}
use Rattle.sai_types.specs.declared.hop.Base.{Base}
use Rattle.sai_types.specs.declared.ids.Vid.{Vid}
use Rattle.sai_types.specs.declared.body.To.{To}
use Rattle.sai_types.specs.declared.body.To.TheVariants as to
use Rattle.sai_types.specs.declared.thing.Goal.{Goal}
use Rattle.sai_types.specs.declared.thing.Goal.TheVariants as goal
use Rattle.switch_model.specs.Things.{base_of}
use Rattle.row_layout.specs.Operations.{uses_of}
use Rattle.ref_counts.specs.declared.name.Name.{Name}
use Rattle.ref_counts.specs.declared.name.Name.TheVariants as name
use Rattle.ref_counts.specs.Registered.{first_of}
use Rattle.ref_counts.specs.Registry.{Names, ids_of}
use Rattle.orch_flight.specs.Sharing.{owners_of}
use Rattle.route_orch.specs.declared.target.Target.{Target}
use Rattle.route_orch.specs.declared.target.Way.{Way}
use Rattle.route_orch.specs.declared.target.Way.TheVariants as way

abbrev pub IsRouteKey : Key → Type 0
IsRouteKey (key.Route v prefix) = Unit {0}
IsRouteKey _ = ⊥

-- a row is a route's, where there is one
abbrev pub IsRouteRow : Option Row → Type 0
IsRouteRow None = Unit {0}
IsRouteRow (Some (row.Route r)) = Unit {0}
IsRouteRow (Some _) = ⊥

abbrev pub HasSeveral : RouteRow → Type 0
HasSeveral (route.Hops hops) = 1 < length hops
HasSeveral r = ⊥

-- it is the name of a group, where there is one
abbrev pub AreGroups : Option Name → Type 0
AreGroups None = Unit {0}
AreGroups (Some (name.Group hops)) = Unit {0}
AreGroups (Some _) = ⊥

abbrev pub way_goal : Way → Goal
way_goal way.Drop = goal.Drop
way_goal (way.Direct b) = goal.Direct b
way_goal (way.Via hop) = goal.Via hop

abbrev pub goal_with : Option Name → Way → Goal
goal_with (Some (name.Group hops)) w = goal.Group hops
goal_with _ w = way_goal w

abbrev pub goal_at : Target → Goal
goal_at t = goal_with t.group t.way

abbrev pub way_on : (Base → Way) → Option Base → Way
way_on f None = way.Drop
way_on f (Some b) = f b

-- the way of a row that has no group
abbrev pub row_way : Ports → RouteRow → Way
row_way plan route.Drop = way.Drop
row_way plan (route.Direct n) = way_on way.Direct (base_of plan n)
row_way plan (route.Hops []) = way.Drop
row_way plan (route.Hops (hop ∷ hops)) = way_on (λ b. way.Via (record { on = b; ip = hop.0.ip })) (base_of plan hop.0.on)

-- it is the target of a row: its group is what the row shares
pub record IsTargetOf (plan : Ports) (k : Key) (o : Option Row) (t : Target) : Type 0 where
  pub shares : uses_of plan k o ≡ owners_of t.group
  pub groups : AreGroups t.group
  pub way : (r : RouteRow) → o ≡ Some (row.Route r) → t.way ≡ row_way plan r

-- the identifier of the first of these hops
abbrev pub IsToFirst : Names → List (RowHop × ℕ) → To Vid → Type 0
IsToFirst names [] x = Unit {0}
IsToFirst names (h ∷ hs) x = (v : Vid) × (first_of (ids_of names (name.Row (key.Neigh h.0.on h.0.ip))) ≡ Some v) × (x ≡ to.NextHop v)

-- the registry has the identifier under the names that the row tells
abbrev pub PointsTo : Names → RouteRow → Goal → To Vid → Type 0
PointsTo names route.Drop g x = x ≡ to.Drop
PointsTo names (route.Direct n) g x = (v : Vid) × (first_of (ids_of names (name.Row (key.Intf n))) ≡ Some v) × (x ≡ to.Rif v)
PointsTo names (route.Hops hops) (goal.Group group) x = (v : Vid) × (first_of (ids_of names (name.Group group)) ≡ Some v) × (x ≡ to.Group v)
PointsTo names (route.Hops hops) g x = IsToFirst names hops x

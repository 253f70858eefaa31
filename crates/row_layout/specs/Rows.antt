-- Which object belongs to which row, or to what rows share. Own.
use Rattle.std.specs.Prelude.{◌≡◌, ℕ, List, [], ◌∷◌, Option, Some, None, option_map}
use Rattle.swss_types.specs.declared.address.Ip.{Ip}
use Rattle.swss_types.specs.declared.interface.IfName.{IfName}
use Rattle.swss_types.specs.declared.interface.IfName.TheVariants as on
use Rattle.swss_types.specs.declared.vrf.Vrf.{Vrf}
use Rattle.table_schema.specs.Plan.{Ports, lanes_in_plan, port_named}
use Rattle.table_schema.specs.declared.key.Key.{Key}
use Rattle.table_schema.specs.declared.key.Key.TheVariants as key
use Rattle.table_schema.specs.declared.row.RouteRow.{RouteRow}
use Rattle.table_schema.specs.declared.row.RouteRow.TheVariants as route
use Rattle.sai_types.specs.declared.hop.Base.{Base}
use Rattle.sai_types.specs.declared.hop.Base.TheVariants as base
use Rattle.sai_types.specs.declared.weight.WHop.{WHop}
use Rattle.sai_types.specs.declared.thing.Goal.{Goal}
use Rattle.sai_types.specs.declared.thing.Goal.TheVariants as goal
use Rattle.sai_types.specs.declared.thing.Thing.{Thing}
use Rattle.sai_types.specs.declared.thing.Thing.TheVariants as thing
use Rattle.switch_model.specs.Placed as row
use Rattle.switch_model.specs.Placed.{Placed as Row}
use Rattle.switch_model.specs.Things.{base_of, hops_of, lane_of}
use Rattle.sai_types.specs.Names.{ThingName}
use Rattle.sai_types.specs.Names as name

-- to whom an object belongs: a row, or a bridge port, an own address or a group that rows share
pub data Owner : Type 0 where
  OfRow : Key → Owner
  Bridge : ℕ → Owner
  Own : Vrf → Ip → Owner
  Group : List WHop → Owner

-- the name of the interface on a base
abbrev pub interface_on : Ports → Base → Option IfName
interface_on plan (base.Port lane) = option_map on.Ethernet (port_named plan lane)
interface_on plan (base.Vlan vlan) = Some (on.Vlan vlan)

-- the owner of what has this name
abbrev pub owner_of : Ports → ThingName → Option Owner
owner_of plan (name.Port lane) = option_map (λ p. OfRow (key.Port p)) (port_named plan lane)
owner_of plan (name.Vlan vlan) = Some (OfRow (key.Vlan vlan))
owner_of plan (name.VirtualRouter label) = Some (OfRow (key.Vrf label))
owner_of plan (name.BridgePort lane) = Some (Bridge lane)
owner_of plan (name.VlanMember vlan lane) = option_map (λ p. OfRow (key.Member vlan p)) (port_named plan lane)
owner_of plan (name.Rif b) = option_map (λ n. OfRow (key.Intf n)) (interface_on plan b)
owner_of plan (name.Own v ip) = Some (Own v ip)
owner_of plan (name.Neighbor hop) = option_map (λ n. OfRow (key.Neigh n hop.ip)) (interface_on plan hop.on)
owner_of plan (name.NextHop hop) = option_map (λ n. OfRow (key.Neigh n hop.ip)) (interface_on plan hop.on)
owner_of plan (name.Group hops) = Some (Group hops)
owner_of plan (name.GroupMember hops hop) = Some (Group hops)
owner_of plan (name.Route v prefix) = Some (OfRow (key.Route v prefix))

-- where a route's row points
abbrev pub goal_to : Option (List WHop) → Option Goal
goal_to None = None
goal_to (Some []) = None
goal_to (Some (hop ∷ [])) = Some (goal.Via hop.hop)
goal_to (Some (hop ∷ next ∷ hops)) = Some (goal.Group (hop ∷ next ∷ hops))

abbrev pub goal_of : Ports → RouteRow → Option Goal
goal_of plan route.Drop = Some goal.Drop
goal_of plan (route.Direct n) = option_map goal.Direct (base_of plan n)
goal_of plan (route.Hops hops) = goal_to (hops_of plan hops)

abbrev pub from : {X Y : Type 0} → Option X → (X → List Y) → List Y
from None f = []
from (Some x) f = f x

-- the things that belong to a row itself
abbrev pub own_things : Ports → Key → Row → List Thing
own_things plan (key.Port port) (row.Port r) = from (lane_of plan port) (λ lane. thing.Port (record { lanes = r.lanes; speed = r.speed; mtu = r.mtu; up = r.up }) ∷ [])
own_things plan (key.Vlan vlan) row.Vlan = thing.Vlan vlan ∷ []
own_things plan (key.Vrf label) row.Vrf = thing.VirtualRouter label ∷ []
own_things plan (key.Member vlan port) (row.Member tagging) = from (lane_of plan port) (λ lane. thing.VlanMember vlan lane tagging ∷ [])
own_things plan (key.Intf n) (row.Intf v) = from (base_of plan n) (λ b. thing.Rif b v ∷ [])
own_things plan (key.Neigh n ip) (row.Neigh mac) = from (base_of plan n) (λ b. thing.Neighbor (record { on = b; ip = ip }) mac ∷ thing.NextHop (record { on = b; ip = ip }) ∷ [])
own_things plan (key.Route v prefix) (row.Route r) = from (goal_of plan r) (λ g. thing.Route v prefix g ∷ [])
own_things plan _ _ = []

-- the row of a port has the lanes that the plan gives the port
abbrev pub IsPlanned : Ports → Key → Row → Type 0
IsPlanned plan (key.Port port) (row.Port r) = lanes_in_plan plan port ≡ Some r.lanes
IsPlanned plan _ _ = Unit {0}

-- What a row stands for on the chip. The objects are those that SONiC's orchestration agent makes for a row of the table; own: an interface's address as an object of its own.
use Rattle.std.specs.Prelude.{ℕ, List, [], ◌∷◌, Option, Some, None, option_map}
use Rattle.swss_types.specs.declared.address.Ip.{Ip}
use Rattle.swss_types.specs.declared.address.Prefix.{Prefix}
use Rattle.swss_types.specs.declared.interface.IfName.{IfName}
use Rattle.swss_types.specs.declared.interface.IfName.TheVariants as name
use Rattle.swss_types.specs.declared.vrf.Vrf.{Vrf}
use Rattle.table_schema.specs.declared.key.Key.{Key}
use Rattle.table_schema.specs.declared.key.Key.TheVariants as key
use Rattle.table_schema.specs.declared.row.RouteRow.{RouteRow}
use Rattle.table_schema.specs.declared.row.RouteRow.TheVariants as route
use Rattle.table_schema.specs.declared.row_hop.RowHop.{RowHop}
use Rattle.table_schema.specs.Plan.{Ports, lanes_in_plan}
use Rattle.sai_types.specs.declared.hop.Base.{Base}
use Rattle.sai_types.specs.declared.hop.Base.TheVariants as base
use Rattle.sai_types.specs.declared.hop.Hop.{Hop}
use Rattle.sai_types.specs.declared.weight.WHop.{WHop}
use Rattle.sai_types.specs.declared.thing.Goal.TheVariants as goal
use Rattle.sai_types.specs.declared.thing.Thing.{Thing}
use Rattle.sai_types.specs.declared.thing.Thing.TheVariants as thing
use Rattle.sai_types.specs.Hop.{put_hop}
use Rattle.sai_types.specs.Named.{first_lane, both}
use Rattle.switch_model.specs.Placed as row
use Rattle.switch_model.specs.Placed.{Placed}

-- the first lane of a port of the plan
abbrev pub lane_of : Ports → ℕ → Option ℕ
lane_of plan port = option_map first_lane (lanes_in_plan plan port)

-- what an interface's router interface stands on; a loopback interface has none
abbrev pub base_of : Ports → IfName → Option Base
base_of plan (name.Ethernet port) = option_map base.Port (lane_of plan port)
base_of plan (name.Vlan vlan) = Some (base.Vlan vlan)
base_of plan (name.Loopback number) = None

abbrev pub hop_of : Ports → RowHop → Option Hop
hop_of plan hop = option_map (λ b. record { on = b; ip = hop.ip }) (base_of plan hop.on)

-- a hop with its weight
abbrev pub whop_of : Ports → RowHop × ℕ → Option WHop
whop_of plan hop = option_map (λ h. record { hop = h; weight = hop.1 }) (hop_of plan hop.0)

-- the hops of a row as hops of the chip with their weights, the hops rising
abbrev pub hops_of : Ports → List (RowHop × ℕ) → Option (List WHop)
hops_of plan [] = Some []
hops_of plan (hop ∷ hops) = both put_hop (hops_of plan hops) (whop_of plan hop)

-- a member for each hop
abbrev pub members_of : List WHop → List WHop → List Thing
members_of group [] = []
members_of group (hop ∷ hops) = thing.GroupMember group hop ∷ members_of group hops

-- a route to one hop, whose weight says nothing, or to a group of hops, which it brings along
abbrev pub route_to : Vrf → Prefix → List WHop → List Thing
route_to v prefix [] = []
route_to v prefix (hop ∷ []) = thing.Route v prefix (goal.Via hop.hop) ∷ []
route_to v prefix (hop ∷ next ∷ hops) =
    let group = hop ∷ next ∷ hops in
    thing.Route v prefix (goal.Group group) ∷ thing.Group group ∷ members_of group group

abbrev pub from_hops : Vrf → Prefix → Option (List WHop) → List Thing
from_hops v prefix None = []
from_hops v prefix (Some hops) = route_to v prefix hops

abbrev pub from_base : (Base → List Thing) → Option Base → List Thing
from_base f None = []
from_base f (Some b) = f b

abbrev pub from_lane : (ℕ → List Thing) → Option ℕ → List Thing
from_lane f None = []
from_lane f (Some lane) = f lane

abbrev pub route_things : Ports → Vrf → Prefix → RouteRow → List Thing
route_things plan v prefix route.Drop = thing.Route v prefix goal.Drop ∷ []
route_things plan v prefix (route.Direct on) = from_base (λ b. thing.Route v prefix (goal.Direct b) ∷ []) (base_of plan on)
route_things plan v prefix (route.Hops hops) = from_hops v prefix (hops_of plan hops)

-- the address of an interface, which is the switch's own: none where its port is not in the plan
abbrev pub address_things : Ports → IfName → Vrf → Ip → List Thing
address_things plan (name.Ethernet port) v ip = from_lane (λ lane. thing.Own v ip ∷ []) (lane_of plan port)
address_things plan (name.Vlan vlan) v ip = thing.Own v ip ∷ []
address_things plan (name.Loopback number) v ip = thing.Own v ip ∷ []

-- the things of a row: none for a loopback interface, whose addresses have theirs, nor where a port is not in the plan
abbrev pub things_of : Ports → Key → Placed → List Thing
things_of plan (key.Port port) (row.Port r) = from_lane (λ lane. thing.Port (record { lanes = r.lanes; speed = r.speed; mtu = r.mtu; up = r.up }) ∷ []) (lane_of plan port)
things_of plan (key.Vlan vlan) row.Vlan = thing.Vlan vlan ∷ []
things_of plan (key.Vrf n) row.Vrf = thing.VirtualRouter n ∷ []
things_of plan (key.Member vlan port) (row.Member tagging) = from_lane (λ lane. thing.BridgePort lane ∷ thing.VlanMember vlan lane tagging ∷ []) (lane_of plan port)
things_of plan (key.Intf on) (row.Intf v) = from_base (λ b. thing.Rif b v ∷ []) (base_of plan on)
things_of plan (key.Addr on ip len) (row.Addr v) = address_things plan on v ip
things_of plan (key.Neigh on ip) (row.Neigh mac) = from_base (λ b. thing.Neighbor (record { on = b; ip = ip }) mac ∷ thing.NextHop (record { on = b; ip = ip }) ∷ []) (base_of plan on)
things_of plan (key.Route v prefix) (row.Route r) = route_things plan v prefix r
things_of plan _ _ = []

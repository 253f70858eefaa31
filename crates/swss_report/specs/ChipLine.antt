-- The line of a thing that stands on the chip. Own form; the words are those of the SAI object types.
use Rattle.std.specs.Prelude.{ℕ, ◌==◌, Bool, true, false, List, [], ◌∷◌, ◌++◌, flat_map, codes, Option, Some, None, if◌then◌else◌}
use Rattle.std.specs.Fmt.{decimal}
use Rattle.swss_types.specs.Interface.{if_name_text}
use Rattle.swss_types.specs.Ip.{ip_text}
use Rattle.swss_types.specs.Lanes.{lanes_text}
use Rattle.swss_types.specs.Mac.{mac_text}
use Rattle.swss_types.specs.Prefix.{prefix_text}
use Rattle.swss_types.specs.Tagging.{tagging_text}
use Rattle.swss_types.specs.VrfNames.{vrf_name_text}
use Rattle.swss_types.specs.declared.tagging.Tagging.{Tagging}
use Rattle.swss_types.specs.declared.interface.IfName.TheVariants as name
use Rattle.swss_types.specs.declared.vrf.Vrf.{Vrf}
use Rattle.swss_types.specs.declared.vrf.Vrf.TheVariants as vrf
use Rattle.table_schema.specs.Plan.{Ports, port_named}
use Rattle.sai_types.specs.Named.{first_lane}
use Rattle.sai_types.specs.declared.hop.Base.{Base}
use Rattle.sai_types.specs.declared.hop.Base.TheVariants as base
use Rattle.sai_types.specs.declared.hop.Hop.{Hop}
use Rattle.sai_types.specs.declared.weight.WHop.{WHop}
use Rattle.sai_types.specs.declared.thing.Goal.{Goal}
use Rattle.sai_types.specs.declared.thing.Goal.TheVariants as goal
use Rattle.sai_types.specs.declared.thing.PortThing.{PortThing}
use Rattle.sai_types.specs.declared.thing.Thing.{Thing}
use Rattle.sai_types.specs.declared.thing.Thing.TheVariants as thing

abbrev pub port_text : Option ℕ → List ℕ
port_text None = []
port_text (Some port) = if_name_text (name.Ethernet port)

-- a port goes by its name in the plan, a VLAN by its number
abbrev pub base_text : Ports → Base → List ℕ
base_text plan (base.Port lane) = port_text (port_named plan lane)
base_text plan (base.Vlan vlan) = if_name_text (name.Vlan vlan)

-- an address on an interface
abbrev pub hop_text : Ports → Hop → List ℕ
hop_text plan hop = ip_text hop.ip ++ 64 ∷ base_text plan hop.on

-- a weight behind its hop, unless it is 1
abbrev pub weight_text : ℕ → List ℕ
weight_text weight = if weight == 1 then [] else 42 ∷ decimal weight

abbrev pub whop_text : Ports → WHop → List ℕ
whop_text plan whop = hop_text plan whop.hop ++ weight_text whop.weight

-- hops joined by commas, or `-` for none
abbrev pub hops_text : Ports → List WHop → List ℕ
hops_text plan [] = 45 ∷ []
hops_text plan (hop ∷ hops) = whop_text plan hop ++ flat_map (λ h. 44 ∷ whop_text plan h) hops

abbrev pub admin_text : Bool → List ℕ
admin_text true = codes " admin up"
admin_text false = codes " admin down"

abbrev pub port_line : Ports → PortThing → List ℕ
port_line plan port = codes "PORT " ++ base_text plan (base.Port (first_lane port.lanes)) ++ codes " lanes " ++ lanes_text port.lanes ++ codes " speed " ++ decimal port.speed ++ codes " mtu " ++ decimal port.mtu ++ admin_text port.up

abbrev pub goal_text : Ports → Goal → List ℕ
goal_text plan goal.Drop = codes " drop"
goal_text plan (goal.Direct b) = codes " direct " ++ base_text plan b
goal_text plan (goal.Via hop) = codes " via " ++ hop_text plan hop
goal_text plan (goal.Group hops) = codes " group " ++ hops_text plan hops

-- a port's membership of a VLAN
abbrev pub membership_text : Ports → ℕ → ℕ → Tagging → List ℕ
membership_text plan vlan lane tagging = if_name_text (name.Vlan vlan) ++ 32 ∷ (port_text (port_named plan lane) ++ 32 ∷ tagging_text tagging)

-- the virtual router that something is in, unless it is the default one
abbrev pub within_text : Vrf → List ℕ
within_text vrf.Default = []
within_text (vrf.Named label) = codes " in " ++ vrf_name_text label

-- the words of a thing
abbrev pub thing_text : Ports → Thing → List ℕ
thing_text plan (thing.Port port) = port_line plan port
thing_text plan (thing.Vlan vlan) = codes "VLAN " ++ base_text plan (base.Vlan vlan)
thing_text plan (thing.VirtualRouter label) = codes "VIRTUAL_ROUTER " ++ vrf_name_text label
thing_text plan (thing.BridgePort lane) = codes "BRIDGE_PORT " ++ base_text plan (base.Port lane)
thing_text plan (thing.VlanMember vlan lane tagging) = codes "VLAN_MEMBER " ++ membership_text plan vlan lane tagging
thing_text plan (thing.Rif b v) = codes "RIF " ++ base_text plan b ++ within_text v
thing_text plan (thing.Own v ip) = codes "OWN_ADDRESS " ++ ip_text ip ++ within_text v
thing_text plan (thing.Neighbor hop mac) = codes "NEIGHBOR " ++ base_text plan hop.on ++ 32 ∷ ip_text hop.ip ++ 32 ∷ mac_text mac
thing_text plan (thing.NextHop hop) = codes "NEXT_HOP " ++ hop_text plan hop
thing_text plan (thing.Group hops) = codes "GROUP " ++ hops_text plan hops
thing_text plan (thing.GroupMember hops hop) = codes "GROUP_MEMBER " ++ hops_text plan hops ++ 32 ∷ whop_text plan hop
thing_text plan (thing.Route v prefix goal) = codes "ROUTE " ++ prefix_text prefix ++ within_text v ++ goal_text plan goal

-- the line of a thing
abbrev pub chip_line : Ports → Thing → List ℕ
chip_line plan t = thing_text plan t ++ 10 ∷ []

-- three things that rows share, a router with a route, and an interface that moves, worked out by computation: nothing cites them, and they show that the definitions say what is meant
use Rattle.std.proofs.Common.{◌≡◌, ℕ, ◌+◌, Bool, true, false, List, [], ◌∷◌, None, Some, codes, refl}
use Rattle.swss_types.specs.declared.address.Family.TheVariants.{V4}
use Rattle.swss_types.specs.declared.address.Ip.{Ip}
use Rattle.swss_types.specs.declared.address.Prefix.{Prefix}
use Rattle.swss_types.specs.declared.interface.IfName.TheVariants as on
use Rattle.swss_types.specs.declared.tagging.Tagging.TheVariants.{Untagged}
use Rattle.swss_types.specs.declared.vrf.Vrf.TheVariants as vrf
use Rattle.swss_types.specs.declared.vrf.VrfName.{VrfName}
use Rattle.swss_types.specs.VrfNames.{filled_label}
use Rattle.table_schema.specs.Plan.{Ports}
use Rattle.table_schema.specs.declared.key.Key.TheVariants as key
use Rattle.table_schema.specs.declared.row.RouteRow.TheVariants as route
use Rattle.sai_types.specs.declared.hop.Base.TheVariants as base
use Rattle.sai_types.specs.declared.weight.WHop.{WHop}
use Rattle.sai_types.specs.declared.thing.Goal.TheVariants as goal
use Rattle.sai_types.specs.declared.thing.Thing.TheVariants as thing
use Rattle.sai_types.specs.Names as name
use Rattle.switch_model.specs.Placed as row
use Rattle.switch_model.specs.Placed.{Placed as Row}
use Rattle.row_layout.specs.Operations.{Make, Set, Take, changes_of}
use Rattle.row_layout.specs.Rows.{Owner}

-- two ports
abbrev ports : Ports
ports = (0, 0 ∷ 1 ∷ []) ∷ (4, 4 ∷ 5 ∷ []) ∷ []

-- no other row uses what a row shares, and another row does
abbrev alone : Owner → Bool
alone o = false

abbrev shared : Owner → Bool
shared o = true

-- ---- a bridge port that the members of two VLANs share, and that goes with the last

abbrev member : Row
member = row.Member Untagged

first_member : changes_of ports (key.Member 10 4) None (Some member) alone ≡ Make (thing.BridgePort 4) ∷ Make (thing.VlanMember 10 4 Untagged) ∷ []
first_member = refl

second_member : changes_of ports (key.Member 20 4) None (Some member) shared ≡ Make (thing.VlanMember 20 4 Untagged) ∷ []
second_member = refl

member_goes : changes_of ports (key.Member 10 4) (Some member) None shared ≡ Take (name.VlanMember 10 4) ∷ []
member_goes = refl

last_member_goes : changes_of ports (key.Member 20 4) (Some member) None alone ≡ Take (name.VlanMember 20 4) ∷ Take (name.BridgePort 4) ∷ []
last_member_goes = refl

-- ---- an own address of two rows

abbrev ten : ℕ → Ip
ten n = record { family = V4; bits = 167772160 + n }

first_address : changes_of ports (key.Addr (on.Ethernet 0) (ten 1) 24) None (Some (row.Addr vrf.Default)) alone ≡ Make (thing.Own vrf.Default (ten 1)) ∷ []
first_address = refl

second_address : changes_of ports (key.Addr (on.Vlan 10) (ten 1) 31) None (Some (row.Addr vrf.Default)) shared ≡ []
second_address = refl

address_goes : changes_of ports (key.Addr (on.Ethernet 0) (ten 1) 24) (Some (row.Addr vrf.Default)) None shared ≡ []
address_goes = refl

last_address_goes : changes_of ports (key.Addr (on.Vlan 10) (ten 1) 31) (Some (row.Addr vrf.Default)) None alone ≡ Take (name.Own vrf.Default (ten 1)) ∷ []
last_address_goes = refl

-- ---- a group that two routes share

abbrev net : ℕ → Prefix
net n = record { ip = ten n; len = 24 }

-- the hops of the row by interface name and address, and of the chip by base and address, each with its weight
abbrev hops : Row
hops = row.Route (route.Hops ((record { on = on.Ethernet 0; ip = ten 2 }, 3) ∷ (record { on = on.Ethernet 4; ip = ten 3 }, 1) ∷ []))

abbrev one : WHop
one = record { hop = record { on = base.Port 0; ip = ten 2 }; weight = 3 }

abbrev other : WHop
other = record { hop = record { on = base.Port 4; ip = ten 3 }; weight = 1 }

abbrev group : List WHop
group = one ∷ other ∷ []

first_route : changes_of ports (key.Route vrf.Default (net 256)) None (Some hops) alone ≡ Make (thing.Group group) ∷ Make (thing.GroupMember group one) ∷ Make (thing.GroupMember group other) ∷ Make (thing.Route vrf.Default (net 256) (goal.Group group)) ∷ []
first_route = refl

second_route : changes_of ports (key.Route vrf.Default (net 512)) None (Some hops) shared ≡ Make (thing.Route vrf.Default (net 512) (goal.Group group)) ∷ []
second_route = refl

route_turns : changes_of ports (key.Route vrf.Default (net 256)) (Some hops) (Some (row.Route route.Drop)) shared ≡ Set (thing.Route vrf.Default (net 256) goal.Drop) ∷ []
route_turns = refl

last_route_goes : changes_of ports (key.Route vrf.Default (net 512)) (Some hops) None alone ≡ Take (name.Route vrf.Default (net 512)) ∷ Take (name.GroupMember group one) ∷ Take (name.GroupMember group other) ∷ Take (name.Group group) ∷ []
last_route_goes = refl

-- ---- a virtual router, and a route in it

abbrev red : VrfName
red = record { 0 = filled_label (codes "red") }

router_is_made : changes_of ports (key.Vrf red) None (Some row.Vrf) alone ≡ Make (thing.VirtualRouter red) ∷ []
router_is_made = refl

router_goes : changes_of ports (key.Vrf red) (Some row.Vrf) None alone ≡ Take (name.VirtualRouter red) ∷ []
router_goes = refl

route_in_router : changes_of ports (key.Route (vrf.Named red) (net 512)) None (Some hops) shared ≡ Make (thing.Route (vrf.Named red) (net 512) (goal.Group group)) ∷ []
route_in_router = refl

-- ---- an interface that goes over to another router, and an address in it

interface_moves : changes_of ports (key.Intf (on.Ethernet 0)) (Some (row.Intf vrf.Default)) (Some (row.Intf (vrf.Named red))) alone ≡ Take (name.Rif (base.Port 0)) ∷ Make (thing.Rif (base.Port 0) (vrf.Named red)) ∷ []
interface_moves = refl

interface_stays : changes_of ports (key.Intf (on.Ethernet 0)) (Some (row.Intf (vrf.Named red))) (Some (row.Intf (vrf.Named red))) alone ≡ []
interface_stays = refl

loopback_moves : changes_of ports (key.Intf (on.Loopback 0)) (Some (row.Intf vrf.Default)) (Some (row.Intf (vrf.Named red))) alone ≡ []
loopback_moves = refl

address_in_router : changes_of ports (key.Addr (on.Loopback 0) (ten 1) 32) None (Some (row.Addr (vrf.Named red))) alone ≡ Make (thing.Own (vrf.Named red) (ten 1)) ∷ []
address_in_router = refl
